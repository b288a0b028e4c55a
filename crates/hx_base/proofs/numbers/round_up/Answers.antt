use Rattle.hx_base.proofs.NumberLemmas.{round_up-mask}
use Rattle.hx_base.proofs.numbers.round_up.Goals as goal

pub returns : goal.returns
returns c = round_up-mask c.args.v c.args.a c.requires.power.0 c.requires.power.1 c.requires.fits
