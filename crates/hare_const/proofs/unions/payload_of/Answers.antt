use Rattle.hare_const.proofs.UnionLemmas.{payload_aligned}
use Rattle.hare_const.proofs.unions.payload_of.Goals as goal

pub returns : goal.returns
returns c = payload_aligned c.args.s.now c.args.t c.align_of.result c.requires.fits c.requires.union c.align_of.ensures
