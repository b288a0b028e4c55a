use Rattle.std.proofs.lemmas.Slice.Eq.{strip_prefix_is}
use Rattle.std.proofs.lemmas.Bool.Decides.{Decides-eqb}
use Rattle.il_read.proofs.Fronts.{behind_is}
use Rattle.il_read.proofs.front.behind.Goals as goal

pub returns : goal.returns
returns c = behind_is c.args.bytes.now c.args.s.now _
    (strip_prefix_is Decides-eqb c.args.s.now c.args.bytes.now _ c.strip_prefix.ensures.cases)
