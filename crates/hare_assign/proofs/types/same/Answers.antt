use Rattle.std.proofs.Common.{◌∙◌}
use Rattle.hare_assign.proofs.SameLemmas.{same-ids}
use Rattle.hare_assign.proofs.types.same.Goals as goal

pub returns : goal.returns
returns c = c.eq.ensures ∙ same-ids c.args.s.now c.row-law.ensures.sound c.args.a c.args.b c.requires.first c.requires.second
