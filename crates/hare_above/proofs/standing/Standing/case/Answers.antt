use Rattle.std.proofs.Common.{ap, ◌∙◌}
use Rattle.hare_above.specs.Stands.{told_case}
use Rattle.hare_above.proofs.FrameLemmas.{told-is}
use Rattle.hare_above.proofs.standing.Standing.case.Goals as goal

pub returns : goal.returns
returns c = told-is c.self.inside.case c.self.inside.hints c.self.invariant.hints ∙ ap told_case c.self.view_is
