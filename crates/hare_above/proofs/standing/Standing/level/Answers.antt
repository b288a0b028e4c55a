use Rattle.std.proofs.Common.{ap, length, ◌∙◌}
use Rattle.hare_above.proofs.FrameLemmas.{length-opens}
use Rattle.hare_above.proofs.standing.Standing.level.Goals as goal

pub returns : goal.returns
returns c =
    c.len.ensures ∙ length-opens c.self.inside.case.inside.labels c.self.inside.hints c.self.invariant.hints
    ∙ ap (λ s. length s.above.inside.labels) c.self.view_is
