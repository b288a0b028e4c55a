use Rattle.std.proofs.Common.{[], ◌∷◌, ◌++◌, ◌∙◌, ap, rules}
use Rattle.hare_typed.specs.Repeats.{repeated}
use Rattle.hare_typed.proofs.RepeatLemmas.{pushed, repeated-append}
use Rattle.hare_typed.proofs.cells.Cells.push.Goals as goal

pub invariant_of-self-2 : goal.invariant_of-self-2
invariant_of-self-2 c =
    pushed c.self.inside.repeats.items c.self.inside.written.items _ c.args.cell c.self.inside.count c.in-Some.count
    c.in_ok-push.ensures.items (search rules) c.self.invariant.0 c.self.invariant.1

pub returns-clause-ok : goal.returns-clause-ok
returns-clause-ok c =
    ap (repeated c.self.inside.repeats.items) c.in_ok-push.ensures.items
    ∙ repeated-append c.self.inside.repeats.items c.self.inside.written.items (c.args.cell ∷ []) c.self.invariant.0
    ∙ ap (λ cs. cs ++ c.args.cell ∷ []) c.self.view_is
