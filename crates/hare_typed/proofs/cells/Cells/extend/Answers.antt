use Rattle.std.proofs.Common.{◌≡◌, ◌++◌, ◌∙◌, ap, rules}
use Rattle.hare_typed.specs.Repeats.{repeated}
use Rattle.hare_typed.proofs.RepeatLemmas.{extended, repeated-append}
use Rattle.hare_typed.proofs.cells.Cells.extend.Goals as goal

pub invariant_of-self-2 : goal.invariant_of-self-2
invariant_of-self-2 c =
    extended c.self.inside.repeats.items c.self.inside.written.items c.args.cells.now c.extend_from_slice.new.self.items
    c.self.inside.count c.in-Some.count
    (search rules) (search rules) c.self.invariant.0 c.self.invariant.1

pub returns-clause-ok : goal.returns-clause-ok
returns-clause-ok c =
    ap (repeated c.self.inside.repeats.items) c.in_ok-extend_from_slice.ensures.items
    ∙ repeated-append c.self.inside.repeats.items c.self.inside.written.items c.args.cells.now c.self.invariant.0
    ∙ ap (λ cs. cs ++ c.args.cells.now) c.self.view_is
