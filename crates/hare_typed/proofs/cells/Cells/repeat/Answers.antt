use Rattle.std.proofs.Common.{◌≤◌, ◌++◌, length, drop, ◌∙◌, ap, subst, rules}
use Rattle.hare_typed.specs.Repeats.{again}
use Rattle.hare_typed.proofs.RepeatLemmas.{fit-pushed, repeated-pushed, again-nothing, again-never}
use Rattle.hare_typed.proofs.cells.Cells.repeat.Goals.{then-to-from-via-then-to-from, then-to-from-via-else-to-from+then-more-eq0}
use Rattle.hare_typed.proofs.cells.Cells.repeat.Goals as goal

pub returns-then-to-from-clause-ok : goal.returns-then-to-from-clause-ok
returns-then-to-from-clause-ok c =
    elim c.then-to-from.branch [
      | then-to-from-via-then-to-from w ↦
          let none : length c.args.self.now ≤ c.args.from =
          subst (λ cs. length cs ≤ c.args.from) c.self.view_is (subst (λ n. n ≤ c.args.from) c.self.invariant.1 w.if-to-from.true) in
          again-nothing c.args.more c.args.from c.args.self.now none
      | then-to-from-via-else-to-from+then-more-eq0 w ↦
          again-never c.args.more (drop c.args.from c.args.self.now) c.args.self.now w.if-more-eq0.true
    ]

pub invariant_of-self-2 : goal.invariant_of-self-2
invariant_of-self-2 c =
    fit-pushed c.self.inside.repeats.items _ (record { from = c.args.from; to = c.self.inside.count; more = c.args.more })
    c.self.inside.written.items c.self.inside.count _ c.in_ok-push.ensures.items c.if-to-from.false (search rules) (search rules)
    c.self.invariant.0 c.self.invariant.1

pub returns-clause-ok : goal.returns-clause-ok
returns-clause-ok c =
    repeated-pushed c.self.inside.repeats.items _ (record { from = c.args.from; to = c.self.inside.count; more = c.args.more })
    c.self.inside.written.items c.in_ok-push.ensures.items c.self.invariant.1
    ∙ ap (λ cs. cs ++ again c.args.more (drop c.args.from cs)) c.self.view_is
