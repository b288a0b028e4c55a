use Rattle.std.proofs.Common.{◌≡◌, drop}
use Rattle.std.specs.List.{list_any}
use Rattle.hare_types.specs.Store.{Store}
use Rattle.hare_types.specs.Later.{IsLater}
use Rattle.hare_rules.specs.Words.{is_never}
use Rattle.hare_rules.specs.Context.{own_type}
use Rattle.hare_rules.specs.Control.{statements}
use Rattle.rule_judge.specs.Turns.{context_in}
use Rattle.rule_judge.proofs.yields.is_open.Given as goal

abbrev pub invariant-loop-i : goal.invariant-loop-i
invariant-loop-i l = (f : Store) → IsLater l.s f →
    list_any (λ x. is_never f (own_type x)) (statements (context_in f l.t)) ≡
    list_any (λ x. is_never f (own_type x)) (drop l.i l.t.kids.now)
