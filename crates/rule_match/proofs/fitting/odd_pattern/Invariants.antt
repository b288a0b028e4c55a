use Rattle.std.proofs.Common.{◌≡◌, not, drop}
use Rattle.std.specs.Prelude.{find}
use Rattle.hare_types.specs.Store.{Store}
use Rattle.hare_types.specs.Later.{IsLater}
use Rattle.hare_typed.specs.Given.{given}
use Rattle.hare_typed.specs.Order.{tree_from_front}
use Rattle.hare_rules.specs.Control.{fits_pattern, odd_case, pattern_of}
use Rattle.rule_judge.specs.Turns.{context_in}
use Rattle.rule_match.proofs.fitting.odd_pattern.Given as goal

abbrev pub invariant-loop-i : goal.invariant-loop-i
invariant-loop-i l =
    (f : Store) → IsLater l.s f
    → odd_case (context_in f l.t) ≡ find (λ x. not (fits_pattern f (given (tree_from_front 0 l.t.kids.now)) (pattern_of x)))
    (drop l.i l.t.kids.now)
