use Rattle.std.proofs.Common.{◌≡◌, ◌||◌, map, drop}
use Rattle.hare_rules.specs.Control.{Pattern, pattern_of, stands_among}
use Rattle.rule_match.specs.Patterns.{holds}
use Rattle.rule_match.proofs.listed.Patterns.of_cases.Given as goal

-- those that are listed, and those that are left
abbrev pub invariant-loop-i : goal.invariant-loop-i
invariant-loop-i l =
    (p : Pattern) → (holds l.all p || stands_among (map pattern_of (drop l.i l.kids)) p) ≡ stands_among (map pattern_of (drop 1 l.kids)) p
