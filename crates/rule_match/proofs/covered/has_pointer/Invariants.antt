use Rattle.std.proofs.Common.{◌≡◌, map, drop}
use Rattle.std.specs.List.{list_any}
use Rattle.hare_types.specs.Store.{Store}
use Rattle.hare_types.specs.Later.{IsLater}
use Rattle.hare_rules.specs.Control.{pattern_of}
use Rattle.rule_match.specs.Patterns.{points_to}
use Rattle.rule_match.proofs.covered.has_pointer.Given as goal

abbrev pub invariant-loop-i : goal.invariant-loop-i
invariant-loop-i l =
    (f : Store) → IsLater l.s f
    → list_any (points_to f l.pointee) (map pattern_of (drop 1 l.kids)) ≡ list_any (points_to f l.pointee)
    (map pattern_of (drop l.i l.kids))
