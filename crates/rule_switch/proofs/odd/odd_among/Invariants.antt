use Rattle.std.proofs.Common.{◌≡◌, drop}
use Rattle.hare_rules.specs.Aggregates.{but_last}
use Rattle.rule_switch.proofs.OddLemmas.{odd_place}
use Rattle.rule_switch.proofs.odd.odd_among.Given as goal

-- none was found so far
abbrev pub invariant-loop-i : goal.invariant-loop-i
invariant-loop-i l = odd_place (but_last (drop l.i l.values)) ≡ odd_place (but_last l.values)
