use Rattle.std.proofs.Common.{◌≡◌, drop}
use Rattle.hare_rules.specs.Constants.{all_values}
use Rattle.rule_switch.proofs.OddLemmas.{odd_place}
use Rattle.rule_switch.proofs.odd.odd_value.Given as goal

-- none was found so far
abbrev pub invariant-loop-i : goal.invariant-loop-i
invariant-loop-i l = odd_place (all_values (drop l.i l.t.kids.now)) ≡ odd_place (all_values (drop 1 l.t.kids.now))
