use Rattle.std.proofs.Common.{◌≡◌, ◌≤◌, ◌+◌, drop, map, Some}
use Rattle.hare_types.specs.Store.{Store}
use Rattle.hare_types.specs.Later.{IsLater}
use Rattle.hare_rules.specs.Aggregates.{but_last}
use Rattle.hare_rules.specs.Constants.{labelled}
use Rattle.rule_switch.specs.Labels.{counted, range_told}
use Rattle.rule_switch.proofs.covered.count_values.Given as goal

-- those that are counted, and those that are left
abbrev pub invariant-loop-i : goal.invariant-loop-i
invariant-loop-i l = record {
  whole : (f : Store) → IsLater l.s f →
      l.count + counted (range_told l.limits) (map (labelled f (Some l.t)) (but_last (drop l.i l.values))) ≡
      counted (range_told l.limits) (map (labelled f (Some l.t)) (but_last l.values));
  few : l.count ≤ l.i;
}
