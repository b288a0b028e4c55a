use Rattle.std.proofs.Common.{◌≡◌, ◌≤◌, ◌+◌, ◌*◌, ◌^◌, drop, Some}
use Rattle.hare_types.specs.Store.{Store}
use Rattle.hare_types.specs.Later.{IsLater}
use Rattle.hare_rules.specs.Constants.{each_label}
use Rattle.rule_switch.specs.Labels.{counted, range_told}
use Rattle.rule_switch.proofs.covered.count_within.Given as goal

-- those that are counted, and those that are left
abbrev pub invariant-loop-i : goal.invariant-loop-i
invariant-loop-i l = record {
  whole : (f : Store) → IsLater l.s f →
      l.count + counted (range_told l.limits) (each_label f (Some l.t) (drop l.i l.kids)) ≡
      counted (range_told l.limits) (each_label f (Some l.t) (drop 1 l.kids));
  few : l.count ≤ l.i * 2 ^ 64;
}
