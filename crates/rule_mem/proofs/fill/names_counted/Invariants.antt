use Rattle.std.proofs.Common.{◌≡◌, ℕ, ◌+◌, ◌<◌, drop, nat_eq}
use Rattle.std.specs.Option.{unwrap_or}
use Rattle.indexmap.specs.IndexMap.{get}
use Rattle.hare_rules.specs.Aggregates.{but_last}
use Rattle.rule_mem.specs.Filled.{values_of, times_named}
use Rattle.rule_mem.proofs.fill.names_counted.Given as goal

-- what is counted, and what is left to be counted
abbrev pub invariant-loop-i : goal.invariant-loop-i
invariant-loop-i l = record {
  counted : (n : ℕ) → unwrap_or (get nat_eq l.named n) 0 + times_named l.s n (but_last (drop l.i l.kids)) ≡
      times_named l.s n (values_of l.kids);
  few : (n : ℕ) → unwrap_or (get nat_eq l.named n) 0 < l.i;
}
