use Rattle.std.proofs.Common.{◌≡◌, ◌≤◌, map, None}
use Rattle.std.specs.Prelude.{replicate}
use Rattle.hare_find.specs.Settling.{option_in}
use Rattle.hare_find.proofs.finding.nones.Given as goal

abbrev pub invariant-loop : goal.invariant-loop
invariant-loop l = record {
  within : l.counter ≤ l.count;
  xs : map option_in l.xs ≡ replicate l.counter None;
}
