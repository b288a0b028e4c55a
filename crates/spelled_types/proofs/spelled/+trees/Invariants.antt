use Rattle.std.proofs.Common.{◌≤◌, length}
use Rattle.hare_types.specs.Rows.{AllBelow}
use Rattle.spelled_types.proofs.spelled.+trees.Given as goal

abbrev pub invariant-types_of-loop-i : goal.invariant-types_of-loop-i
invariant-types_of-loop-i l = record {
  grows : length l.initial.table.store.rows ≤ length l.table.store.rows;
  below : AllBelow (length l.table.store.rows) l.types;
}
