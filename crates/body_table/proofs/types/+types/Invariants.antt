use Rattle.std.proofs.Common.{◌≤◌, length}
use Rattle.hare_types.specs.Rows.{AllBelow}
use Rattle.body_table.proofs.types.+types.Given as goal

abbrev pub invariant-types_of-loop-i : goal.invariant-types_of-loop-i
invariant-types_of-loop-i l = record {
  grows : length l.initial.s.rows ≤ length l.s.rows;
  below : AllBelow (length l.s.rows) l.types;
}
