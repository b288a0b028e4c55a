use Rattle.std.proofs.Common.{◌≡◌, length}
use Rattle.hare_types.specs.Rows.{FieldsBelow}
use Rattle.spelled_types.proofs.spelled.fields.Given as goal

abbrev pub invariant-loop-i : goal.invariant-loop-i
invariant-loop-i l = record {
  rows : l.table.store.rows ≡ l.initial.table.store.rows;
  below : FieldsBelow (length l.initial.table.store.rows) l.fields;
}
