use Rattle.std.proofs.Common.{ℕ, ◌<◌, get_or}
use Rattle.hare_types.specs.declared.lists.Field.{Field}
use Rattle.hare_types.proofs.fields.are_named.Given as goal

abbrev pub invariant-loop-field : goal.invariant-loop-field
invariant-loop-field l = (k : ℕ) (d : Field) → k < l.field-index → (get_or l.field-items k d).name < l.names
