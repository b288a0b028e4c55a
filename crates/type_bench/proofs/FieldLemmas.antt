-- Fields whose types lie in a store, and one more.
use Rattle.std.proofs.Common.{ℕ, ◌<◌, List, [], ◌∷◌, ◌++◌}
use Rattle.hare_types.specs.declared.lists.Field.{Field}
use Rattle.hare_types.specs.Rows.{FieldsBelow}

pub fields_below_push : (n : ℕ) (fs : List Field) (f : Field) → FieldsBelow n fs → f.ty < n → FieldsBelow n (fs ++ f ∷ [])
fields_below_push n [] f h l = (l, tt)
fields_below_push n (g ∷ gs) f h l = (h.0, fields_below_push n gs f h.1 l)
