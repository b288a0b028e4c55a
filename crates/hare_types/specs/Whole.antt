-- What holds of a store and of all that is kept beside its rows.
use Rattle.std.specs.Prelude.{ℕ, List}
use Rattle.hare_types.specs.declared.fields.FieldName.{FieldName}
use Rattle.hare_types.specs.declared.kept.Kept.{Kept}
use Rattle.hare_types.specs.Store.{Store}
use Rattle.hare_types.specs.Waiting.{AreKept}
use Rattle.hare_types.specs.Fields.{KeepsFields}

pub record IsWhole (s : Store) (ks : List Kept) (fs : List (FieldName × ℕ)) : Type 0 where
  pub kept : AreKept s ks
  pub fields : KeepsFields s.rows fs
