-- What is found of a node that settles nothing.
use Rattle.std.specs.Prelude.{◌≡◌, ℕ, [], map, replicate, Some, None}
use Rattle.hare_types.specs.declared.coercion.Ty.{Ty}
use Rattle.hare_types.specs.declared.coercion.Ty.TheVariants as ty
use Rattle.hare_types.specs.declared.row.Scalar.TheVariants as keyword
use Rattle.hare_types.specs.Store.{Store}
use Rattle.hare_types.specs.Later.{IsLater}
use Rattle.hare_rules.specs.Settles.{same}
use Rattle.hare_rules.specs.Words.{word_id}
use Rattle.hare_find.specs.declared.finding.Finding.{Finding}
use Rattle.hare_find.specs.Settling.{option_in}

-- It is of this type, has so many kids, and stays as it is, and so do they; nothing is settled when the body is done.
pub record IsUnsettled (a : Ty) (n : ℕ) (x : Finding) : Type 0 where
  pub ty : x.ty ≡ a
  pub own : x.own ≡ same a
  pub kids : map option_in x.kids ≡ replicate n None
  pub late : x.late ≡ []

-- the same, of the type void
pub record IsVoidFinding (s : Store) (n : ℕ) (x : Finding) : Type 0 where
  pub void : ℕ
  pub word : (f : Store) → IsLater s f → word_id f keyword.Void ≡ Some void
  pub unsettled : IsUnsettled (ty.Of void) n x
