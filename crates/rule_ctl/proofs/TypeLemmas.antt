-- The types of what asks of a value which member of a union it is.
use Rattle.std.proofs.Common.{◌≡◌, true, Some, refl}
use Rattle.hare_types.specs.declared.coercion.Ty.{Ty}
use Rattle.hare_types.specs.declared.coercion.Ty.TheVariants as ty
use Rattle.hare_types.specs.Store.{Store}
use Rattle.hare_rules.specs.Operators.{is_member_at}
use Rattle.hare_rules.specs.Words.{id_in, typed_as}

-- what is a member has an id
pub member_typed : (s : Store) (a b : Ty) → is_member_at s a (id_in b) ≡ true → typed_as (id_in b) ≡ Some b
member_typed s a (ty.Of t) e = refl
member_typed s a (ty.Iconst v) e = cc
member_typed s a ty.Null e = cc
member_typed s a ty.Empty e = cc
