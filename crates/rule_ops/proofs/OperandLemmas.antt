-- What two operands have in common, and what stands first.
use Rattle.std.proofs.Common.{◌≡◌, Bool, true, false, cond, List, [], ◌∷◌, Option, Some, None, refl}
use Rattle.std.specs.Prelude.{ℕ, is_some, slice_get, ◌&&◌, nat_eq}
use Rattle.hare_types.specs.declared.coercion.Ty.{Ty}
use Rattle.hare_types.specs.declared.coercion.Ty.TheVariants as ty
use Rattle.hare_types.specs.Store.{Store}
use Rattle.hare_typed.specs.Typed.{TypedNode}
use Rattle.hare_typed.specs.Order.{tree_from_front}
use Rattle.hare_rules.specs.Words.{are_iconsts, has_integer_base, widens, holds_in, integer_word, Common, Typed, common, common_type}

typed_some : (b : Bool) (t : ℕ) (o : Option Common) → is_some (common_type o) ≡ is_some o →
    is_some (common_type (cond b (Some (Typed t)) o)) ≡ is_some (cond b (Some (Typed t)) o)
typed_some true t o e = refl
typed_some false t o e = e

-- but for two whole numbers without a suffix it is a type
pub common_typed : (f : Store) (a b : Ty) → are_iconsts a b ≡ false → is_some (common_type (common f a b)) ≡ is_some (common f a b)
common_typed f (ty.Iconst v) (ty.Iconst w) e = absurd cc
common_typed f (ty.Iconst v) (ty.Of u) e = typed_some (holds_in (integer_word f (ty.Of u)) v) u None refl
common_typed f (ty.Iconst v) ty.Null e = refl
common_typed f (ty.Iconst v) ty.Empty e = refl
common_typed f (ty.Of t) (ty.Iconst w) e = typed_some (holds_in (integer_word f (ty.Of t)) w) t None refl
common_typed f (ty.Of t) (ty.Of u) e =
    typed_some (nat_eq t u && has_integer_base f (ty.Of t)) t _
    (typed_some (widens f (ty.Of t) (ty.Of u)) u _ (typed_some (widens f (ty.Of u) (ty.Of t)) t None refl))
common_typed f (ty.Of t) ty.Null e = refl
common_typed f (ty.Of t) ty.Empty e = refl
common_typed f ty.Null b e = refl
common_typed f ty.Empty b e = refl

pub first_kid : (xs : List TypedNode) (x : TypedNode) → slice_get xs 0 ≡ Some x → x ≡ tree_from_front 0 xs
first_kid [] x e = absurd cc
first_kid (y ∷ xs) x e = cc
