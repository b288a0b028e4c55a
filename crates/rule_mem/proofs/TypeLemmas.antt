-- Types, and choices that are made.
use Rattle.std.proofs.Common.{◌≡◌, ℕ, Bool, false, cond, refl, ap, sym, ◌∙◌}
use Rattle.std.specs.Prelude.{IsSome}
use Rattle.hare_types.specs.declared.coercion.Ty.{Ty}
use Rattle.hare_types.specs.declared.coercion.Ty.TheVariants as ty
use Rattle.hare_rules.specs.Words.{id_in}

-- the second of two is chosen
pub if_not : {A : Type 0} (b : Bool) (x y z : A) → b ≡ false → x ≡ y → x ≡ cond b z y
if_not b x y z e h = h ∙ sym (ap (λ c. cond c z y) e)

-- what has an id is a type
pub id_there : (a : Ty) → IsSome (id_in a) → ((t : ℕ) → a ≡ ty.Of t → ⊥) → ⊥
id_there (ty.Of t) h k = k t refl
id_there (ty.Iconst v) h k = cc
id_there ty.Null h k = cc
id_there ty.Empty h k = cc
