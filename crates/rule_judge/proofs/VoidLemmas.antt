-- Whether void may be assigned to a type.
use Rattle.std.proofs.Common.{◌≡◌, ℕ, Option, Some, None, is_some, refl, ap, ◌∙◌}
use Rattle.std.specs.Prelude.{option_map}
use Rattle.hare_types.specs.declared.coercion.Ty.TheVariants as ty
use Rattle.hare_types.specs.declared.row.Row.TheVariants as row
use Rattle.hare_types.specs.declared.row.Scalar.TheVariants as keyword
use Rattle.hare_types.specs.Trees.{Tree}
use Rattle.hare_types.specs.Store.{Store}
use Rattle.hare_types.specs.Sound.{IsStore}
use Rattle.hare_types.specs.Assign.{type_at, coercion, first_row, Of}
use Rattle.hare_types.proofs.IdLemmas.{id_tells}
use Rattle.hare_assign.proofs.TypeLemmas.{type_at_row}
use Rattle.hare_rules.specs.Joined.{void_fits}
use Rattle.hare_rules.specs.Words.{word_id}

mapped : {A B : Type 0} (g : A → B) (o : Option A) → is_some (option_map g o) ≡ is_some o
mapped g None = refl
mapped g (Some a) = refl

-- it is a value of the type void
pub void_goes : (f : Store) → IsStore f → (v t : ℕ) → word_id f keyword.Void ≡ Some v → is_some (coercion f (ty.Of v) t) ≡ void_fits f t
void_goes f s v t e =
    let here = type_at_row f s v (row.Scalar keyword.Void) ((id_tells f s (row.Scalar keyword.Void) v).0 e) in
    mapped (λ n. record { row = n; to = ty.Of t }) (first_row f (Of (type_at f v)) (type_at f t)) ∙ ap
    (λ (u : Tree). is_some (first_row f (Of u) (type_at f t))) here
