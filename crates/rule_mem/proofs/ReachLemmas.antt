-- What is reached when pointers are followed.
use Rattle.std.proofs.Common.{◌≡◌, ℕ, zero, suc, ◌+◌, ◌-◌, ◌<◌, Some, None, refl, ap, sym, ◌∙◌, arith}
use Rattle.hare_types.specs.declared.coercion.Ty.{Ty}
use Rattle.hare_types.specs.declared.coercion.Ty.TheVariants as ty
use Rattle.hare_types.specs.Store.{Store}
use Rattle.hare_typed.specs.Given.{pointee}
use Rattle.hare_typed.specs.Followed.{pointee_or, reached_within}

-- where nothing is pointed to, nothing more is reached
pub reached_within-stuck : (n : ℕ) (s : Store) (a : Ty) → pointee s a ≡ None → reached_within n s a ≡ a
reached_within-stuck zero s a e = refl
reached_within-stuck (suc n) s a e = ap (λ o. reached_within n s (pointee_or a o)) e ∙ reached_within-stuck n s a e

reached_within-suc : (n : ℕ) (s : Store) (a : Ty) (t : ℕ) → pointee s a ≡ Some t → reached_within (suc n) s a ≡ reached_within n s (ty.Of t)
reached_within-suc n s a t e = ap (λ o. reached_within n s (pointee_or a o)) e

-- one pointer more is followed
pub reached_within-more : (most p : ℕ) (s : Store) (a end : Ty) (t : ℕ) → p < most → pointee s a ≡ Some t →
    reached_within (most - p) s a ≡ end
    → reached_within (most - (p + 1)) s (ty.Of t) ≡ end
reached_within-more most p s a end t h e k =
    let left : most - p ≡ suc (most - (p + 1)) = omega arith in
    sym (reached_within-suc (most - (p + 1)) s a t e) ∙ sym (ap (λ n. reached_within n s a) left) ∙ k
