-- What is known of a type's base, error mark and extent stays known as the store grows, and where more names are followed.
use Rattle.std.proofs.Common.{◌≡◌, ℕ, zero, suc, ◌+◌, Bool, ◌∷◌, Option, Some, None, refl, ap, ◌∙◌, subst, arith}
use Rattle.std.specs.Prelude.{option_map, option_and_then}
use Rattle.hare_types.specs.declared.extent.Extent.{Extent}
use Rattle.hare_types.specs.Trees.{Tree, Scalar, Pointer, Nullable, Slice, Array, Struct, Tuple, Union, Error, Named, none, more}
use Rattle.hare_types.specs.Store.{Store, meaning_of, Extends}
use Rattle.hare_types.specs.Layout.{following, base_with, IsBase, error_with, IsError, extent_with, extents_with, HasExtent}
use Rattle.hare_types.proofs.CallerLemmas.{meaning_of-Extends}

-- where one answers, so does the other, and the same
abbrev pub Knows : {X A : Type 0} → (X → Option A) → (X → Option A) → Type 0
Knows {X} {A} old new = (x : X) (a : A) → old x ≡ Some a → new x ≡ Some a

pub option_map-more : {A B : Type 0} (f : A → B) (o p : Option A) → ((a : A) → o ≡ Some a → p ≡ Some a) → (b : B) →
    option_map f o ≡ Some b → option_map f p ≡ Some b
option_map-more f None p h b e = absurd cc
option_map-more f (Some a) p h b e = ap (option_map f) (h a refl) ∙ e

pub option_and_then-more : {A B : Type 0} (f g : A → Option B) → Knows f g → (o p : Option A) → ((a : A) → o ≡ Some a → p ≡ Some a) →
    (b : B) → option_and_then f o ≡ Some b → option_and_then g p ≡ Some b
option_and_then-more f g k None p h b e = absurd cc
option_and_then-more f g k (Some a) p h b e = ap (option_and_then g) (h a refl) ∙ k a b e

-- following more names, under more meanings
pub following-more : {A : Type 0} (f : (ℕ → Option A) → Tree → Option A) →
    ((old new : ℕ → Option A) → Knows old new → Knows (f old) (f new))
    → (old new : ℕ → Option Tree) → Knows old new → (n : ℕ) → Knows (following f old n) (following f new n)
following-more f grows old new k zero t a e = e
following-more f grows old new k (suc n) t a e =
    grows (λ d. option_and_then (following f old n) (old d)) (λ d. option_and_then (following f new n) (new d))
    (λ d. option_and_then-more (following f old n) (following f new n) (following-more f grows old new k n) (old d) (new d) (k d)) t a e

pub base_with-more : (old new : ℕ → Option Tree) → Knows old new → Knows (base_with old) (base_with new)
base_with-more old new k (Error t) a e = base_with-more old new k t a e
base_with-more old new k (Named d) a e = k d a e
base_with-more old new k (Scalar w) a e = e
base_with-more old new k (Pointer t) a e = e
base_with-more old new k (Nullable t) a e = e
base_with-more old new k (Slice t) a e = e
base_with-more old new k (Array n t) a e = e
base_with-more old new k (Struct ns ts) a e = e
base_with-more old new k (Tuple ts) a e = e
base_with-more old new k (Union ts) a e = e

error_with-more : (old new : ℕ → Option Bool) → Knows old new → Knows (error_with old) (error_with new)
error_with-more old new k (Error t) a e = e
error_with-more old new k (Named d) a e = k d a e
error_with-more old new k (Scalar w) a e = e
error_with-more old new k (Pointer t) a e = e
error_with-more old new k (Nullable t) a e = e
error_with-more old new k (Slice t) a e = e
error_with-more old new k (Array n t) a e = e
error_with-more old new k (Struct ns ts) a e = e
error_with-more old new k (Tuple ts) a e = e
error_with-more old new k (Union ts) a e = e

mutual
  pub extent_with-more : (old new : ℕ → Option Extent) → Knows old new → Knows (extent_with old) (extent_with new)
  extent_with-more old new k (Error t) a e = extent_with-more old new k t a e
  extent_with-more old new k (Named d) a e = k d a e
  extent_with-more old new k (Scalar w) a e = e
  extent_with-more old new k (Pointer t) a e = e
  extent_with-more old new k (Nullable t) a e = e
  extent_with-more old new k (Slice t) a e = e
  extent_with-more old new k (Array n t) a e = option_map-more _ (extent_with old t) (extent_with new t) (extent_with-more old new k t) a e
  extent_with-more old new k (Struct ns ts) a e =
      option_map-more _ (extents_with old ts) (extents_with new ts) (extents_with-more old new k ts) a e
  extent_with-more old new k (Tuple ts) a e =
      option_map-more _ (extents_with old ts) (extents_with new ts) (extents_with-more old new k ts) a e
  extent_with-more old new k (Union ts) a e =
      option_map-more _ (extents_with old ts) (extents_with new ts) (extents_with-more old new k ts) a e

  pub extents_with-more : (old new : ℕ → Option Extent) → Knows old new → Knows (extents_with old) (extents_with new)
  extents_with-more old new k none a e = e
  extents_with-more old new k (more t ts) a e =
      option_and_then-more (λ x. option_map (λ xs. x ∷ xs) (extents_with old ts)) (λ x. option_map (λ xs. x ∷ xs) (extents_with new ts))
      (λ x. option_map-more (λ xs. x ∷ xs) (extents_with old ts) (extents_with new ts) (extents_with-more old new k ts))
      (extent_with old t) (extent_with new t) (extent_with-more old new k t) a e

-- following more names behind one another
pub following-further : {A : Type 0} (f : (ℕ → Option A) → Tree → Option A) →
    ((old new : ℕ → Option A) → Knows old new → Knows (f old) (f new))
    → (m : ℕ → Option Tree) (n k : ℕ) → Knows (following f m n) (following f m (n + k))
following-further f grows m zero k t a e =
    let same : k ≡ 0 + k = omega arith in
    subst (λ j. following f m j t ≡ Some a) same (from k)
  where
    from : (j : ℕ) → following f m j t ≡ Some a
    from zero = e
    from (suc j) = grows (λ d. None) (λ d. option_and_then (following f m j) (m d)) (λ d b h. absurd cc) t a e
following-further f grows m (suc n) k t a e =
    let same : suc (n + k) ≡ suc n + k = omega arith in
    let next : following f m (suc (n + k)) t ≡ Some a =
    grows (λ d. option_and_then (following f m n) (m d)) (λ d. option_and_then (following f m (n + k)) (m d))
    (λ d. option_and_then-more (following f m n) (following f m (n + k)) (following-further f grows m n k) (m d) (m d) (λ u h. h)) t a e in
    subst (λ j. following f m j t ≡ Some a) same next

module _ (old new : Store) (grows : Extends old new) where
  pub IsBase-Extends : (t u : Tree) → IsBase old t u → IsBase new t u
  IsBase-Extends t u h =
      (h.0, following-more base_with base_with-more (meaning_of old) (meaning_of new) (meaning_of-Extends old new grows) h.0 t u h.1)

  pub IsError-Extends : (t : Tree) (b : Bool) → IsError old t b → IsError new t b
  IsError-Extends t b h =
      (h.0, following-more error_with error_with-more (meaning_of old) (meaning_of new) (meaning_of-Extends old new grows) h.0 t b h.1)

  pub HasExtent-Extends : (t : Tree) (x : Extent) → HasExtent old t x → HasExtent new t x
  HasExtent-Extends t x h =
      (h.0, following-more extent_with extent_with-more (meaning_of old) (meaning_of new) (meaning_of-Extends old new grows) h.0 t x h.1)
