-- What a store tells of the extent of a small type is that extent.
use Rattle.std.proofs.Common.{◌≡◌, ℕ, suc, ◌≤◌, min, List, [], ◌∷◌, map, Option, Some, None, refl, ap, ap₂, ◌∙◌, arith}
use Rattle.std.specs.Prelude.{slice_get, option_map}
use Rattle.hare_types.specs.declared.extent.Extent.{Extent}
use Rattle.hare_types.specs.Store.{Store}
use Rattle.hare_types.specs.Kept.{told}
use Rattle.hare_types.specs.ByIds.{extent_at}
use Rattle.hare_layout.specs.Small.{IsSmall}

told_few : (x : Extent) → x.size ≤ 67108864 → told x ≡ x
told_few x h =
    let size : min x.size 1099511627777 ≡ x.size = omega arith in
    ap (λ n. record { size = n; align = x.align }) size

pub told_all : (xs : List Extent) → ((k : ℕ) (x : Extent) → slice_get xs k ≡ Some x → x.size ≤ 67108864) → map told xs ≡ xs
told_all [] h = refl
told_all (x ∷ xs) h = ap₂ (λ y ys. y ∷ ys) (told_few x (h 0 x refl)) (told_all xs (λ k y e. h (suc k) y e))

pub told_small : (s : Store) (t : ℕ) (h : IsSmall s t) → option_map told (extent_at s t) ≡ Some h.extent
told_small s t h = ap (option_map told) h.at ∙ ap Some (told_few h.extent h.few)

-- a type that is told to have so few bytes has no more
pub small_told : (s : Store) (t : ℕ) (x : Extent) → Some x ≡ option_map told (extent_at s t) → x.size ≤ 67108864 → IsSmall s t
small_told s t x e h = by (extent_at s t) refl e
  where
    by : (o : Option Extent) → extent_at s t ≡ o → Some x ≡ option_map told o → IsSmall s t
    by None g f = absurd cc
    by (Some y) g f =
        let same : x ≡ told y = cc in
        let size = ap (λ z. z.size) same in
        record { extent = y; at = g; few = omega (arith, h, size) }

-- and a small type is told so
pub told_low : (s : Store) (t : ℕ) (x : Extent) → Some x ≡ option_map told (extent_at s t) → IsSmall s t → x.size ≤ 67108864
told_low s t x e h =
    let both = e ∙ told_small s t h in
    let same : x ≡ h.extent = cc in
    let size = ap (λ z. z.size) same in
    omega (arith, h.few, size)
