-- What cases cover, worked out. A rune has 32 bits, so that all code points of Unicode together leave some of its values out.
use Rattle.std.proofs.Common.{◌≡◌, ◌≢◌, ◌≤◌, ◌<◌, ◌^◌, ◌-◌, ℕ, zero, suc, refl, lit<, List, [], ◌∷◌, Some, arith}
use Rattle.std.specs.Prelude.{ℤ, pos, negsuc, neg_ℤ, ◌≤ℤ◌, All, Contains}
use Rattle.std.proofs.lemmas.Int.{ints}
use Rattle.std.proofs.lemmas.List.Elements.{All-contains, All-nil, All-cons}
use Rattle.hare_types.specs.declared.row.Row.TheVariants as row
use Rattle.hare_types.specs.declared.row.Scalar.TheVariants as word
use Rattle.hare_typed.specs.Cover.{range_of, ListsAll}

pub code_points-leave_runes_out : (vs : List ℤ) → All (λ v. v ≤ℤ pos 1114111) vs → ListsAll (range_of (Some (row.Scalar word.Rune))) vs → ⊥
code_points-leave_runes_out vs h covers =
    let there : Contains vs (pos 1114112) = covers (pos 1114112) (omega arith) (omega arith) in
    let least : pos 1114112 ≤ℤ pos 1114111 = All-contains (λ v. v ≤ℤ pos 1114111) vs (pos 1114112) h there in
    omega (arith, least)

-- 0 to 254 leave the greatest byte out
pub low_bytes-leave_one_out : (vs : List ℤ) → All (λ v. v ≤ℤ pos 254) vs → ListsAll (range_of (Some (row.Scalar word.U8))) vs → ⊥
low_bytes-leave_one_out vs h covers =
    let there : Contains vs (pos 255) = covers (pos 255) (omega arith) (omega arith) in
    let least : pos 255 ≤ℤ pos 254 = All-contains (λ v. v ≤ℤ pos 254) vs (pos 255) h there in
    omega (arith, least)

-- 0 to 255 are all of them
pub bytes-cover : (vs : List ℤ) → ((v : ℤ) → pos 0 ≤ℤ v → v ≤ℤ pos 255 → Contains vs v) → ListsAll (range_of (Some (row.Scalar word.U8))) vs
bytes-cover vs h = λ v l g. h v l g

-- both bools are all of them
pub bools-cover : ListsAll (range_of (Some (row.Scalar word.Bool))) (pos 0 ∷ pos 1 ∷ [])
bools-cover = by
  where
    by : (v : ℤ) → pos 0 ≤ℤ v → v ≤ℤ pos 1 → Contains (pos 0 ∷ pos 1 ∷ []) v
    by (pos zero) l g = (0, lit< tt, refl)
    by (pos (suc zero)) l g = (1, lit< tt, refl)
    by (pos (suc (suc n))) l g = absurd (omega (arith, ints, g))
    by (negsuc n) l g = absurd (omega (arith, ints, l))

-- the two ends of a type leave out all between them
pub ends-leave_zero_out : ListsAll (range_of (Some (row.Scalar word.I64))) (neg_ℤ (pos (2 ^ 63)) ∷ pos (2 ^ 63 - 1) ∷ []) → ⊥
ends-leave_zero_out covers =
    let there : Contains (neg_ℤ (pos (2 ^ 63)) ∷ pos (2 ^ 63 - 1) ∷ []) (pos 0) = covers (pos 0) (omega arith) (omega arith) in
    All-contains (λ v. v ≢ pos 0) (neg_ℤ (pos (2 ^ 63)) ∷ pos (2 ^ 63 - 1) ∷ []) (pos 0) ends there refl
  where
    below : (n : ℕ) → negsuc n ≡ pos 0 → ⊥
    below n e = cc

    above : (n : ℕ) → 0 < n → pos n ≡ pos 0 → ⊥
    above n h e = let k : n ≡ 0 = cc in omega (arith, h, k)

    ends : All (λ v. v ≢ pos 0) (neg_ℤ (pos (2 ^ 63)) ∷ pos (2 ^ 63 - 1) ∷ [])
    ends =
        All-cons (λ v. v ≢ pos 0) (neg_ℤ (pos (2 ^ 63))) (pos (2 ^ 63 - 1) ∷ []) (λ e. below (2 ^ 63 - 1) e)
        (All-cons (λ v. v ≢ pos 0) (pos (2 ^ 63 - 1)) [] (λ e. above (2 ^ 63 - 1) (lit< tt) e) (All-nil (λ v. v ≢ pos 0)))
