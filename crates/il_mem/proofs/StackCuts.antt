-- Ranges that begin in some part of the addresses are taken out of a list from its end on.
use Rattle.std.proofs.Common.{◌≡◌, ℕ, ◌+◌, ◌-◌, ◌^◌, ◌<◌, ◌≤◌, Bool, true, false, List, [], ◌∷◌, ◌++◌, length, take, drop, refl, sym, ap, ◌∙◌, subst, arith, inr, length-append}
use Rattle.std.specs.Prelude.{not, filter, slice_index_or}
use Rattle.std.proofs.lemmas.List.{take-append-drop, take_all, drop_all, take_more, drop_more, take_at, drop_at, length-take-le, get_or-take, get_or_append_left, append-nil, append_assoc}
use Rattle.std.proofs.lemmas.List.Elements.{filter-append}
use Rattle.hx_base.specs.Memory.{in_range}
use Rattle.hx_base.proofs.Memory.Ranges.{in_range-outside}
use Rattle.il_mem.specs.Laid.{are_laid}
use Rattle.il_mem.proofs.RangeLists.{filter-out, laid_short}
use Rattle.il_mem.proofs.StackLists.{laid_starts}

-- the first `k` of a list, and of the others those that pass
abbrev pub Cut : (ℕ × ℕ → Bool) → List (ℕ × ℕ) → ℕ → List (ℕ × ℕ) → Type 0
Cut p xs k now = now ≡ take k xs ++ filter p (drop k xs)

pub cut_begins : (p : ℕ × ℕ → Bool) (xs : List (ℕ × ℕ)) → Cut p xs (length xs) xs
cut_begins p xs =
    let front : take (length xs) xs ≡ xs = take_all (length xs) xs (omega arith) in
    let back : drop (length xs) xs ≡ [] = drop_all (length xs) xs (omega arith) in
    rw (front, back) (sym (append-nil xs))

pub cut_within : (p : ℕ × ℕ → Bool) (xs now : List (ℕ × ℕ)) (k : ℕ) → k ≤ length xs → Cut p xs k now → k ≤ length now
cut_within p xs now k l c =
    let size : length now ≡ length (take k xs) + length (filter p (drop k xs)) =
    ap (λ (ys : List (ℕ × ℕ)). length ys) c ∙ length-append (take k xs) (filter p (drop k xs)) in
    let front : length (take k xs) ≡ k = length-take-le k xs l in omega (arith, size, front)

pub cut_at : (p : ℕ × ℕ → Bool) (xs now : List (ℕ × ℕ)) (j k : ℕ) (d : ℕ × ℕ) → j < k → k ≤ length xs → Cut p xs k now →
    slice_index_or now j d ≡ slice_index_or xs j d
cut_at p xs now j k d below l c =
    let front : length (take k xs) ≡ k = length-take-le k xs l in
    ap (λ (ys : List (ℕ × ℕ)). slice_index_or ys j d) c
    ∙ get_or_append_left (take k xs) (filter p (drop k xs)) d j (omega (arith, front, below)) ∙ get_or-take k xs j d below

-- the same with the last of the first `k + 1` by itself
split : (p : ℕ × ℕ → Bool) (xs now : List (ℕ × ℕ)) (k : ℕ) (d : ℕ × ℕ) → k < length xs → Cut p xs (k + 1) now →
    now ≡ take k xs ++ slice_index_or xs k d ∷ filter p (drop (k + 1) xs)
split p xs now k d l c =
    c ∙ ap (λ (ys : List (ℕ × ℕ)). ys ++ filter p (drop (k + 1) xs)) (take_more xs k d l)
    ∙ append_assoc (take k xs) (slice_index_or xs k d ∷ []) (filter p (drop (k + 1) xs))

-- one that passes stays
pub cut_on : (p : ℕ × ℕ → Bool) (xs now : List (ℕ × ℕ)) (k : ℕ) (d : ℕ × ℕ) → k < length xs → Cut p xs (k + 1) now →
    p (slice_index_or xs k d) ≡ true → Cut p xs k now
cut_on p xs now k d l c pass = rw (drop_more xs k d l, pass) (split p xs now k d l c)

-- any other goes
pub cut_off : (p : ℕ × ℕ → Bool) (xs now : List (ℕ × ℕ)) (k : ℕ) (d : ℕ × ℕ) → k < length xs → Cut p xs (k + 1) now →
    p (slice_index_or xs k d) ≡ false → Cut p xs k (take k now ++ drop (k + 1) now)
cut_off p xs now k d l c pass =
    let s = split p xs now k d l c in
    let size : length (take k xs) ≡ k = length-take-le k xs (omega (arith, l)) in
    let size' : length (take (k + 1) xs) ≡ k + 1 = length-take-le (k + 1) xs (omega (arith, l)) in
    let front : take k now ≡ take k xs = ap (λ (ys : List (ℕ × ℕ)). take k ys) s ∙ take_at (take k xs) _ k size in
    let back : drop (k + 1) now ≡ filter p (drop (k + 1) xs) =
    ap (λ (ys : List (ℕ × ℕ)). drop (k + 1) ys) c ∙ drop_at (take (k + 1) xs) _ (k + 1) size' in
    rw (front, back, drop_more xs k d l, pass) refl

-- behind all that begin there or above
pub cut_ends : (at n : ℕ) (xs now : List (ℕ × ℕ)) (k : ℕ) → are_laid 0 xs ≡ true → k ≤ length xs →
    Cut (λ r. not (in_range at n r.0)) xs k now → ((j : ℕ) (d : ℕ × ℕ) → j < k → (slice_index_or xs j d).0 < at) →
    now ≡ filter (λ r. not (in_range at n r.0)) xs
cut_ends at n xs now k laid l c below =
    c ∙ sym (ap (λ (ys : List (ℕ × ℕ)). filter p ys) (sym (take-append-drop k xs)) ∙ filter-append p (take k xs) (drop k xs)
    ∙ ap (λ (ys : List (ℕ × ℕ)). ys ++ filter p (drop k xs)) (filter-out at n (take k xs) none))
  where
    p : ℕ × ℕ → Bool
    p = λ r. not (in_range at n r.0)

    size : length (take k xs) ≡ k
    size = length-take-le k xs l

    none : (j : ℕ) (d : ℕ × ℕ) → j < length (take k xs) → at ≤ (slice_index_or (take k xs) j d).0 →
        at + n ≤ (slice_index_or (take k xs) j d).0
    none j d u m =
        let under : j < k = omega (arith, size, u) in
        let same : slice_index_or (take k xs) j d ≡ slice_index_or xs j d = get_or-take k xs j d under in
        let start : (slice_index_or (take k xs) j d).0 ≡ (slice_index_or xs j d).0 = ap (λ (x : ℕ × ℕ). x.0) same in
        let less = below j d under in
        absurd (omega (arith, start, less, m))

-- which is so where the last of the first `k` begins below
pub all_below : (p : ℕ × ℕ → Bool) (at : ℕ) (xs now : List (ℕ × ℕ)) (k : ℕ) (e : ℕ × ℕ) → are_laid 0 xs ≡ true → 0 < k → k ≤ length xs →
    Cut p xs k now → (slice_index_or now (k - 1) e).0 < at → (j : ℕ) (d : ℕ × ℕ) → j < k → (slice_index_or xs j d).0 < at
all_below p at xs now k e laid some l c less j d u =
    let last : (slice_index_or now (k - 1) e).0 ≡ (slice_index_or xs (k - 1) e).0 =
    ap (λ (x : ℕ × ℕ). x.0) (cut_at p xs now (k - 1) k e (omega (arith, some)) l c) in
    let order = laid_starts 0 xs j (k - 1) d e laid (omega (arith, u)) (omega (arith, some, l)) in
    omega (arith, last, order, less)

-- the last of the first `k` stays where it begins behind them all
pub cut_keeps : (at n : ℕ) (xs now : List (ℕ × ℕ)) (k : ℕ) (y : ℕ × ℕ) → are_laid 0 xs ≡ true → 0 < k → k ≤ length xs →
    Cut (λ r. not (in_range at n r.0)) xs k now → y ≡ slice_index_or now (k - 1) y → (y.0 + 1 < 2 ^ 64 → at + n ≤ y.0) →
    Cut (λ r. not (in_range at n r.0)) xs (k - 1) now
cut_keeps at n xs now k y laid some l c is behind =
    let one : k ≡ k - 1 + 1 = omega (arith, some) in
    let within : k - 1 < length xs = omega (arith, some, l) in
    let same : y ≡ slice_index_or xs (k - 1) y = is ∙ cut_at p xs now (k - 1) k y (omega (arith, some)) l c in
    let short = laid_short 0 xs laid (k - 1) y within in
    let start : y.0 ≡ (slice_index_or xs (k - 1) y).0 = ap (λ (x : ℕ × ℕ). x.0) same in
    let out : in_range at n y.0 ≡ false = in_range-outside at n y.0 (inr (behind (omega (arith, start, short)))) in
    let pass : p y ≡ true = rw out refl in
    cut_on p xs now (k - 1) y within (subst (λ (j : ℕ). Cut p xs j now) one c) (subst (λ (x : ℕ × ℕ). p x ≡ true) same pass)
  where
    p : ℕ × ℕ → Bool
    p = λ r. not (in_range at n r.0)
