-- What is told of a type rests on what is told of the types that it holds by value.
use Rattle.std.proofs.Common.{◌≡◌, ℕ, zero, suc, ◌+◌, ◌-◌, ◌*◌, ◌%◌, ◌<◌, ◌≤◌, max, min, List, [], ◌∷◌, map, Some, refl, ap, ap₂, sym, ◌∙◌, arith, ◌⊎◌, inl, inr}
use Rattle.std.proofs.lemmas.Bool.{cases_lt}
use Rattle.std.proofs.Math.Nat.{mod-lt}
use Rattle.std.proofs.lemmas.Nat.{div-add-mod'}
use Rattle.hare_types.specs.declared.extent.Extent.{Extent}
use Rattle.hare_types.specs.declared.row.Scalar.{Scalar as Keyword}
use Rattle.hare_types.specs.declared.row.Scalar.TheVariants.{Void, Never, Opaque, Bool as BoolWord, Rune, Str, I8, I16, I32, I64, U8, U16, U32, U64, Int, Uint, Size}
use Rattle.hare_types.specs.Layout.{round_up, scalar_extent, greatest_size, greatest_align, fields_end, payload_start, fields_extent, union_extent}
use Rattle.hare_types.specs.Kept.{told}

-- the numbers are equal, or both are above 2^40
abbrev pub Agree : ℕ → ℕ → Type 0
Agree a b = (a ≡ b) ⊎ ((1099511627777 ≤ a) × (1099511627777 ≤ b))

-- each has an alignment
abbrev pub AreLow : List Extent → Type 0
AreLow [] = Unit {0}
AreLow (x ∷ xs) = (1 ≤ x.align) × AreLow xs

round_up-le : (n a : ℕ) → 1 ≤ a → n ≤ round_up n a
round_up-le n a low =
    let whole = div-add-mod' (n + (a - 1)) a in
    let part : (n + (a - 1)) % a < a = mod-lt (n + (a - 1)) (omega arith) in
    omega arith

agree-told : (x : Extent) → Agree (told x).size x.size
agree-told x = by (cases_lt x.size 1099511627777)
  where
    by : (x.size < 1099511627777) ⊎ (1099511627777 ≤ x.size) → Agree (told x).size x.size
    by (inl h) = inl (omega arith)
    by (inr h) = inr (omega arith, h)

told-agree : (x y : Extent) → Agree x.size y.size → x.align ≡ y.align → told x ≡ told y
told-agree x y (inl e) a = ap₂ (λ m n. told (record { size = m; align = n })) e a
told-agree x y (inr h) a =
    let size : min x.size 1099511627777 ≡ min y.size 1099511627777 = omega (arith, h.0, h.1) in
    ap₂ (λ m n. record { size = m; align = n }) size a

agree-add : (a b c d : ℕ) → Agree a b → Agree c d → Agree (a + c) (b + d)
agree-add a b c d (inl e) (inl f) = inl (ap₂ (λ m n. m + n) e f)
agree-add a b c d (inl e) (inr f) = inr (omega (arith, f.0), omega (arith, f.1))
agree-add a b c d (inr e) f = inr (omega (arith, e.0), omega (arith, e.1))

agree-max : (a b c d : ℕ) → Agree a b → Agree c d → Agree (max a c) (max b d)
agree-max a b c d (inl e) (inl f) = inl (ap₂ max e f)
agree-max a b c d (inl e) (inr f) = inr (omega (arith, f.0), omega (arith, f.1))
agree-max a b c d (inr e) f = inr (omega (arith, e.0), omega (arith, e.1))

agree-round : (a b n : ℕ) → 1 ≤ n → Agree a b → Agree (round_up a n) (round_up b n)
agree-round a b n low (inl e) = inl (ap (λ m. round_up m n) e)
agree-round a b n low (inr h) = inr (omega (arith, h.0, round_up-le a n low), omega (arith, h.1, round_up-le b n low))

agree-times : (n a b : ℕ) → Agree a b → Agree (n * a) (n * b)
agree-times n a b (inl e) = inl (ap (λ m. n * m) e)
agree-times zero a b (inr h) = inl (omega arith)
agree-times (suc n) a b (inr h) = inr (omega (arith, h.0), omega (arith, h.1))

-- ---- of lists

same_align : (xs : List Extent) → greatest_align (map told xs) ≡ greatest_align xs
same_align [] = refl
same_align (x ∷ xs) = ap (max x.align) (same_align xs)

low_align : (xs : List Extent) → 1 ≤ greatest_align xs
low_align [] = omega arith
low_align (x ∷ xs) =
    let ih = low_align xs in
    omega arith

agree-sizes : (xs : List Extent) → Agree (greatest_size (map told xs)) (greatest_size xs)
agree-sizes [] = inl refl
agree-sizes (x ∷ xs) = agree-max (told x).size x.size _ _ (agree-told x) (agree-sizes xs)

agree-ends : (xs : List Extent) (a b : ℕ) → AreLow xs → Agree a b → Agree (fields_end a (map told xs)) (fields_end b xs)
agree-ends [] a b low h = h
agree-ends (x ∷ xs) a b low h =
    agree-ends xs _ _ low.1 (agree-add _ _ (told x).size x.size (agree-round a b x.align low.0 h) (agree-told x))

-- ---- of extents

pub told-array : (n : ℕ) (x : Extent) → told (record { size = n * (told x).size; align = (told x).align }) ≡ told
    (record { size = n * x.size; align = x.align })
told-array n x = told-agree _ _ (agree-times n (told x).size x.size (agree-told x)) refl

pub told-fields : (xs : List Extent) → AreLow xs → told (fields_extent (map told xs)) ≡ told (fields_extent xs)
told-fields xs low =
    let align = same_align xs in
    let ends = agree-round _ _ (greatest_align xs) (low_align xs) (agree-ends xs 0 0 low (inl refl)) in
    ap (λ a. told (record { size = round_up (fields_end 0 (map told xs)) a; align = a })) align ∙ told-agree _ _ ends refl

pub told-union : (xs : List Extent) → told (union_extent (map told xs)) ≡ told (union_extent xs)
told-union xs =
    let align = same_align xs in
    let sum = agree-add (payload_start xs) (payload_start xs) _ _ (inl refl) (agree-sizes xs) in
    let rounded = agree-round _ _ (max 4 (greatest_align xs)) (omega arith) sum in
    ap (λ a. told (record { size = round_up (round_up 4 a + greatest_size (map told xs)) (max 4 a); align = max 4 a })) align ∙ told-agree _
    _ rounded refl

-- ---- of words

pub exact : (x y : Extent) → Some y ≡ Some x → y ≡ told y → x ≡ told x
exact x y e h =
    let same : y ≡ x = cc in
    sym same ∙ h ∙ ap told same

pub told-scalar : (k : Keyword) (x : Extent) → scalar_extent k ≡ Some x → x ≡ told x
told-scalar Void x e = exact x _ e refl
told-scalar Never x e = absurd cc
told-scalar Opaque x e = absurd cc
told-scalar BoolWord x e = exact x _ e refl
told-scalar Rune x e = exact x _ e refl
told-scalar Str x e = exact x _ e refl
told-scalar I8 x e = exact x _ e refl
told-scalar I16 x e = exact x _ e refl
told-scalar I32 x e = exact x _ e refl
told-scalar I64 x e = exact x _ e refl
told-scalar U8 x e = exact x _ e refl
told-scalar U16 x e = exact x _ e refl
told-scalar U32 x e = exact x _ e refl
told-scalar U64 x e = exact x _ e refl
told-scalar Int x e = exact x _ e refl
told-scalar Uint x e = exact x _ e refl
told-scalar Size x e = exact x _ e refl
