-- Alignments are 1, 2, 4 or 8, and sizes are multiples of them.
use Rattle.std.proofs.Common.{◌≡◌, ℕ, zero, suc, ◌+◌, ◌-◌, ◌*◌, ◌/◌, ◌<◌, ◌≤◌, max, List, [], ◌∷◌, length, map, Option, Some, None, refl, ap, sym, ◌∙◌, subst, arith, ◌⊎◌, inl, inr, mul_assoc}
use Rattle.std.specs.Prelude.{option_map, option_and_then}
use Rattle.std.proofs.lemmas.Bool.{cases_lt}
use Rattle.hare_types.specs.declared.extent.Extent.{Extent}
use Rattle.hare_types.specs.declared.row.Row.{Row}
use Rattle.hare_types.specs.declared.row.Row.TheVariants as row
use Rattle.hare_types.specs.declared.row.Scalar.{Scalar as Keyword}
use Rattle.hare_types.specs.declared.row.Scalar.TheVariants.{Void, Never, Opaque, Bool as BoolWord, Rune, Str, I8, I16, I32, I64, U8, U16, U32, U64, Int, Uint, Size}
use Rattle.hare_types.specs.Kept.{all_known}
use Rattle.hare_types.specs.Layout.{bytes, round_up, scalar_extent, greatest_align, fields_extent, union_extent}
use Rattle.hare_types.specs.Store.{Store, definition_of}
use Rattle.hare_types.specs.ByIds.{row_at, found_within, bytes_over, extent_at}
use Rattle.hare_layout.specs.Whole.{IsMultiple, IsAlignment, IsAligned}

-- ---- alignments

one : IsAlignment 1
one = inl refl

pub four : IsAlignment 4
four = inr (inr (inl refl))

pub greater : (a b : ℕ) → IsAlignment a → IsAlignment b → IsAlignment (max a b)
greater a b h k = by (cases_lt a b)
  where
    by : (a < b) ⊎ (b ≤ a) → IsAlignment (max a b)
    by (inl l) =
        let same : b ≡ max a b = omega arith in
        subst IsAlignment same k
    by (inr l) =
        let same : a ≡ max a b = omega arith in
        subst IsAlignment same h

pub low : (a : ℕ) → IsAlignment a → 1 ≤ a
low a (inl e) = omega (arith, e)
low a (inr (inl e)) = omega (arith, e)
low a (inr (inr (inl e))) = omega (arith, e)
low a (inr (inr (inr e))) = omega (arith, e)

-- a greater alignment is a multiple of a lesser one
pub divides : (a b : ℕ) → IsAlignment a → IsAlignment b → a ≤ b → IsMultiple b a
divides a b (inl e) k l =
    let whole : b ≡ b * 1 = omega arith in
    (b, subst (λ m. b ≡ b * m) (sym e) whole)
divides a b (inr (inl e)) (inl f) l = absurd (omega (arith, e, f))
divides a b (inr (inl e)) (inr (inl f)) l = (1, omega (arith, e, f))
divides a b (inr (inl e)) (inr (inr (inl f))) l = (2, omega (arith, e, f))
divides a b (inr (inl e)) (inr (inr (inr f))) l = (4, omega (arith, e, f))
divides a b (inr (inr (inl e))) (inl f) l = absurd (omega (arith, e, f))
divides a b (inr (inr (inl e))) (inr (inl f)) l = absurd (omega (arith, e, f))
divides a b (inr (inr (inl e))) (inr (inr (inl f))) l = (1, omega (arith, e, f))
divides a b (inr (inr (inl e))) (inr (inr (inr f))) l = (2, omega (arith, e, f))
divides a b (inr (inr (inr e))) (inl f) l = absurd (omega (arith, e, f))
divides a b (inr (inr (inr e))) (inr (inl f)) l = absurd (omega (arith, e, f))
divides a b (inr (inr (inr e))) (inr (inr (inl f))) l = absurd (omega (arith, e, f))
divides a b (inr (inr (inr e))) (inr (inr (inr f))) l = (1, omega (arith, e, f))

pub through : (n a b : ℕ) → IsMultiple n b → IsMultiple b a → IsMultiple n a
through n a b h k = (h.0 * k.0, h.1 ∙ ap (λ m. h.0 * m) k.1 ∙ sym (mul_assoc h.0 k.0 a))

pub rounded : (n a : ℕ) → IsMultiple (round_up n a) a
rounded n a = ((n + (a - 1)) / a, refl)

-- ---- lists of extents

abbrev pub AreAligned : List Extent → Type 0
AreAligned [] = Unit {0}
AreAligned (x ∷ xs) = IsAligned x × AreAligned xs

pub greatest_align-alignment : (xs : List Extent) → AreAligned xs → IsAlignment (greatest_align xs)
greatest_align-alignment [] h = one
greatest_align-alignment (x ∷ xs) h = greater x.align (greatest_align xs) h.0.align (greatest_align-alignment xs h.1)

fields_aligned : (xs : List Extent) → AreAligned xs → IsAligned (fields_extent xs)
fields_aligned xs h = record { align = greatest_align-alignment xs h; size = rounded _ (greatest_align xs) }

union_aligned : (xs : List Extent) → AreAligned xs → IsAligned (union_extent xs)
union_aligned xs h = record {
  align = greater 4 (greatest_align xs) four (greatest_align-alignment xs h);
  size = rounded _
      (max 4 (greatest_align xs));
}

items_aligned : (n : ℕ) (x : Extent) → IsAligned x → IsAligned (record { size = n * x.size; align = x.align })
items_aligned n x h = record { align = h.align; size = through (n * x.size) x.align x.size (n, refl) h.size }

-- ---- words

exact : (n a k : ℕ) (x : Extent) → IsAlignment a → n ≡ k * a → bytes n a ≡ Some x → IsAligned x
exact n a k x h m e =
    let y : Extent = record { size = n; align = a } in
    let same : y ≡ x = cc in
    subst IsAligned same (record { align = h; size = (k, m) })

word_aligned : (k : Keyword) (x : Extent) → scalar_extent k ≡ Some x → IsAligned x
word_aligned Void x e = exact 0 1 0 x (inl refl) refl e
word_aligned Never x e = absurd cc
word_aligned Opaque x e = absurd cc
word_aligned BoolWord x e = exact 1 1 1 x (inl refl) refl e
word_aligned Rune x e = exact 4 4 1 x (inr (inr (inl refl))) refl e
word_aligned Str x e = exact 24 8 3 x (inr (inr (inr refl))) refl e
word_aligned I8 x e = exact 1 1 1 x (inl refl) refl e
word_aligned I16 x e = exact 2 2 1 x (inr (inl refl)) refl e
word_aligned I32 x e = exact 4 4 1 x (inr (inr (inl refl))) refl e
word_aligned I64 x e = exact 8 8 1 x (inr (inr (inr refl))) refl e
word_aligned U8 x e = exact 1 1 1 x (inl refl) refl e
word_aligned U16 x e = exact 2 2 1 x (inr (inl refl)) refl e
word_aligned U32 x e = exact 4 4 1 x (inr (inr (inl refl))) refl e
word_aligned U64 x e = exact 8 8 1 x (inr (inr (inr refl))) refl e
word_aligned Int x e = exact 4 4 1 x (inr (inr (inl refl))) refl e
word_aligned Uint x e = exact 4 4 1 x (inr (inr (inl refl))) refl e
word_aligned Size x e = exact 8 8 1 x (inr (inr (inr refl))) refl e

-- ---- types

pub mapped : {A B : Type 0} (f : A → B) (o : Option A) (b : B) → option_map f o ≡ Some b → (a : A) × (o ≡ Some a) × (f a ≡ b)
mapped f None b e = absurd cc
mapped f (Some a) b e = (a, refl, cc)

module _ (ks : ℕ → Option Extent) (known : (i : ℕ) (x : Extent) → ks i ≡ Some x → IsAligned x) where
  pub all_aligned : (is : List ℕ) (xs : List Extent) → all_known ks is ≡ Some xs → AreAligned xs
  all_aligned [] xs e =
      let same : [] ≡ xs = cc in
      subst AreAligned same tt
  all_aligned (i ∷ is) xs e = by (ks i) refl (all_known ks is) refl e (all_aligned is)
    where
      by : (o : Option Extent) → ks i ≡ o → (p : Option (List Extent)) → all_known ks is ≡ p
          → option_and_then (λ x. option_map (λ ys. x ∷ ys) p) o ≡ Some xs
          → ((ys : List Extent) → all_known ks is ≡ Some ys → AreAligned ys) → AreAligned xs
      by None f p g h ih = absurd cc
      by (Some x) f None g h ih = absurd cc
      by (Some x) f (Some ys) g h ih =
          let same : x ∷ ys ≡ xs = cc in
          subst AreAligned same (known i x f, ih ys g)

  of_parts : (f : List Extent → Extent) → ((xs : List Extent) → AreAligned xs → IsAligned (f xs)) → (is : List ℕ) (x : Extent)
      → option_map f (all_known ks is) ≡ Some x → IsAligned x
  of_parts f aligned is x e =
      let h = mapped f (all_known ks is) x e in
      subst IsAligned h.2 (aligned h.0 (all_aligned is h.0 h.1))

  of_definition : (o : Option ℕ) (x : Extent) → option_and_then ks o ≡ Some x → IsAligned x
  of_definition None x e = absurd cc
  of_definition (Some t) x e = known t x e

  of_row : (definition : ℕ → Option ℕ) (t : ℕ) (r : Row) (x : Extent) → bytes_over definition ks t r ≡ Some x → IsAligned x
  of_row definition t (row.Scalar k) x e = word_aligned k x e
  of_row definition t (row.Pointer i) x e = exact 8 8 1 x (inr (inr (inr refl))) refl e
  of_row definition t (row.Nullable i) x e = exact 8 8 1 x (inr (inr (inr refl))) refl e
  of_row definition t (row.Slice i) x e = exact 24 8 3 x (inr (inr (inr refl))) refl e
  of_row definition t (row.Array n i) x e =
      let h = mapped (λ y. record { size = n * y.size; align = y.align }) (ks i) x e in
      subst IsAligned h.2 (items_aligned n h.0 (known i h.0 h.1))
  of_row definition t (row.Struct fs) x e = of_parts fields_extent fields_aligned (map (λ f. f.ty) fs) x e
  of_row definition t (row.Tuple is) x e = of_parts fields_extent fields_aligned is x e
  of_row definition t (row.Union is) x e = of_parts union_extent union_aligned is x e
  of_row definition t (row.Error i) x e = known i x e
  of_row definition t (row.Named d) x e = of_definition (definition d) x e

within_aligned : (s : Store) (n t : ℕ) (x : Extent) → found_within s (bytes_over (definition_of s)) n t ≡ Some x → IsAligned x
within_aligned s zero t x e = absurd cc
within_aligned s (suc n) t x e = by (row_at s t) e (within_aligned s n)
  where
    by : (o : Option Row) → option_and_then (bytes_over (definition_of s) (found_within s (bytes_over (definition_of s)) n) t) o ≡ Some x
        → ((i : ℕ) (y : Extent) → found_within s (bytes_over (definition_of s)) n i ≡ Some y → IsAligned y) → IsAligned x
    by None h ih = absurd cc
    by (Some r) h ih = of_row (found_within s (bytes_over (definition_of s)) n) ih (definition_of s) t r x h

pub types_are_aligned : (s : Store) (t : ℕ) (x : Extent) → extent_at s t ≡ Some x → IsAligned x
types_are_aligned s t x e = within_aligned s (length s.rows) t x e
