-- Which types have no size, by their rows.
use Rattle.std.proofs.Common.{◌≡◌, ℕ, ◌+◌, ◌<◌, Bool, true, false, ◌||◌, List, length, take, map, get_or, Some, None, subst, arith, refl, ap, sym, ◌∙◌, ◌⊎◌, inl, inr}
use Rattle.std.specs.Prelude.{slice_get, is_some, not, option_map}
use Rattle.std.specs.List.{list_any}
use Rattle.std.proofs.lemmas.List.{length-map}
use Rattle.std.proofs.lemmas.List.Elements.{All-get_or}
use Rattle.std.proofs.lemmas.List.Folds.{list_any_at, list_any_more}
use Rattle.std.proofs.lemmas.Option.{get_or_from_slice_get, slice_get-get_or, slice_get-map}
use Rattle.hare_types.specs.declared.lists.Field.{Field}
use Rattle.hare_types.specs.declared.row.Row.{Row}
use Rattle.hare_types.specs.declared.row.Row.TheVariants as row
use Rattle.hare_types.specs.declared.row.Scalar.{Scalar as Keyword}
use Rattle.hare_types.specs.declared.row.Scalar.TheVariants.{Void, Never, Opaque, Bool as BoolWord, Rune, Str, I8, I16, I32, I64, U8, U16, U32, U64, Int, Uint, Size}
use Rattle.hare_types.specs.Rows.{tree_of, trees}
use Rattle.hare_types.specs.Store.{Store, sized_of}
use Rattle.hare_types.specs.Sound.{IsStore}
use Rattle.hare_types.specs.ByValue.{scalar_size, has_size}
use Rattle.hare_layout.specs.Ids.{is_unsized, unsized_at, AreIds}
use Rattle.hare_layout.proofs.SpreadLemmas.{tree_in-row}

unsized-row : (s : Store) → IsStore s → (t : ℕ) (r : Row) → slice_get s.rows t ≡ Some r →
    is_unsized (has_size s (tree_of (trees s.rows) r)) ≡ unsized_at s t
unsized-row s v t r e = ap (λ u. is_unsized (has_size s u)) (sym (tree_in-row s v t r e))

-- through an error mark
pub unsized-mark : (s : Store) → IsStore s → (t i : ℕ) → slice_get s.rows t ≡ Some (row.Error i) → unsized_at s i ≡ unsized_at s t
unsized-mark s v t i e = unsized-row s v t (row.Error i) e

-- the types of one word
pub unsized-wordless : (s : Store) → IsStore s → (t : ℕ) (k : Keyword) → slice_get s.rows t ≡ Some (row.Scalar k) →
    (k ≡ Never) ⊎ (k ≡ Opaque) → true ≡ unsized_at s t
unsized-wordless s v t k e (inl h) = unsized-row s v t (row.Scalar Never) (e ∙ ap (λ w. Some (row.Scalar w)) h)
unsized-wordless s v t k e (inr h) = unsized-row s v t (row.Scalar Opaque) (e ∙ ap (λ w. Some (row.Scalar w)) h)

sized_word : (k : Keyword) → ¬ (k ≡ Never) → ¬ (k ≡ Opaque) → is_some (scalar_size k) ≡ true
sized_word Void a b = refl
sized_word Never a b = absurd (a refl)
sized_word Opaque a b = absurd (b refl)
sized_word BoolWord a b = refl
sized_word Rune a b = refl
sized_word Str a b = refl
sized_word I8 a b = refl
sized_word I16 a b = refl
sized_word I32 a b = refl
sized_word I64 a b = refl
sized_word U8 a b = refl
sized_word U16 a b = refl
sized_word U32 a b = refl
sized_word U64 a b = refl
sized_word Int a b = refl
sized_word Uint a b = refl
sized_word Size a b = refl

pub unsized-word : (s : Store) → IsStore s → (t : ℕ) (k : Keyword) → slice_get s.rows t ≡ Some (row.Scalar k) → ¬ (k ≡ Never) →
    ¬ (k ≡ Opaque) → false ≡ unsized_at s t
unsized-word s v t k e a b = sym (ap (λ x. is_unsized (Some x)) (sized_word k a b)) ∙ unsized-row s v t (row.Scalar k) e

-- names
is_unsized-some : (b : Bool) → not b ≡ is_unsized (Some b)
is_unsized-some true = refl
is_unsized-some false = refl

pub unsized-name : (s : Store) → IsStore s → (t d : ℕ) (b : Bool) → slice_get s.rows t ≡ Some (row.Named d) → Some b ≡ sized_of s d →
    not b ≡ unsized_at s t
unsized-name s v t d b e g = is_unsized-some b ∙ ap is_unsized g ∙ unsized-row s v t (row.Named d) e

pub unsized-unknown : (s : Store) → IsStore s → (t d : ℕ) → slice_get s.rows t ≡ Some (row.Named d) → None ≡ sized_of s d →
    false ≡ unsized_at s t
unsized-unknown s v t d e g = ap is_unsized g ∙ unsized-row s v t (row.Named d) e

-- all other types
unsized_other : (s : Store) (r : Row) → ((k : Keyword) → ¬ (r ≡ row.Scalar k)) → ((i : ℕ) → ¬ (r ≡ row.Error i)) →
    ((d : ℕ) → ¬ (r ≡ row.Named d)) → is_unsized (has_size s (tree_of (trees s.rows) r)) ≡ false
unsized_other s (row.Scalar k) a b c = absurd (a k refl)
unsized_other s (row.Pointer i) a b c = refl
unsized_other s (row.Nullable i) a b c = refl
unsized_other s (row.Slice i) a b c = refl
unsized_other s (row.Array n i) a b c = refl
unsized_other s (row.Struct fs) a b c = refl
unsized_other s (row.Tuple is) a b c = refl
unsized_other s (row.Union is) a b c = refl
unsized_other s (row.Error i) a b c = absurd (b i refl)
unsized_other s (row.Named d) a b c = absurd (c d refl)

pub unsized-other : (s : Store) → IsStore s → (t : ℕ) (r : Row) → slice_get s.rows t ≡ Some r → ((k : Keyword) → ¬ (r ≡ row.Scalar k)) →
    ((i : ℕ) → ¬ (r ≡ row.Error i)) → ((d : ℕ) → ¬ (r ≡ row.Named d)) → false ≡ unsized_at s t
unsized-other s v t r e a b c = sym (unsized_other s r a b c) ∙ unsized-row s v t r e

-- ---- the types of fields

field_read : (fs : List Field) (k : ℕ) (x : Field) → k < length fs → x ≡ get_or fs k x → get_or (map (λ f. f.ty) fs) k x.ty ≡ x.ty
field_read fs k x l e =
    get_or_from_slice_get (map (λ f. f.ty) fs) k x.ty x.ty
    (slice_get-map (λ f. f.ty) fs k ∙ ap (option_map (λ f. f.ty)) (slice_get-get_or fs k x l ∙ ap Some (sym e)))

field_within : (fs : List Field) (k : ℕ) → k < length fs → k < length (map (λ f. f.ty) fs)
field_within fs k l = omega (arith, length-map fs (λ f. f.ty))

module _ (s : Store) (fs : List Field) (k : ℕ) (x : Field) (l : k < length fs) (e : x ≡ get_or fs k x) where
  pub field-id : AreIds s (map (λ f. f.ty) fs) → x.ty < length s.rows
  field-id ids = subst (λ t. t < length s.rows) (field_read fs k x l e)
      (All-get_or (λ i. i < length s.rows) (map (λ f. f.ty) fs) k x.ty (field_within fs k l) ids)

  pub field-unsized : unsized_at s x.ty ≡ true → true ≡ list_any (unsized_at s) (map (λ f. f.ty) fs)
  field-unsized h = sym (list_any_at (unsized_at s) (map (λ f. f.ty) fs) k x.ty (field_within fs k l)
      (ap (unsized_at s) (field_read fs k x l e) ∙ h))

  pub field-sized : list_any (unsized_at s) (take k (map (λ f. f.ty) fs)) ≡ false → unsized_at s x.ty ≡ false →
      list_any (unsized_at s) (take (k + 1) (map (λ f. f.ty) fs)) ≡ false
  field-sized before here =
      list_any_more (unsized_at s) (map (λ f. f.ty) fs) k x.ty (field_within fs k l)
      ∙ ap (λ b. b || unsized_at s (get_or (map (λ f. f.ty) fs) k x.ty)) before ∙ ap (unsized_at s) (field_read fs k x l e) ∙ here
