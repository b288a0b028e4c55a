-- What goes to a text: another text, as it is, or what has no value.
use Rattle.std.proofs.Common.{◌≡◌, ◌≢◌, ◌∙◌, sym, ap, subst, refl, ℕ, ◌<◌, Bool, true, false, ◌&&◌, ◌⊎◌, inl, inr, List, [], ◌∷◌, length, Option, Some, None}
use Rattle.std.specs.Prelude.{ltb, option_map, option_and_then, unwrap_or, IsSome}
use Rattle.std.specs.Bool.{beq}
use Rattle.std.proofs.lemmas.Bool.{eqb-true}
use Rattle.hare_types.specs.declared.coercion.Coercion.{Coercion}
use Rattle.hare_types.specs.declared.coercion.Ty.{Ty}
use Rattle.hare_types.specs.declared.coercion.Ty.TheVariants as ty
use Rattle.hare_types.specs.declared.row.Row.{Row}
use Rattle.hare_types.specs.declared.row.Row.TheVariants as row
use Rattle.hare_types.specs.declared.row.Scalar.{Scalar as Keyword}
use Rattle.hare_types.specs.declared.row.Scalar.TheVariants as keyword
use Rattle.hare_types.specs.Assign.{Value, Of, Iconst, Null, Empty, type_at, value_at, base, holds_of, signed, bits, wider, is_same, is_never, is_const, is_wider, is_pointer, is_null, is_slice, is_name, is_union, items_fit, joins, same, tree_holds, is_nullable, first_from, first_row}
use Rattle.hare_types.specs.Keys.{scalar_eq}
use Rattle.hare_types.specs.Rows.{tree_of, trees}
use Rattle.hare_types.specs.Trees.{Tree, Scalar, Pointer, Nullable, Array, Error, Named}
use Rattle.hare_types.specs.Bases.{base_over}
use Rattle.hare_types.specs.Store.{Store, definition_of}
use Rattle.hare_types.specs.Sound.{IsStore}
use Rattle.hare_types.specs.ByIds.{row_at, base_at}
use Rattle.hare_types.proofs.IdLemmas.{no_row, base-row, base_tells}
use Rattle.hare_types.proofs.MeaningsLemmas.{ids_mean_trees}
use Rattle.hare_typed.specs.Given.{base_row, is_str_row, is_str}
use Rattle.hare_layout.proofs.PlacesLemmas.{then}
use Rattle.hare_assign.proofs.ChosenLemmas.{base_is}
use Rattle.hare_assign.proofs.SameLemmas.{same-ids}
use Rattle.hare_assign.proofs.TypeLemmas.{type_at_row}
use Rattle.hare_typed.specs.Texts.{keeps_text}
use Rattle.hare_rules.specs.Settles.{same as same_as}
use Rattle.hare_constancy.specs.Measured.{IsKnown}
use Rattle.hare_constancy.specs.Met.{GoesTo}
use Rattle.hare_constancy.proofs.Types.{base_in}

-- ---- which types are texts

pub str_row : (o : Option Row) → is_str_row o ≡ true → o ≡ Some (row.Scalar keyword.Str)
str_row (Some (row.Scalar keyword.Str)) e = refl
str_row _ e = absurd cc

pub str_id : (s : Store) (f : Ty) → is_str s f ≡ true → (t : ℕ) × (f ≡ ty.Of t) × (base_row s (ty.Of t) ≡ Some (row.Scalar keyword.Str))
str_id s (ty.Of t) e = (t, refl, str_row (base_row s (ty.Of t)) e)
str_id s (ty.Iconst v) e = absurd cc
str_id s ty.Null e = absurd cc
str_id s ty.Empty e = absurd cc

-- a keyword that is the base of a text is that of texts
pub word_of_str : (s : Store) (t : ℕ) (k : Keyword) → base_row s (ty.Of t) ≡ Some (row.Scalar k) → is_str s (ty.Of t) ≡ true →
    k ≡ keyword.Str
word_of_str s t k e b = let both : Some (row.Scalar k) ≡ Some (row.Scalar keyword.Str) = sym e ∙ str_row (base_row s (ty.Of t)) b in cc

same-str : (k : Keyword) → scalar_eq k keyword.Str ≡ true → k ≡ keyword.Str
same-str keyword.Str e = refl
same-str _ e = absurd cc

-- as a tree a text is `str`, or a name or an error mark
abbrev pub IsText : Tree → Type 0
IsText (Scalar k) = k ≡ keyword.Str
IsText (Error u) = Unit {0}
IsText (Named d) = Unit {0}
IsText _ = ⊥

-- by which row a value goes to a text: it is one that is kept as it is, or one of type `never`
abbrev GoesToText : Store → Ty → (row : ℕ) → Type 0
GoesToText s f n = (n ≡ 2) ⊎ ((keeps_text n ≡ true) × (is_str s f ≡ true))

-- the table, where the others do not admit
abbrev three_rows : (x y z : Bool) → List Bool
three_rows x y z = x ∷ y ∷ false ∷ false ∷ false ∷ false ∷ false ∷ z ∷ false ∷ []

-- ---- rows that admit no text

no_wider : (f : Value) (u : Tree) → IsText u → is_wider f u ≡ false
no_wider (Of (Scalar a)) (Scalar k) e = ap (wider a) e ∙ by (signed a)
  where
    by : (o : Option Bool) → holds_of (λ x. holds_of (λ y. beq x y && ltb (bits a) (bits keyword.Str)) (signed keyword.Str)) o ≡ false
    by None = refl
    by (Some x) = refl
no_wider _ _ e = refl

no_pointer : (f : Value) (u : Tree) → IsText u → is_pointer f u ≡ false
no_pointer (Of (Pointer x)) (Pointer y) e = absurd e
no_pointer (Of (Pointer x)) (Nullable y) e = absurd e
no_pointer (Of (Nullable x)) (Nullable y) e = absurd e
no_pointer _ _ e = refl

no_items : (f : Value) → items_fit f (Scalar keyword.Str) ≡ false
no_items (Of (Array n x)) = refl
no_items _ = refl

no_join : (s : Store) (f : Value) → joins s f (Scalar keyword.Str) ≡ false
no_join s f = refl

module _ (s : Store) (v : IsStore s) (t : ℕ) (b : base_row s (ty.Of t) ≡ Some (row.Scalar keyword.Str)) where
  found : (i : ℕ) × (base_at s t ≡ Some i) × (row_at s i ≡ Some (row.Scalar keyword.Str))
  found = then (row_at s) (base_at s t) (row.Scalar keyword.Str) b

  within : t < length s.rows
  within = base_in s t (subst IsSome (sym found.1) refl)

  pub base_str : base s (type_at s t) ≡ Some (Scalar keyword.Str)
  base_str =
      base_is s v t within found.0 ((base_tells s v t found.0).0 found.1)
      ∙ ap Some (type_at_row s v found.0 (row.Scalar keyword.Str) found.2)

  pub tree_str : IsText (type_at s t)
  tree_str = by (row_at s t) refl
    where
      itself : (r : Row) → row_at s t ≡ Some r → base_at s t ≡ Some t → r ≡ row.Scalar keyword.Str
      itself r f g = let both : Some r ≡ Some (row.Scalar keyword.Str) = sym (ap (option_and_then (row_at s)) g ∙ f) ∙ b in cc

      of_row : (r : Row) → row_at s t ≡ Some r → IsText (tree_of (trees s.rows) r)
      of_row (row.Scalar k) f = let same = itself (row.Scalar k) f (base-row s t (row.Scalar k) f) in cc
      of_row (row.Error i) f = tt
      of_row (row.Named d) f = tt
      of_row (row.Pointer i) f = let same = itself (row.Pointer i) f (base-row s t (row.Pointer i) f) in absurd cc
      of_row (row.Nullable i) f = let same = itself (row.Nullable i) f (base-row s t (row.Nullable i) f) in absurd cc
      of_row (row.Slice i) f = let same = itself (row.Slice i) f (base-row s t (row.Slice i) f) in absurd cc
      of_row (row.Array m i) f = let same = itself (row.Array m i) f (base-row s t (row.Array m i) f) in absurd cc
      of_row (row.Struct fs) f = let same = itself (row.Struct fs) f (base-row s t (row.Struct fs) f) in absurd cc
      of_row (row.Tuple is) f = let same = itself (row.Tuple is) f (base-row s t (row.Tuple is) f) in absurd cc
      of_row (row.Union is) f = let same = itself (row.Union is) f (base-row s t (row.Union is) f) in absurd cc

      by : (o : Option Row) → row_at s t ≡ o → IsText (type_at s t)
      by (Some r) f = subst IsText (sym (type_at_row s v t r f)) (of_row r f)
      by None f = absurd (no_row s (base_over (definition_of s)) t f found.0 found.1)

  -- ---- rows by the base

  no_const : (f : Value) → is_const s f (type_at s t) ≡ false
  no_const (Iconst n) = ap (holds_of (λ u. tree_holds u n)) base_str
  no_const (Of u) = refl
  no_const Null = refl
  no_const Empty = refl

  no_null : (f : Value) → is_null s f (type_at s t) ≡ false
  no_null Null = ap (holds_of is_nullable) base_str
  no_null (Of u) = refl
  no_null (Iconst n) = refl
  no_null Empty = refl

  no_slice : (f : Value) → is_slice s f (type_at s t) ≡ false
  no_slice f = ap (holds_of (items_fit f)) base_str ∙ no_items f

  no_union : (f : Value) → is_union s f (type_at s t) ≡ false
  no_union f = ap (holds_of (joins s f)) base_str ∙ no_join s f

  -- three rows are left
  rows_left : (f : Value) → first_row s f (type_at s t) ≡ first_from 1 (three_rows (is_same f (type_at s t)) (is_never f)
      (is_name s f (type_at s t)))
  rows_left f =
      let u = type_at s t in
      ap (λ (x : Bool). first_from 1 (is_same f u ∷ is_never f ∷ x ∷ is_wider f u ∷ is_pointer f u ∷ is_null s f u ∷ is_slice s f u ∷
      is_name s f u ∷ is_union s f u ∷ [])) (no_const f)
      ∙ ap (λ (x : Bool). first_from 1 (is_same f u ∷ is_never f ∷ false ∷ x ∷ is_pointer f u ∷ is_null s f u ∷ is_slice s f u ∷
      is_name s f u ∷ is_union s f u ∷ [])) (no_wider f u tree_str)
      ∙ ap (λ (x : Bool). first_from 1 (is_same f u ∷ is_never f ∷ false ∷ false ∷ x ∷ is_null s f u ∷ is_slice s f u ∷
      is_name s f u ∷ is_union s f u ∷ [])) (no_pointer f u tree_str)
      ∙ ap (λ (x : Bool). first_from 1 (is_same f u ∷ is_never f ∷ false ∷ false ∷ false ∷ x ∷ is_slice s f u ∷
      is_name s f u ∷ is_union s f u ∷ [])) (no_null f)
      ∙ ap (λ (x : Bool). first_from 1 (is_same f u ∷ is_never f ∷ false ∷ false ∷ false ∷ false ∷ x ∷
      is_name s f u ∷ is_union s f u ∷ [])) (no_slice f)
      ∙ ap (λ (x : Bool). first_from 1 (is_same f u ∷ is_never f ∷ false ∷ false ∷ false ∷ false ∷ false ∷
      is_name s f u ∷ x ∷ [])) (no_union f)

  -- ---- what those rows say

  same_id : (i : ℕ) → i < length s.rows → same (type_at s i) (type_at s t) ≡ true → is_str s (ty.Of i) ≡ true
  same_id i l e =
      let one : i ≡ t = eqb-true i t (same-ids s v i t l within ∙ e) in
      ap (λ (n : ℕ). is_str s (ty.Of n)) one ∙ ap is_str_row b

  text_tree : (r : Row) → same (tree_of (trees s.rows) r) (Scalar keyword.Str) ≡ true → r ≡ row.Scalar keyword.Str
  text_tree (row.Scalar k) e = ap row.Scalar (same-str k e)
  text_tree _ e = absurd cc

  same_base : (i : ℕ) → IsSome (base_at s i) → is_name s (Of (type_at s i)) (type_at s t) ≡ true → is_str s (ty.Of i) ≡ true
  same_base i k e = by (base_at s i) refl k
    where
      by : (o : Option ℕ) → base_at s i ≡ o → IsSome o → is_str s (ty.Of i) ≡ true
      by None f g = absurd cc
      by (Some n) f g =
          let is = (base_tells s v i n).0 f in
          let r = (ids_mean_trees s v).there n is.1 is.3 in
          let tree = base_is s v i (base_in s i k) n is ∙ ap Some (type_at_row s v n r.0 r.1) in
          let one = text_tree r.0
          (sym (ap (λ (o : Option Tree). holds_of (λ (u : Tree). holds_of (same u) o) (Some (tree_of (trees s.rows) r.0))) base_str)
          ∙ sym (ap (holds_of (λ (u : Tree). holds_of (same u) (base s (type_at s t)))) tree) ∙ e) in
          ap (λ (o : Option ℕ). is_str_row (option_and_then (row_at s) o)) f ∙ ap is_str_row (r.1 ∙ ap Some one)

  -- a value that goes to a text is one, unless it has none
  pub text_admitted : (f : Ty) → IsKnown s f → (n : ℕ) → first_row s (value_at s f) (type_at s t) ≡ Some n → GoesToText s f n
  text_admitted (ty.Of i) k n e =
      by (is_same (Of (type_at s i)) (type_at s t)) refl (is_never (Of (type_at s i))) (is_name s (Of (type_at s i)) (type_at s t)) refl
      (sym (rows_left (Of (type_at s i))) ∙ e)
    where
      row : (m : ℕ) → Some m ≡ Some n → m ≡ n
      row m f = cc

      by : (x : Bool) → same (type_at s i) (type_at s t) ≡ x → (y z : Bool) → is_name s (Of (type_at s i)) (type_at s t) ≡ z →
          first_from 1 (three_rows x y z) ≡ Some n → GoesToText s (ty.Of i) n
      by true f y z g h = inr (subst (λ (m : ℕ). keeps_text m ≡ true) (row 1 h) refl, same_id i (base_in s i k.0) f)
      by false f true z g h = inl (sym (row 2 h))
      by false f false true g h = inr (subst (λ (m : ℕ). keeps_text m ≡ true) (row 8 h) refl, same_base i k.0 g)
      by false f false false g h = absurd cc
  text_admitted (ty.Iconst w) k n e = let no = sym (rows_left (Iconst w)) ∙ e in absurd cc
  text_admitted ty.Null k n e = let no = sym (rows_left Null) ∙ e in absurd cc
  text_admitted ty.Empty k n e = let no = sym (rows_left Empty) ∙ e in absurd cc

  pub no_empty : (n : ℕ) → first_row s Empty (type_at s t) ≡ Some n → ⊥
  no_empty n e = let no = sym (rows_left Empty) ∙ e in absurd cc

-- ---- coercions

-- what the first row that admits, where there is one, makes of a value
abbrev made_of : Ty → ℕ → Option ℕ → Coercion
made_of f t o = unwrap_or (option_map (λ m. record { row = m; to = ty.Of t }) o) (same_as f)

-- What goes to a text, and has a value, is one that is left as it is.
pub goes_text : (s : Store) → IsStore s → (f : Ty) (r : Coercion) → IsKnown s f → GoesTo s f r → is_str s r.to ≡ true → r.row ≢ 2 →
    (keeps_text r.row ≡ true) × (is_str s f ≡ true)
goes_text s v f r k (None, e) b n =
    let there : is_str s f ≡ true = sym (ap (λ (q : Coercion). is_str s q.to) e) ∙ b in
    (ap (λ (q : Coercion). keeps_text q.row) e, there)
goes_text s v f r k (Some t, e) b n = by (first_row s (value_at s f) (type_at s t)) refl
  where
    is : (o : Option ℕ) → first_row s (value_at s f) (type_at s t) ≡ o → r ≡ made_of f t o
    is o g = e ∙ ap (λ (p : Option ℕ). unwrap_or (option_map (λ m. record { row = m; to = ty.Of t }) p) (same_as f)) g

    by : (o : Option ℕ) → first_row s (value_at s f) (type_at s t) ≡ o → (keeps_text r.row ≡ true) × (is_str s f ≡ true)
    by None g =
        let there : is_str s f ≡ true = sym (ap (λ (q : Coercion). is_str s q.to) (is None g)) ∙ b in
        (ap (λ (q : Coercion). keeps_text q.row) (is None g), there)
    by (Some m) g =
        let text : is_str s (ty.Of t) ≡ true = sym (ap (λ (q : Coercion). is_str s q.to) (is (Some m) g)) ∙ b in
        let row : r.row ≡ m = ap (λ (q : Coercion). q.row) (is (Some m) g) in
        left row (text_admitted s v t (str_row (base_row s (ty.Of t)) text) f k m g)
      where
        left : r.row ≡ m → GoesToText s f m → (keeps_text r.row ≡ true) × (is_str s f ≡ true)
        left q (inl two) = absurd (n (q ∙ two))
        left q (inr (a, c)) = (ap keeps_text q ∙ a, c)
