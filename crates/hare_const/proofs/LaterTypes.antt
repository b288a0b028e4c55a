-- What constants read of types is in each later store the same.
use Rattle.std.proofs.Common.{◌≡◌, ◌∙◌, sym, ap, ap₂, subst, refl, ℕ, zero, suc, ◌<◌, arith, List, [], ◌∷◌, length, get_or, Option, Some, None, IsSome, false}
use Rattle.std.specs.Prelude.{ℤ, pos, ◌≤◌, ◌==◌, position, bytes_eq, slice_get, option_map, option_and_then, unwrap_or}
use Rattle.std.specs.List.{All, AllByRecursion}
use Rattle.std.proofs.Common.{◌⊎◌, inl, inr}
use Rattle.std.proofs.lemmas.Bool.{cases_lt}
use Rattle.std.proofs.lemmas.List.{map-id}
use Rattle.std.proofs.lemmas.List.Elements.{recursion_from_All, All-from_recursion, Contains-get_or}
use Rattle.std.proofs.lemmas.List.Quantifiers.{position-Some}
use Rattle.std.proofs.lemmas.Slice.Eq.{bytes_eq-Decides}
use Rattle.std.proofs.lemmas.Option.{slice_get_within}
use Rattle.hare_tree.specs.Node.{Head}
use Rattle.hare_types.specs.declared.coercion.Ty.{Ty}
use Rattle.hare_types.specs.declared.coercion.Ty.TheVariants as ty
use Rattle.hare_types.specs.declared.row.Row.{Row}
use Rattle.hare_types.specs.declared.row.Row.TheVariants as row
use Rattle.hare_types.specs.declared.lists.Field.{Field}
use Rattle.hare_types.specs.Assign.{IsIn}
use Rattle.hare_types.specs.Store.{Store, definition_of}
use Rattle.hare_types.specs.Sound.{IsStore}
use Rattle.hare_types.specs.Later.{IsLater, KeepsTypes}
use Rattle.hare_types.specs.Bases.{base_over}
use Rattle.hare_types.specs.ByIds.{row_at, base_at, field_in, field_at, extent_at, offset_at}
use Rattle.hare_types.proofs.IdLemmas.{no_row}
use Rattle.hare_types.proofs.NumberingLemmas.{position_found}
use Rattle.hare_types.proofs.ListLemmas.{slice_get_front}
use Rattle.hare_types.proofs.MeaningsLemmas.{ids_mean_trees}
use Rattle.hare_types.proofs.LaterLemmas.{types_stay}
use Rattle.hare_typed.specs.declared.cell.Cell.{Cell}
use Rattle.hare_typed.specs.Cells.{with_cells, undefined_cells}
use Rattle.hare_typed.specs.Typed.{TypedNode, head_of}
use Rattle.hare_typed.specs.Order.{kid_from_front}
use Rattle.hare_typed.specs.Scalars.{Number, cells, spelled}
use Rattle.hare_typed.specs.Words.{number_in}
use Rattle.hare_typed.specs.Given.{base_row, size_in, pointee, pointee_in}
use Rattle.hare_typed.specs.Shapes.{shape_of_row, int_of_shape, align_in}
use Rattle.hare_typed.specs.Followed.{pointee_or, reached_within}
use Rattle.hare_typed.specs.Coercions.{number_of_value, number_cells, length_of_row, length_of_value}
use Rattle.hare_typed.specs.ConstantForms.{int_in, id_in, offset_in, part_in, part_named, with_parts, made_of, fields_from}
use Rattle.hare_typed.specs.Sizes.{Fits, HasPart}
use Rattle.hare_typed.specs.Settled.{IsSized, HasParts}
use Rattle.hare_typed.specs.Settled.{HasBase}
use Rattle.hare_const.proofs.PartLemmas.{name_at}

-- a type of the store whose base is known
pub in_store : (s : Store) (f : Ty) → HasBase s f → IsIn s f
in_store s (ty.Of t) h = by (row_at s t) refl (base_at s t) refl h
  where
    by : (r : Option Row) → row_at s t ≡ r → (o : Option ℕ) → base_at s t ≡ o → IsSome o → t < length s.rows
    by (Some r) e o g k = slice_get_within s.rows t r e
    by None e (Some b) g k = absurd (no_row s (base_over (definition_of s)) t e b g)
    by None e None g k = absurd cc
in_store s (ty.Iconst v) h = tt
in_store s ty.Null h = tt
in_store s ty.Empty h = tt

-- the base that a type has, with its row
pub record Based (s : Store) (t : ℕ) : Type 0 where
  pub base : ℕ
  pub row_of : Row
  pub is_base : base_at s t ≡ Some base
  pub is_row : row_at s base ≡ Some row_of

-- a type with the row of a base has a known base
pub known_base : (s : Store) (f : Ty) (r : Row) → base_row s f ≡ Some r → HasBase s f
known_base s (ty.Of t) r e = by (base_at s t) refl
  where
    by : (o : Option ℕ) → base_at s t ≡ o → IsSome (base_at s t)
    by (Some b) g = subst IsSome (sym g) refl
    by None g = let both : None ≡ Some r = sym (ap (option_and_then (row_at s)) g) ∙ e in absurd cc
known_base s (ty.Iconst v) r e = tt
known_base s ty.Null r e = tt
known_base s ty.Empty r e = tt

name_found : (s : Store) (text : List ℕ) (n : ℕ) → position (bytes_eq text) s.names ≡ Some n → slice_get s.names n ≡ Some text
name_found s text n e =
    ap (λ l. slice_get l n) (sym (map-id s.names)) ∙ position_found (λ q. q) text (bytes_eq text) (bytes_eq-Decides text) s.names n (sym e)

All-weaker : (P Q : ℕ → Type 0) → ((n : ℕ) → P n → Q n) → (ns : List ℕ) → All P ns → All Q ns
All-weaker P Q h ns a = All-from_recursion Q ns (each ns (recursion_from_All P ns a))
  where
    each : (ms : List ℕ) → AllByRecursion P ms → AllByRecursion Q ms
    each [] b = tt
    each (m ∷ ms) b = (h m b.0, each ms b.1)

module _ (s l : Store) (v : IsStore s) (later : IsLater s l) where
  pub keeps : KeepsTypes s l
  keeps = types_stay s l v later

  pub based : (t : ℕ) → IsSome (base_at s t) → Based s t
  based t h = from (base_at s t) refl h
    where
      from : (o : Option ℕ) → base_at s t ≡ o → IsSome o → Based s t
      from None e some = absurd cc
      from (Some b) e some =
          let is = ((ids_mean_trees s v).base t b).0 e in
          let there = (ids_mean_trees s v).there b is.1 is.3 in
          record { base = b; row_of = there.0; is_base = e; is_row = there.1 }

  some_stays : {A : Type 0} (o p : Option A) → ((a : A) → o ≡ Some a → p ≡ Some a) → IsSome o → p ≡ o
  some_stays None p h k = absurd cc
  some_stays (Some a) p h k = h a refl

  pub has_base : (f : Ty) → HasBase s f → HasBase l f
  has_base (ty.Of t) h = let b = based t h in subst IsSome (sym (keeps.base t b.base b.is_base)) refl
  has_base (ty.Iconst v) h = tt
  has_base ty.Null h = tt
  has_base ty.Empty h = tt

  pub base_row_same : (f : Ty) → HasBase s f → base_row l f ≡ base_row s f
  base_row_same (ty.Of t) h =
      let b = based t h in
      ap (option_and_then (row_at l)) (keeps.base t b.base b.is_base) ∙ keeps.row b.base b.row_of b.is_row
      ∙ sym (ap (option_and_then (row_at s)) b.is_base ∙ b.is_row)
  base_row_same (ty.Iconst v) h = refl
  base_row_same ty.Null h = refl
  base_row_same ty.Empty h = refl

  pub row_same : (t : ℕ) → IsSome (base_at s t) → row_at l t ≡ row_at s t
  row_same t h = by (row_at s t) refl
    where
      by : (r : Option Row) → row_at s t ≡ r → row_at l t ≡ row_at s t
      by (Some r) e = keeps.row t r e ∙ sym e
      by None e = let b = based t h in absurd (no_row s (base_over (definition_of s)) t e b.base b.is_base)

  -- ---- numbers

  pub cells_same : (f : Ty) (n : ℤ) → HasBase s f → number_cells l f n ≡ number_cells s f n
  cells_same (ty.Of t) n h =
      ap (λ r. unwrap_or (option_map (λ shape. cells shape (Number n)) (option_and_then shape_of_row r)) []) (base_row_same (ty.Of t) h)
  cells_same (ty.Iconst v) n h = refl
  cells_same ty.Null n h = refl
  cells_same ty.Empty n h = refl

  pub number_same : (f : Ty) (cs : List Cell) → HasBase s f → number_of_value l f cs ≡ number_of_value s f cs
  number_same (ty.Of t) cs h =
      ap (λ r. number_in (unwrap_or (option_and_then (λ shape. spelled shape cs) (option_and_then shape_of_row r)) (Number (pos 0))))
      (base_row_same (ty.Of t) h)
  number_same (ty.Iconst v) cs h = refl
  number_same ty.Null cs h = refl
  number_same ty.Empty cs h = refl

  pub int_same : (f : Ty) → HasBase s f → int_in l f ≡ int_in s f
  int_same (ty.Of t) h =
      ap (λ r. unwrap_or (option_map int_of_shape (option_and_then shape_of_row r)) (record { bits = 0; signed = false }))
      (base_row_same (ty.Of t) h)
  int_same (ty.Iconst v) h = refl
  int_same ty.Null h = refl
  int_same ty.Empty h = refl

  pub length_same : (f : Ty) → HasBase s f → length_of_value l f ≡ length_of_value s f
  length_same (ty.Of t) h = ap length_of_row (row_same t h)
  length_same (ty.Iconst v) h = refl
  length_same ty.Null h = refl
  length_same ty.Empty h = refl

  -- ---- sizes

  pub fits : (t : ℕ) → Fits s t → Fits l t
  fits t h = record { extent = h.extent; at = keeps.extent t h.extent h.at; few = h.few }

  measured : (t : ℕ) → Fits s t → IsSome (extent_at s t)
  measured t h = subst IsSome (sym h.at) refl

  pub sized : (f : Ty) → IsSized s f → IsSized l f
  sized (ty.Of t) h = fits t h
  sized (ty.Iconst v) h = tt
  sized ty.Null h = tt
  sized ty.Empty h = tt

  pub size_same : (f : Ty) → IsSized s f → size_in l f ≡ size_in s f
  size_same (ty.Of t) h = keeps.size t (measured t h)
  size_same (ty.Iconst v) h = refl
  size_same ty.Null h = refl
  size_same ty.Empty h = refl

  pub align_same : (f : Ty) → IsSized s f → align_in l f ≡ align_in s f
  align_same (ty.Of t) h = keeps.align t (measured t h)
  align_same (ty.Iconst v) h = refl
  align_same ty.Null h = refl
  align_same ty.Empty h = refl

  -- ---- parts

  pub part_same : (t k : ℕ) → HasPart s t k → offset_at l t k ≡ offset_at s t k
  part_same t k h = some_stays (offset_at s t k) (offset_at l t k) (keeps.offset t k) h

  part_stays : (t k : ℕ) → HasPart s t k → HasPart l t k
  part_stays t k h = subst IsSome (sym (part_same t k h)) h

  parts_same : (f : Ty) (t : ℕ) (ns : List ℕ) (cs : List (List Cell)) (into : List Cell) → f ≡ ty.Of t → AllByRecursion (HasPart s t) ns →
      with_parts l f ns cs into ≡ with_parts s f ns cs into
  parts_same f t [] cs into e h = refl
  parts_same f t (n ∷ ns) [] into e h = refl
  parts_same f t (n ∷ ns) (c ∷ cs) into e h =
      let id : id_in f ≡ t = ap id_in e in
      let at : offset_in l f n ≡ offset_in s f n
      = ap (λ i. unwrap_or (offset_at l i n) 0) id ∙ ap (λ o. unwrap_or o 0) (part_same t n h.0)
      ∙ ap (λ i. unwrap_or (offset_at s i n) 0) (sym id) in
      parts_same f t ns cs (with_cells (offset_in l f n) c into) e h.1 ∙ ap (λ k. with_parts s f ns cs (with_cells k c into)) at

  -- a value of a type with these parts
  pub made_same : (f : Ty) (ns : List ℕ) (cs : List (List Cell)) → HasParts s f ns → made_of l f ns cs ≡ made_of s f ns cs
  made_same (ty.Of t) ns cs h =
      parts_same (ty.Of t) t ns cs (undefined_cells (size_in l (ty.Of t))) refl (recursion_from_All (HasPart s t) ns h.1)
      ∙ ap (λ n. with_parts s (ty.Of t) ns cs (undefined_cells n)) (size_same (ty.Of t) h.0)
  made_same (ty.Iconst v) ns cs h = absurd h
  made_same ty.Null ns cs h = absurd h
  made_same ty.Empty ns cs h = absurd h

  pub has_parts : (f : Ty) (ns : List ℕ) → HasParts s f ns → HasParts l f ns
  has_parts (ty.Of t) ns h = (fits t h.0, All-weaker (HasPart s t) (HasPart l t) (part_stays t) ns h.1)
  has_parts (ty.Iconst v) ns h = absurd h
  has_parts ty.Null ns h = absurd h
  has_parts ty.Empty ns h = absurd h

  -- ---- names of fields

  name_stays : (text : List ℕ) (n : ℕ) → position (bytes_eq text) s.names ≡ Some n → position (bytes_eq text) l.names ≡ Some n
  name_stays text n e =
      let here : slice_get s.names n ≡ Some text = name_found s text n e in
      let more = later.grows.names in
      name_at l later.sound text n
      (ap (λ ns. slice_get ns n) more.1 ∙ slice_get_front s.names more.0 n (slice_get_within s.names n text here) ∙ here)

  -- a name that was not there came later
  new_name : (text : List ℕ) (n : ℕ) → position (bytes_eq text) s.names ≡ None → position (bytes_eq text) l.names ≡ Some n →
      length s.names ≤ n
  new_name text n g k = by (cases_lt n (length s.names))
    where
      by : (n < length s.names) ⊎ (length s.names ≤ n) → length s.names ≤ n
      by (inr h) = h
      by (inl h) =
          let more = later.grows.names in
          let here : slice_get s.names n ≡ Some text
          = sym (slice_get_front s.names more.0 n h) ∙ sym (ap (λ ns. slice_get ns n) more.1) ∙ name_found l text n k in
          let both : None ≡ Some n = sym g ∙ name_at s v text n here in
          absurd cc

  -- no struct has a field with a name that came later
  unnamed : (b : ℕ) (fs : List Field) (n : ℕ) → row_at s b ≡ Some (row.Struct fs) → length s.names ≤ n → field_at s b n ≡ None
  unnamed b fs n e h = ap (option_and_then (field_in n)) e ∙ by (position (λ f. f.name == n) fs) refl
    where
      by : (o : Option ℕ) → position (λ f. f.name == n) fs ≡ o → position (λ f. f.name == n) fs ≡ None
      by None g = g
      by (Some i) g =
          let d : Field = record { name = 0; ty = 0 } in
          let at = position-Some (λ f. f.name == n) fs i d g in
          let low : (get_or fs i d).name < length s.names = v.fields_named b fs e (get_or fs i d) (Contains-get_or fs i d at.0) in
          let same : (get_or fs i d).name ≡ n = grind (arith, at.1) in
          absurd (omega (arith, low, h, same))

  field_same : (b : ℕ) (fs : List Field) (text : List ℕ) → row_at s b ≡ Some (row.Struct fs) →
      option_and_then (field_at l b) (position (bytes_eq text) l.names) ≡ option_and_then (field_at s b) (position (bytes_eq text) s.names)
  field_same b fs text e = by (position (bytes_eq text) s.names) refl (position (bytes_eq text) l.names) refl
    where
      inside : b < length s.rows
      inside = slice_get_within s.rows b (row.Struct fs) e

      by : (o : Option ℕ) → position (bytes_eq text) s.names ≡ o → (p : Option ℕ) → position (bytes_eq text) l.names ≡ p →
          option_and_then (field_at l b) (position (bytes_eq text) l.names)
          ≡ option_and_then (field_at s b) (position (bytes_eq text) s.names)
      by (Some n) g p k =
          ap (option_and_then (field_at l b)) (name_stays text n g) ∙ keeps.field b n inside ∙ sym (ap (option_and_then (field_at s b)) g)
      by None g None k = ap (option_and_then (field_at l b)) k ∙ sym (ap (option_and_then (field_at s b)) g)
      by None g (Some n) k =
          ap (option_and_then (field_at l b)) k ∙ keeps.field b n inside ∙ unnamed b fs n e (new_name text n g k)
          ∙ sym (ap (option_and_then (field_at s b)) g)

  part_in_same : (t b : ℕ) (h : Head) (r : Row) → base_at s t ≡ Some b → row_at s b ≡ Some r →
      part_in l (ty.Of t) h (Some r) ≡ part_in s (ty.Of t) h (Some r)
  part_in_same t b h (row.Struct fs) e g =
      ap (λ o. unwrap_or (option_and_then (λ c. option_and_then (field_at l c) (position (bytes_eq h.text) l.names)) o) 0)
      (keeps.base t b e)
      ∙ ap (λ o. unwrap_or o 0) (field_same b fs h.text g)
      ∙ sym (ap (λ o. unwrap_or (option_and_then (λ c. option_and_then (field_at s c) (position (bytes_eq h.text) s.names)) o) 0) e)
  part_in_same t b h (row.Scalar k) e g = refl
  part_in_same t b h (row.Pointer i) e g = refl
  part_in_same t b h (row.Nullable i) e g = refl
  part_in_same t b h (row.Slice i) e g = refl
  part_in_same t b h (row.Array n i) e g = refl
  part_in_same t b h (row.Tuple is) e g = refl
  part_in_same t b h (row.Union is) e g = refl
  part_in_same t b h (row.Error i) e g = refl
  part_in_same t b h (row.Named d) e g = refl

  -- which part a member names
  pub named_same : (f : Ty) (h : Head) → HasBase s f → part_named l f h ≡ part_named s f h
  named_same (ty.Of t) h k =
      let b = based t k in
      let here : base_row s (ty.Of t) ≡ Some b.row_of = ap (option_and_then (row_at s)) b.is_base ∙ b.is_row in
      ap (part_in l (ty.Of t) h) (base_row_same (ty.Of t) k ∙ here) ∙ part_in_same t b.base h b.row_of b.is_base b.is_row
      ∙ sym (ap (part_in s (ty.Of t) h) here)
  named_same (ty.Iconst v) h k = refl
  named_same ty.Null h k = refl
  named_same ty.Empty h k = refl

  pub fields_same : (f : Ty) (i n : ℕ) (t : TypedNode) → HasBase s f → fields_from l f i n t ≡ fields_from s f i n t
  fields_same f i zero t h = refl
  fields_same f i (suc n) t h = ap₂ (λ p ps. p ∷ ps) (named_same f (head_of (kid_from_front i t)) h) (fields_same f (suc i) n t h)

  -- ---- pointers

  stuck : (n : ℕ) (f : Ty) → base_row s f ≡ None → reached_within n s f ≡ f
  stuck zero f e = refl
  stuck (suc n) f e = ap (λ r. reached_within n s (pointee_or f (pointee_in r))) e ∙ stuck n f e

  -- what is reached through pointers, where the base is known of what is reached
  pub reached_same : (n : ℕ) (f : Ty) (t : ℕ) → reached_within n s f ≡ ty.Of t → IsSome (base_at s t) → reached_within n l f ≡ ty.Of t
  reached_same zero f t e h = e
  reached_same (suc n) f t e h = by (base_row s f) refl (reached_same n (pointee_or f (pointee s f)) t e h)
    where
      lost : base_row s f ≡ None → ⊥
      lost g =
          let same : f ≡ ty.Of t = sym (stuck (suc n) f g) ∙ e in
          let b = based t h in
          let both : None ≡ Some b.row_of = sym g ∙ ap (base_row s) same ∙ ap (option_and_then (row_at s)) b.is_base ∙ b.is_row in
          cc

      by : (r : Option Row) → base_row s f ≡ r → reached_within n l (pointee_or f (pointee s f)) ≡ ty.Of t →
          reached_within (suc n) l f ≡ ty.Of t
      by None g ih = absurd (lost g)
      by (Some r) g ih =
          let known : HasBase s f = known_base s f r g in
          let step : pointee l f ≡ pointee s f = ap pointee_in (base_row_same f known) in
          ap (λ p. reached_within n l (pointee_or f p)) step ∙ ih
