-- What the store says of a type, by the row of its base.
use Rattle.std.proofs.Common.{◌≡◌, ◌∙◌, sym, ap, subst, refl, ℕ, zero, suc, ◌<◌, Bool, true, false, List, length, Option, Some, None}
use Rattle.std.specs.Prelude.{option_and_then, unwrap_or, IsSome}
use Rattle.hare_types.specs.declared.row.Row.{Row}
use Rattle.hare_types.specs.declared.row.Row.TheVariants as row
use Rattle.hare_types.specs.declared.coercion.Ty.{Ty}
use Rattle.hare_types.specs.declared.coercion.Ty.TheVariants as ty
use Rattle.hare_types.specs.Assign.{IsIn, type_at}
use Rattle.hare_types.specs.Bases.{base_over}
use Rattle.hare_types.specs.Store.{Store, sized_of, definition_of, meaning_of, tree_at}
use Rattle.hare_types.specs.Sound.{IsStore}
use Rattle.hare_types.specs.ByIds.{row_at, found_within, base_at, sized_at, has_size_at, fields_of, fields_at}
use Rattle.hare_types.proofs.IdLemmas.{base-row, sized-row, sized_tells}
use Rattle.hare_typed.specs.Given.{base_row}
use Rattle.hare_layout.proofs.PlacesLemmas.{fields_lie_in, then}
use Rattle.hare_assign.proofs.TypeLemmas.{tree_at-type}
use Rattle.hare_typed.specs.Sizes.{Fits, HasPart}
use Rattle.hare_constancy.specs.Measured.{IsKnown}
use Rattle.std.proofs.lemmas.Option.{slice_get_within}

-- ---- sizes

module _ (s : Store) (v : IsStore s) where
  -- a name has a size where what it is defined to be has one
  named-size : (d q : ℕ) → definition_of s d ≡ Some q → sized_of s d ≡ sized_at s q
  named-size d q e =
      let tree : tree_at s q ≡ Some (type_at s q) = tree_at-type s q (v.defined_within d q e) in
      let meaning : meaning_of s d ≡ Some (type_at s q) = ap (option_and_then (tree_at s)) e ∙ tree in
      let h = v.defined_sized d (type_at s q) meaning in
      h.1 ∙ sym ((sized_tells s v q h.0).1 (type_at s q, tree, h.2))

  sized-within : (n t b : ℕ) → found_within s (base_over (definition_of s)) n t ≡ Some b → sized_at s t ≡ sized_at s b
  sized-within zero t b e = absurd cc
  sized-within (suc n) t b e = by (sized-within n) (row_at s t) refl e
    where
      itself : Some t ≡ Some b → sized_at s t ≡ sized_at s b
      itself g = let same : t ≡ b = cc in ap (sized_at s) same

      by : ((u c : ℕ) → found_within s (base_over (definition_of s)) n u ≡ Some c → sized_at s u ≡ sized_at s c) → (o : Option Row) →
          row_at s t ≡ o
          → option_and_then (base_over (definition_of s) (found_within s (base_over (definition_of s)) n) t) o ≡ Some b →
          sized_at s t ≡ sized_at s b
      by ih None f g = absurd cc
      by ih (Some (row.Scalar k)) f g = itself g
      by ih (Some (row.Pointer i)) f g = itself g
      by ih (Some (row.Nullable i)) f g = itself g
      by ih (Some (row.Slice i)) f g = itself g
      by ih (Some (row.Array m i)) f g = itself g
      by ih (Some (row.Struct fs)) f g = itself g
      by ih (Some (row.Tuple is)) f g = itself g
      by ih (Some (row.Union is)) f g = itself g
      by ih (Some (row.Error i)) f g = sized-row s t (row.Error i) f ∙ ih i b g
      by ih (Some (row.Named d)) f g =
          let meant = then (found_within s (base_over (definition_of s)) n) (definition_of s d) b g in
          sized-row s t (row.Named d) f ∙ named-size d meant.0 meant.1 ∙ ih meant.0 b meant.2

  pub sized_base : (t b : ℕ) → base_at s t ≡ Some b → sized_at s t ≡ sized_at s b
  sized_base t b e = sized-within (length s.rows) t b e

-- a struct, a tuple or a union: what is built of parts
abbrev pub is_built : Row → Bool
is_built (row.Struct fs) = true
is_built (row.Tuple is) = true
is_built (row.Union is) = true
is_built _ = false

-- what is built of parts has a size
pub built_sized : (s : Store) → IsStore s → (t : ℕ) (r : Row) → base_row s (ty.Of t) ≡ Some r → is_built r ≡ true → has_size_at s t ≡ true
built_sized s v t r e b =
    let h = then (row_at s) (base_at s t) r e in
    by h.0 r h.2 b (sized_base s v t h.0 h.1)
  where
    by : (u : ℕ) (q : Row) → row_at s u ≡ Some q → is_built q ≡ true → sized_at s t ≡ sized_at s u → has_size_at s t ≡ true
    by u (row.Struct fs) f g h = ap (λ o. unwrap_or o false) (h ∙ sized-row s u (row.Struct fs) f)
    by u (row.Tuple is) f g h = ap (λ o. unwrap_or o false) (h ∙ sized-row s u (row.Tuple is) f)
    by u (row.Union is) f g h = ap (λ o. unwrap_or o false) (h ∙ sized-row s u (row.Union is) f)
    by u (row.Scalar k) f g h = absurd cc
    by u (row.Pointer i) f g h = absurd cc
    by u (row.Nullable i) f g h = absurd cc
    by u (row.Slice i) f g h = absurd cc
    by u (row.Array m i) f g h = absurd cc
    by u (row.Error i) f g h = absurd cc
    by u (row.Named d) f g h = absurd cc

pub built_fits : (s : Store) → IsStore s → (t : ℕ) (r : Row) → IsKnown s (ty.Of t) → base_row s (ty.Of t) ≡ Some r → is_built r ≡ true →
    Fits s t
built_fits s v t r k e b = k.1 (built_sized s v t r e b)

-- ---- bases

-- a row that is no name and no error mark is that of its own base
pub own_base : (s : Store) (t : ℕ) (r : Row) → row_at s t ≡ Some r → is_built r ≡ true → base_row s (ty.Of t) ≡ Some r
own_base s t r e b = ap (option_and_then (row_at s)) (base-row s t r e ∙ by r b) ∙ e
  where
    by : (q : Row) → is_built q ≡ true → base_over (definition_of s) (base_at s) t q ≡ Some t
    by (row.Struct fs) g = refl
    by (row.Tuple is) g = refl
    by (row.Union is) g = refl
    by (row.Scalar k) g = absurd cc
    by (row.Pointer i) g = absurd cc
    by (row.Nullable i) g = absurd cc
    by (row.Slice i) g = absurd cc
    by (row.Array m i) g = absurd cc
    by (row.Error i) g = absurd cc
    by (row.Named d) g = absurd cc

-- a type whose base is known is in the store
pub base_in : (s : Store) (t : ℕ) → IsSome (base_at s t) → t < length s.rows
base_in s t k = by (row_at s t) refl
  where
    no_base : (n : ℕ) → length s.rows ≡ n → row_at s t ≡ None → false ≡ true
    no_base zero f e = subst IsSome (ap (λ m. found_within s (base_over (definition_of s)) m t) f) k
    no_base (suc n) f e =
        subst IsSome (ap (λ m. found_within s (base_over (definition_of s)) m t) f
        ∙ ap (option_and_then (base_over (definition_of s) (found_within s (base_over (definition_of s)) n) t)) e) k

    by : (o : Option Row) → row_at s t ≡ o → t < length s.rows
    by (Some r) e = slice_get_within s.rows t r e
    by None e =
        let nothing = no_base (length s.rows) refl e in
        absurd cc

pub known_in : (s : Store) (f : Ty) → IsKnown s f → IsIn s f
known_in s (ty.Of t) k = base_in s t k.0
known_in s (ty.Iconst w) k = tt
known_in s ty.Null k = tt
known_in s ty.Empty k = tt

-- ---- parts

pub fields_row : (s : Store) (t : ℕ) (r : Row) → base_row s (ty.Of t) ≡ Some r → fields_at s t ≡ fields_of r
fields_row s t r e =
    let h = then (row_at s) (base_at s t) r e in
    ap (option_and_then (λ b. option_and_then fields_of (row_at s b))) h.1 ∙ ap (option_and_then fields_of) h.2

-- a type that fits has each part that its row has
pub part_there : (s : Store) (t k : ℕ) (is : List ℕ) → Fits s t → fields_at s t ≡ Some is → k < length is → HasPart s t k
part_there s t k is h e l =
    let found = (fields_lie_in s t h.extent h.at).placed is k e l in
    subst IsSome (sym found.2.begins) refl
