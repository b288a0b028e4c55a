-- A type that waits for a name has no extent, and waits for it in each later store that does not define it.
use Rattle.std.proofs.Common.{◌≡◌, ◌⊎◌, inl, inr, ℕ, zero, suc, ◌*◌, List, [], ◌∷◌, length, map, Option, Some, None, refl, ap, sym, ◌∙◌, subst}
use Rattle.std.specs.Prelude.{option_map, option_and_then, Contains}
use Rattle.std.specs.Option.{option_to_list}
use Rattle.hare_types.specs.declared.extent.Extent.{Extent}
use Rattle.hare_types.specs.declared.row.Row.{Row}
use Rattle.hare_types.specs.declared.row.Row.TheVariants as row
use Rattle.hare_types.specs.Store.{Store, definition_of}
use Rattle.hare_types.specs.Kept.{all_known}
use Rattle.hare_types.specs.ByIds.{found_within, bytes_over, extent_at}
use Rattle.hare_types.specs.Later.{IsLater}
use Rattle.hare_waits.specs.Held.{held_by, Holds, WaitsFor, undefined, holding}
use Rattle.hare_waits.proofs.ElementLemmas.{Contains-head, Contains-none, Contains-cons}
use Rattle.hare_waits.proofs.GrowthLemmas.{row_stays}

-- ---- extents

all_known-none : (ks : ℕ → Option Extent) (is : List ℕ) (i : ℕ) → Contains is i → ks i ≡ None → all_known ks is ≡ None
all_known-none ks [] i c e = absurd (Contains-none i c)
all_known-none ks (j ∷ js) i c e = by (all_known-none ks js i) (Contains-cons j i js c)
  where
    rest : (o : Option Extent) → all_known ks js ≡ None → option_and_then (λ x. option_map (λ xs. x ∷ xs) (all_known ks js)) o ≡ None
    rest None g = refl
    rest (Some x) g = ap (option_map (λ xs. x ∷ xs)) g

    by : (Contains js i → ks i ≡ None → all_known ks js ≡ None) → (j ≡ i) ⊎ Contains js i → all_known ks (j ∷ js) ≡ None
    by ih (inl p) = ap (option_and_then (λ x. option_map (λ xs. x ∷ xs) (all_known ks js))) (ap ks p ∙ e)
    by ih (inr r) = rest (ks j) (ih r e)

single : {X : Type 0} (x y : X) → Contains (x ∷ []) y → x ≡ y
single x y c = by (Contains-cons x y [] c)
  where
    by : (x ≡ y) ⊎ Contains [] y → x ≡ y
    by (inl e) = e
    by (inr n) = absurd (Contains-none y n)

-- what stands in an optional value is that value
in_option : (o : Option ℕ) (i : ℕ) → Contains (option_to_list o) i → o ≡ Some i
in_option None i c = absurd (Contains-none i c)
in_option (Some j) i c = ap Some (single j i c)

-- a row that holds by value a type without an extent has none
bytes_over-none : (definition : ℕ → Option ℕ) (ks : ℕ → Option Extent) (t i : ℕ) (r : Row) → Contains (held_by definition r) i → ks i ≡ None
    → bytes_over definition ks t r ≡ None
bytes_over-none definition ks t i (row.Scalar k) c e = absurd (Contains-none i c)
bytes_over-none definition ks t i (row.Pointer j) c e = absurd (Contains-none i c)
bytes_over-none definition ks t i (row.Nullable j) c e = absurd (Contains-none i c)
bytes_over-none definition ks t i (row.Slice j) c e = absurd (Contains-none i c)
bytes_over-none definition ks t i (row.Array n j) c e =
    ap (option_map (λ x. record { size = n * x.size; align = x.align })) (ap ks (single j i c) ∙ e)
bytes_over-none definition ks t i (row.Struct fs) c e = ap (option_map _) (all_known-none ks (map (λ f. f.ty) fs) i c e)
bytes_over-none definition ks t i (row.Tuple js) c e = ap (option_map _) (all_known-none ks js i c e)
bytes_over-none definition ks t i (row.Union js) c e = ap (option_map _) (all_known-none ks js i c e)
bytes_over-none definition ks t i (row.Error j) c e = ap ks (single j i c) ∙ e
bytes_over-none definition ks t i (row.Named d) c e = ap (option_and_then ks) (in_option (definition d) i c) ∙ e

module _ (s : Store) where
  found-none : (t d : ℕ) → WaitsFor s t d → (n : ℕ) → found_within s (bytes_over (definition_of s)) n t ≡ None
  found-none t d w zero = refl
  found-none t d (undefined t' d' e g) (suc n) =
      ap (option_and_then (bytes_over (definition_of s) (found_within s (bytes_over (definition_of s)) n) t)) e ∙ ap
      (option_and_then (found_within s (bytes_over (definition_of s)) n)) g
  found-none t d (holding t' i d' h w) (suc n) =
      ap (option_and_then (bytes_over (definition_of s) (found_within s (bytes_over (definition_of s)) n) t)) h.stands
      ∙ bytes_over-none (definition_of s) (found_within s (bytes_over (definition_of s)) n) t i h.row h.held (found-none i d w n)

  -- nothing is known of the bytes of a type that waits
  pub extent-WaitsFor : (t d : ℕ) → WaitsFor s t d → extent_at s t ≡ None
  extent-WaitsFor t d w = found-none t d w (length s.rows)

  -- the name is not defined
  pub undefined-WaitsFor : (t d : ℕ) → WaitsFor s t d → definition_of s d ≡ None
  undefined-WaitsFor t d (undefined t' d' e g) = g
  undefined-WaitsFor t d (holding t' i d' h w) = undefined-WaitsFor i d w

-- ---- later stores

held_by-more : (was is : ℕ → Option ℕ) → ((d t : ℕ) → was d ≡ Some t → is d ≡ Some t) → (r : Row) (i : ℕ) → Contains (held_by was r) i →
    Contains (held_by is r) i
held_by-more was is more (row.Scalar k) i c = c
held_by-more was is more (row.Pointer j) i c = c
held_by-more was is more (row.Nullable j) i c = c
held_by-more was is more (row.Slice j) i c = c
held_by-more was is more (row.Array n j) i c = c
held_by-more was is more (row.Struct fs) i c = c
held_by-more was is more (row.Tuple js) i c = c
held_by-more was is more (row.Union js) i c = c
held_by-more was is more (row.Error j) i c = c
held_by-more was is more (row.Named d) i c =
    subst (λ o. Contains (option_to_list o) i) (sym (more d i (in_option (was d) i c))) (Contains-head i [])

module _ (s f : Store) (l : IsLater s f) where
  Holds-later : (t i : ℕ) → Holds s t i → Holds f t i
  Holds-later t i h = record {
    row = h.row;
    stands = row_stays s f l t h.row h.stands;
    held = held_by-more (definition_of s)
        (definition_of f) l.grows.defined h.row i h.held;
  }

  -- it waits as long as the name is not defined
  pub WaitsFor-later : (t d : ℕ) → definition_of f d ≡ None → WaitsFor s t d → WaitsFor f t d
  WaitsFor-later t d none (undefined t' d' e g) = undefined t d (row_stays s f l t (row.Named d) e) none
  WaitsFor-later t d none (holding t' i d' h w) = holding t i d (Holds-later t i h) (WaitsFor-later i d none w)
