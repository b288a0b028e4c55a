-- A type that comes to `never` or `opaque`, once names and error marks are followed, has no size, and holds by value no name that is not
-- defined.
use Rattle.std.proofs.Common.{◌≡◌, ℕ, ◌<◌, Bool, true, false, length, Option, Some, None, refl, ap, sym, ◌∙◌, subst, arith}
use Rattle.std.specs.Prelude.{Contains, not, slice_get, option_and_then, is_some, IfSome}
use Rattle.std.proofs.lemmas.Option.{slice_get_within}
use Rattle.hare_types.specs.declared.row.Row.TheVariants as row
use Rattle.hare_types.specs.declared.row.Scalar.{Scalar as Keyword}
use Rattle.hare_types.specs.Trees.{Tree, Scalar, Pointer, Nullable, Slice, Array, Struct, Tuple, Union, Error, Named}
use Rattle.hare_types.specs.ByValue.{scalar_size, held, has_size, HoldsByValue}
use Rattle.hare_types.specs.Store.{Store, tree_at, definition_of, meaning_of}
use Rattle.hare_types.specs.Sound.{IsStore}
use Rattle.hare_types.specs.Rows.{trees}
use Rattle.hare_types.specs.Bases.{IsBaseOf}
use Rattle.hare_types.specs.Layout.{base_with, IsBase}
use Rattle.hare_types.proofs.TreeLemmas.{length-trees}
use Rattle.hare_types.proofs.CallerLemmas.{tree_at_row}
use Rattle.hare_known.proofs.FollowedNames.Follow.{one_held, none_held, Sizes, no_way, sized_names, here}

abbrev IsUnsized : Tree → Type 0
IsUnsized u = (k : Keyword) × (u ≡ Scalar k) × (is_some (scalar_size k) ≡ false)

abbrev Comes : (ℕ → Option Tree) → ℕ → Type 0
Comes named d = (y : Tree) × (named d ≡ Some y) × IsUnsized y

-- no other form of a type is a word
base_spread : (named : ℕ → Option Tree) (t x : Tree) → base_with named t ≡ Some x → IsUnsized x → (d : ℕ) → Contains (held t) d →
    Comes named d
base_spread named (Scalar k) x e p d h = absurd (none_held d h)
base_spread named (Pointer t) x e p d h = absurd (none_held d h)
base_spread named (Nullable t) x e p d h = absurd (none_held d h)
base_spread named (Slice t) x e p d h = absurd (none_held d h)
base_spread named (Array n t) x e p d h = let k = e ∙ ap Some p.1 in absurd cc
base_spread named (Struct ns ts) x e p d h = let k = e ∙ ap Some p.1 in absurd cc
base_spread named (Tuple ts) x e p d h = let k = e ∙ ap Some p.1 in absurd cc
base_spread named (Union ts) x e p d h = let k = e ∙ ap Some p.1 in absurd cc
base_spread named (Error t) x e p d h = base_spread named t x e p d h
base_spread named (Named q) x e p d h = (x, subst (λ n. named n ≡ Some x) (one_held q d h) e, p)

base_size : (s : Store) → Sizes base_with IsUnsized s false
base_size s named known (Scalar k) x e p =
    let f = e ∙ ap Some p.1 in
    let same : k ≡ p.0 = cc in
    ap (λ w. Some (is_some (scalar_size w))) same ∙ ap Some p.2
base_size s named known (Pointer t) x e p = let f = e ∙ ap Some p.1 in absurd cc
base_size s named known (Nullable t) x e p = let f = e ∙ ap Some p.1 in absurd cc
base_size s named known (Slice t) x e p = let f = e ∙ ap Some p.1 in absurd cc
base_size s named known (Array n t) x e p = let f = e ∙ ap Some p.1 in absurd cc
base_size s named known (Struct ns ts) x e p = let f = e ∙ ap Some p.1 in absurd cc
base_size s named known (Tuple ts) x e p = let f = e ∙ ap Some p.1 in absurd cc
base_size s named known (Union ts) x e p = let f = e ∙ ap Some p.1 in absurd cc
base_size s named known (Error t) x e p = base_size s named known t x e p
base_size s named known (Named d) x e p = known d x e p

base-finite : (s : Store) (u w : Tree) → IsBase s u w → IsUnsized w → (d : ℕ) → definition_of s d ≡ None → ¬ HoldsByValue s u d
base-finite s u w e p d unknown h =
    let none = ap (option_and_then (tree_at s)) unknown in
    no_way base_with IsUnsized base_spread (meaning_of s) d none h.0 e.0 u w e.1 p h.1

base-unsized : (s : Store) → IsStore s → (u w : Tree) → IsBase s u w → IsUnsized w → has_size s u ≡ Some false
base-unsized s v u w h p = sized_names base_with IsUnsized s false (base_size s) v h.0 u w h.1 p

-- ---- by ids

not-true : (b : Bool) → not b ≡ true → b ≡ false
not-true true e = cc
not-true false e = refl

module _ (s : Store) (v : IsStore s) (t : ℕ) where
  pub base-at-within : (b : ℕ) → IsBaseOf s t b → b < length s.rows
  base-at-within b h = omega (arith, slice_get_within (trees s.rows) b h.1 h.3, length-trees s.rows)

  -- its base is a word without a size
  module _ (b : ℕ) (h : IsBaseOf s t b) (k : Keyword) (e : slice_get s.rows b ≡ Some (row.Scalar k))
      (lacking : true ≡ not (is_some (scalar_size k))) where
    unsized : IsUnsized h.1
    unsized =
        let trees_agree = sym h.3 ∙ tree_at_row s v b (row.Scalar k) e in
        let same : h.1 ≡ Scalar k = cc in
        (k, same, not-true (is_some (scalar_size k)) (sym lacking))

    pub base-at-unsized : IfSome (tree_at s t) (λ u. has_size s u ≡ Some false)
    base-at-unsized = here s t h.0 (λ u. has_size s u ≡ Some false) h.2 (base-unsized s v h.0 h.1 h.4 unsized)

    pub base-at-finite : (d : ℕ) → definition_of s d ≡ None → IfSome (tree_at s t) (λ u. ¬ HoldsByValue s u d)
    base-at-finite d f = here s t h.0 (λ u. ¬ HoldsByValue s u d) h.2 (base-finite s h.0 h.1 h.4 unsized d f)
