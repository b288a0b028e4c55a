-- A type of which the bytes are known has a size, and holds by value no name that is not defined.
use Rattle.std.proofs.Common.{◌≡◌, ℕ, ◌*◌, true, List, ◌∷◌, Option, Some, None, refl, ap, subst, ◌⊎◌, inl, inr}
use Rattle.std.specs.Prelude.{Contains, option_map, option_and_then, is_some, IfSome}
use Rattle.std.proofs.lemmas.List.Elements.{Contains-append_cases}
use Rattle.hare_types.specs.declared.extent.Extent.{Extent}
use Rattle.hare_types.specs.declared.row.Scalar.{Scalar as Keyword}
use Rattle.hare_types.specs.declared.row.Scalar.TheVariants as keyword
use Rattle.hare_types.specs.Trees.{Tree, Trees, Scalar, Pointer, Nullable, Slice, Array, Struct, Tuple, Union, Error, Named, none, more}
use Rattle.hare_types.specs.ByValue.{scalar_size, held, held_in, has_size, HoldsByValue}
use Rattle.hare_types.specs.Store.{Store, tree_at, definition_of, meaning_of}
use Rattle.hare_types.specs.Sound.{IsStore}
use Rattle.hare_types.specs.Kept.{LiesIn, told}
use Rattle.hare_types.specs.Layout.{scalar_extent, fields_extent, union_extent, extent_with, extents_with, HasExtent}
use Rattle.hare_known.proofs.FollowedNames.Follow.{mapped, chained, one_held, none_held, Sizes, no_way, sized_names, here}

abbrev IsAny : Extent → Type 0
IsAny x = Unit {0}

abbrev IsKnown : (ℕ → Option Extent) → ℕ → Type 0
IsKnown named d = (y : Extent) × (named d ≡ Some y) × IsAny y

mutual
  -- of each name that such a type holds the bytes are known
  bytes_spread : (named : ℕ → Option Extent) (t : Tree) (x : Extent) → extent_with named t ≡ Some x → (d : ℕ) → Contains (held t) d →
      IsKnown named d
  bytes_spread named (Scalar k) x e d h = absurd (none_held d h)
  bytes_spread named (Pointer t) x e d h = absurd (none_held d h)
  bytes_spread named (Nullable t) x e d h = absurd (none_held d h)
  bytes_spread named (Slice t) x e d h = absurd (none_held d h)
  bytes_spread named (Array n t) x e d h =
      let k = mapped (λ y. record { size = n * y.size; align = y.align }) (extent_with named t) x e in
      bytes_spread named t k.0 k.1 d h
  bytes_spread named (Struct ns ts) x e d h = let k = mapped fields_extent (extents_with named ts) x e in all_spread named ts k.0 k.1 d h
  bytes_spread named (Tuple ts) x e d h = let k = mapped fields_extent (extents_with named ts) x e in all_spread named ts k.0 k.1 d h
  bytes_spread named (Union ts) x e d h = let k = mapped union_extent (extents_with named ts) x e in all_spread named ts k.0 k.1 d h
  bytes_spread named (Error t) x e d h = bytes_spread named t x e d h
  bytes_spread named (Named q) x e d h = (x, subst (λ n. named n ≡ Some x) (one_held q d h) e, tt)

  all_spread : (named : ℕ → Option Extent) (ts : Trees) (xs : List Extent) → extents_with named ts ≡ Some xs → (d : ℕ) →
      Contains (held_in ts) d → IsKnown named d
  all_spread named none xs e d h = absurd (none_held d h)
  all_spread named (more t ts) xs e d h =
      let k = chained (λ x. option_map (λ xs. x ∷ xs) (extents_with named ts)) (extent_with named t) xs e in
      let l = mapped (λ xs. k.0 ∷ xs) (extents_with named ts) xs k.2 in
      both (bytes_spread named t k.0 k.1 d) (all_spread named ts l.0 l.1 d) (Contains-append_cases (held t) (held_in ts) d h)
    where
      both : {A B C : Type 0} → (A → C) → (B → C) → A ⊎ B → C
      both f g (inl a) = f a
      both f g (inr b) = g b

word_sized : (k : Keyword) (x : Extent) → scalar_extent k ≡ Some x → is_some (scalar_size k) ≡ true
word_sized keyword.Never x e = absurd cc
word_sized keyword.Opaque x e = absurd cc
word_sized keyword.Void x e = refl
word_sized keyword.Bool x e = refl
word_sized keyword.Rune x e = refl
word_sized keyword.Str x e = refl
word_sized keyword.I8 x e = refl
word_sized keyword.I16 x e = refl
word_sized keyword.I32 x e = refl
word_sized keyword.I64 x e = refl
word_sized keyword.U8 x e = refl
word_sized keyword.U16 x e = refl
word_sized keyword.U32 x e = refl
word_sized keyword.U64 x e = refl
word_sized keyword.Int x e = refl
word_sized keyword.Uint x e = refl
word_sized keyword.Size x e = refl

bytes_size : (s : Store) → Sizes extent_with IsAny s true
bytes_size s named known (Scalar k) x e p = ap Some (word_sized k x e)
bytes_size s named known (Pointer t) x e p = refl
bytes_size s named known (Nullable t) x e p = refl
bytes_size s named known (Slice t) x e p = refl
bytes_size s named known (Array n t) x e p = refl
bytes_size s named known (Struct ns ts) x e p = refl
bytes_size s named known (Tuple ts) x e p = refl
bytes_size s named known (Union ts) x e p = refl
bytes_size s named known (Error t) x e p = bytes_size s named known t x e p
bytes_size s named known (Named d) x e p = known d x e p

extent-finite : (s : Store) (u : Tree) (x : Extent) → HasExtent s u x → (d : ℕ) → definition_of s d ≡ None → ¬ HoldsByValue s u d
extent-finite s u x e d unknown h =
    let none = ap (option_and_then (tree_at s)) unknown in
    no_way extent_with IsAny (λ named t y f p. bytes_spread named t y f) (meaning_of s) d none h.0 e.0 u x e.1 tt h.1

extent-sized : (s : Store) → IsStore s → (u : Tree) (x : Extent) → HasExtent s u x → has_size s u ≡ Some true
extent-sized s v u x h = sized_names extent_with IsAny s true (bytes_size s) v h.0 u x h.1 tt

-- ---- by ids

module _ (s : Store) (v : IsStore s) (t : ℕ) where
  pub extent-at-sized : (o : Option Extent) → IfSome o (λ x. (y : Extent) × LiesIn s t y × (x ≡ told y)) → is_some o ≡ true
      → IfSome (tree_at s t) (λ u. has_size s u ≡ Some true)
  extent-at-sized None h some = absurd cc
  extent-at-sized (Some x) h some = here s t h.1.0 (λ u. has_size s u ≡ Some true) h.1.1 (extent-sized s v h.1.0 h.0 h.1.2)

  pub extent-at-finite : (o : Option Extent) → IfSome o (λ x. (y : Extent) × LiesIn s t y × (x ≡ told y)) → is_some o ≡ true → (d : ℕ)
      → definition_of s d ≡ None → IfSome (tree_at s t) (λ u. ¬ HoldsByValue s u d)
  extent-at-finite None h some d e = absurd cc
  extent-at-finite (Some x) h some d e = here s t h.1.0 (λ u. ¬ HoldsByValue s u d) h.1.1 (extent-finite s h.1.0 h.0 h.1.2 d e)
