-- A type of which the extent is known has a size, and holds no name by value that is not defined.
use Rattle.std.proofs.Common.{◌≡◌, ◌≢◌, ℕ, zero, suc, ◌*◌, true, false, List, [], ◌∷◌, Option, Some, None, refl, ap, sym, ◌∙◌, subst, arith, ◌⊎◌, inl, inr}
use Rattle.std.specs.Prelude.{Contains, option_map, option_and_then, is_some, IfSome}
use Rattle.std.proofs.lemmas.List.Elements.{Contains-append_cases}
use Rattle.hare_types.specs.declared.extent.Extent.{Extent}
use Rattle.hare_types.specs.declared.row.Scalar.{Scalar as Keyword}
use Rattle.hare_types.specs.declared.row.Scalar.TheVariants as keyword
use Rattle.hare_types.specs.Trees.{Tree, Trees, Scalar, Pointer, Nullable, Slice, Array, Struct, Tuple, Union, Error, Named, none, more}
use Rattle.hare_types.specs.ByValue.{scalar_size, held, held_in, Leads, has_size, HoldsByValue}
use Rattle.hare_types.specs.Store.{Store, tree_at, sized_of, definition_of, meaning_of}
use Rattle.hare_types.specs.Sound.{IsStore}
use Rattle.hare_types.specs.Kept.{LiesIn, told}
use Rattle.hare_types.specs.Layout.{following, scalar_extent, fields_extent, union_extent, extent_with, extents_with, HasExtent}
use Rattle.hare_layout.specs.Ids.{never}

pub mapped : {A B : Type 0} (f : A → B) (o : Option A) (b : B) → option_map f o ≡ Some b → (a : A) × (o ≡ Some a)
mapped f None b e = absurd cc
mapped f (Some a) b e = (a, refl)

pub chained : {A B : Type 0} (f : A → Option B) (o : Option A) (b : B) → option_and_then f o ≡ Some b → (a : A) × (o ≡ Some a) ×
    (f a ≡ Some b)
chained f None b e = absurd cc
chained f (Some a) b e = (a, refl, e)

-- ---- names that are held by value

one_held : (o d : ℕ) → Contains (o ∷ []) d → o ≡ d
one_held o d (zero, l, e) = e
one_held o d (suc k, l, e) = absurd (omega (arith, l))

none_held : (d : ℕ) → Contains [] d → ⊥
none_held d (k, l, e) = omega (arith, l)

mutual
  -- of each name that such a type holds the extent is known
  held_known : (named : ℕ → Option Extent) (t : Tree) (x : Extent) → extent_with named t ≡ Some x → (d : ℕ) → Contains (held t) d →
      (y : Extent) × (named d ≡ Some y)
  held_known named (Scalar k) x e d h = absurd (none_held d h)
  held_known named (Pointer t) x e d h = absurd (none_held d h)
  held_known named (Nullable t) x e d h = absurd (none_held d h)
  held_known named (Slice t) x e d h = absurd (none_held d h)
  held_known named (Array n t) x e d h =
      let k = mapped (λ y. record { size = n * y.size; align = y.align }) (extent_with named t) x e in
      held_known named t k.0 k.1 d h
  held_known named (Struct ns ts) x e d h = let k = mapped fields_extent (extents_with named ts) x e in helds_known named ts k.0 k.1 d h
  held_known named (Tuple ts) x e d h = let k = mapped fields_extent (extents_with named ts) x e in helds_known named ts k.0 k.1 d h
  held_known named (Union ts) x e d h = let k = mapped union_extent (extents_with named ts) x e in helds_known named ts k.0 k.1 d h
  held_known named (Error t) x e d h = held_known named t x e d h
  held_known named (Named q) x e d h = (x, subst (λ n. named n ≡ Some x) (one_held q d h) e)

  helds_known : (named : ℕ → Option Extent) (ts : Trees) (xs : List Extent) → extents_with named ts ≡ Some xs → (d : ℕ) →
      Contains (held_in ts) d → (y : Extent) × (named d ≡ Some y)
  helds_known named none xs e d h = absurd (none_held d h)
  helds_known named (more t ts) xs e d h =
      let k = chained (λ x. option_map (λ xs. x ∷ xs) (extents_with named ts)) (extent_with named t) xs e in
      let l = mapped (λ xs. k.0 ∷ xs) (extents_with named ts) xs k.2 in
      both (held_known named t k.0 k.1 d) (helds_known named ts l.0 l.1 d) (Contains-append_cases (held t) (held_in ts) d h)
    where
      both : {A B C : Type 0} → (A → C) → (B → C) → A ⊎ B → C
      both f g (inl a) = f a
      both f g (inr b) = g b

-- no way leads to a name that is not defined
no_way : (m : ℕ → Option Tree) (d : ℕ) → m d ≡ None → (way : List ℕ) (n : ℕ) (u : Tree) (x : Extent) →
    following extent_with m n u ≡ Some x → Leads m u way d → ⊥
no_way m d unknown [] zero u x e h = let k = held_known (λ d. None) u x e d h in absurd cc
no_way m d unknown [] (suc n) u x e h =
    let k = held_known (λ d. option_and_then (following extent_with m n) (m d)) u x e d h in
    let l = chained (following extent_with m n) (m d) k.0 k.1 in
    let both = sym unknown ∙ l.1 in
    absurd cc
no_way m d unknown (q ∷ way) zero u x e h = let k = held_known (λ d. None) u x e q h.0 in absurd cc
no_way m d unknown (q ∷ way) (suc n) u x e h =
    let k = held_known (λ d. option_and_then (following extent_with m n) (m d)) u x e q h.0 in
    let l = chained (following extent_with m n) (m q) k.0 k.1 in
    let both = sym l.1 ∙ h.1.1 in
    let same : l.0 ≡ h.1.0 = cc in
    no_way m d unknown way n h.1.0 k.0 (subst (λ v. following extent_with m n v ≡ Some k.0) same l.2) h.1.2

pub extent-finite : (s : Store) (u : Tree) (x : Extent) → HasExtent s u x → (d : ℕ) → definition_of s d ≡ None → ¬ HoldsByValue s u d
extent-finite s u x e d unknown h = no_way (meaning_of s) d (ap (option_and_then (tree_at s)) unknown) h.0 e.0 u x e.1 h.1

-- ---- sizes

word_sized : (k : Keyword) (x : Extent) → scalar_extent k ≡ Some x → (n : ℕ) × (scalar_size k ≡ Some n)
word_sized keyword.Void x e = (0, refl)
word_sized keyword.Never x e = absurd cc
word_sized keyword.Opaque x e = absurd cc
word_sized keyword.Bool x e = (1, refl)
word_sized keyword.Rune x e = (4, refl)
word_sized keyword.Str x e = (24, refl)
word_sized keyword.I8 x e = (1, refl)
word_sized keyword.I16 x e = (2, refl)
word_sized keyword.I32 x e = (4, refl)
word_sized keyword.I64 x e = (8, refl)
word_sized keyword.U8 x e = (1, refl)
word_sized keyword.U16 x e = (2, refl)
word_sized keyword.U32 x e = (4, refl)
word_sized keyword.U64 x e = (8, refl)
word_sized keyword.Int x e = (4, refl)
word_sized keyword.Uint x e = (4, refl)
word_sized keyword.Size x e = (8, refl)

tree_sized : (s : Store) (named : ℕ → Option Extent) → ((d : ℕ) (y : Extent) → named d ≡ Some y → sized_of s d ≡ Some true) →
    (t : Tree) (x : Extent) → extent_with named t ≡ Some x → has_size s t ≡ Some true
tree_sized s named known (Scalar k) x e = ap (λ o. Some (is_some o)) (word_sized k x e).1
tree_sized s named known (Pointer t) x e = refl
tree_sized s named known (Nullable t) x e = refl
tree_sized s named known (Slice t) x e = refl
tree_sized s named known (Array n t) x e = refl
tree_sized s named known (Struct ns ts) x e = refl
tree_sized s named known (Tuple ts) x e = refl
tree_sized s named known (Union ts) x e = refl
tree_sized s named known (Error t) x e = tree_sized s named known t x e
tree_sized s named known (Named d) x e = known d x e

names_sized : (s : Store) → IsStore s → (n : ℕ) (u : Tree) (x : Extent) → following extent_with (meaning_of s) n u ≡ Some x →
    has_size s u ≡ Some true
names_sized s v zero u x e = tree_sized s (λ d. None) (λ d y g. absurd cc) u x e
names_sized s v (suc n) u x e = tree_sized s (λ d. option_and_then (following extent_with (meaning_of s) n) (meaning_of s d))
    (λ d y g. name d y g (names_sized s v n)) u x e
  where
    name : (d : ℕ) (y : Extent) → option_and_then (following extent_with (meaning_of s) n) (meaning_of s d) ≡ Some y
        → ((u : Tree) (x : Extent) → following extent_with (meaning_of s) n u ≡ Some x → has_size s u ≡ Some true) →
        sized_of s d ≡ Some true
    name d y g ih =
        let k = chained (following extent_with (meaning_of s) n) (meaning_of s d) y g in
        let size = v.defined_sized d k.0 k.1 in
        size.1 ∙ sym size.2 ∙ ih k.0 y k.2

pub extent-sized : (s : Store) → IsStore s → (u : Tree) (x : Extent) → HasExtent s u x → has_size s u ≡ Some true
extent-sized s v u x h = names_sized s v h.0 u x h.1

-- ---- what a name may be defined to be

here : (s : Store) (t : ℕ) (u : Tree) (P : Tree → Type 0) → tree_at s t ≡ Some u → P u → IfSome (tree_at s t) P
here s t u P e p = subst (λ o. IfSome o P) (sym e) p

-- a type of which the extent is known
pub known-sized : (s : Store) → IsStore s → (t d : ℕ) (o : Option Extent) → IfSome o (λ x. (y : Extent) × LiesIn s t y × (x ≡ told y)) →
    is_some o ≡ true → sized_of s d ≡ Some true
    → IfSome (tree_at s t) (λ u. has_size s u ≡ sized_of s d)
known-sized s v t d None h some e = absurd cc
known-sized s v t d (Some x) h some e = here s t h.1.0 (λ u. has_size s u ≡ sized_of s d) h.1.1 (extent-sized s v h.1.0 h.0 h.1.2 ∙ sym e)

pub known-finite : (s : Store) (t d : ℕ) (o : Option Extent) → IfSome o (λ x. (y : Extent) × LiesIn s t y × (x ≡ told y)) →
    is_some o ≡ true → definition_of s d ≡ None
    → IfSome (tree_at s t) (λ u. ¬ HoldsByValue s u d)
known-finite s t d None h some e = absurd cc
known-finite s t d (Some x) h some e = here s t h.1.0 (λ u. ¬ HoldsByValue s u d) h.1.1 (extent-finite s h.1.0 h.0 h.1.2 d e)

-- never
pub never-sized : (s : Store) (t d : ℕ) → tree_at s t ≡ Some never → sized_of s d ≡ Some false →
    IfSome (tree_at s t) (λ u. has_size s u ≡ sized_of s d)
never-sized s t d g e = here s t never (λ u. has_size s u ≡ sized_of s d) g (sym e)

word_finite : (s : Store) (k : Keyword) (d : ℕ) → ¬ HoldsByValue s (Scalar k) d
word_finite s k d ([], h) = absurd (none_held d h)
word_finite s k d (q ∷ way, h) = absurd (none_held q h.0)

pub never-finite : (s : Store) (t d : ℕ) → tree_at s t ≡ Some never → IfSome (tree_at s t) (λ u. ¬ HoldsByValue s u d)
never-finite s t d g = here s t never (λ u. ¬ HoldsByValue s u d) g (word_finite s keyword.Never d)

-- an array of another name that is not defined
pub array-sized : (s : Store) (t d n o : ℕ) → tree_at s t ≡ Some (Array n (Named o)) → sized_of s d ≡ Some true →
    IfSome (tree_at s t) (λ u. has_size s u ≡ sized_of s d)
array-sized s t d n o g e = here s t (Array n (Named o)) (λ u. has_size s u ≡ sized_of s d) g (sym e)

array_finite : (s : Store) (n o d : ℕ) → definition_of s o ≡ None → d ≢ o → ¬ HoldsByValue s (Array n (Named o)) d
array_finite s n o d unknown apart ([], h) = apart (sym (one_held o d h))
array_finite s n o d unknown apart (q ∷ way, h) =
    let gone : meaning_of s q ≡ None = ap (option_and_then (tree_at s))
    (subst (λ x. definition_of s x ≡ None) (one_held o q h.0) unknown) in
    let some : meaning_of s q ≡ Some h.1.0 = h.1.1 in
    absurd cc

pub array-finite : (s : Store) (t d n o : ℕ) → tree_at s t ≡ Some (Array n (Named o)) → definition_of s o ≡ None → d ≢ o →
    IfSome (tree_at s t) (λ u. ¬ HoldsByValue s u d)
array-finite s t d n o g unknown apart = here s t (Array n (Named o)) (λ u. ¬ HoldsByValue s u d) g (array_finite s n o d unknown apart)
