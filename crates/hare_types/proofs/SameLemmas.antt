-- One type has one id.
use Rattle.std.proofs.Common.{◌≡◌, ℕ, zero, suc, ◌<◌, List, [], ◌∷◌, length, map, Some, refl, ap, sym, ◌∙◌, subst, arith, ◌⊎◌, inl, inr}
use Rattle.std.specs.Prelude.{slice_get, slice_index_or}
use Rattle.std.proofs.lemmas.Option.{slice_get_within, slice_get-get_or, get_or_from_slice_get}
use Rattle.hare_types.specs.declared.lists.Field.{Field}
use Rattle.hare_types.specs.declared.row.Row.{Row}
use Rattle.hare_types.specs.declared.row.Row.TheVariants as row
use Rattle.hare_types.specs.declared.row.Scalar.TheVariants as keyword
use Rattle.hare_types.specs.Trees.{Tree, Trees, Scalar, Pointer, Nullable, Slice, Array, Struct, Tuple, Union, Error, Named, none, more, trees_of, Same, SameEach, AllAmong, IsAmong, SomeTree, EachTree}
use Rattle.hare_types.specs.Rows.{tree_in, tree_of, trees, AllBelow, FieldsBelow, IsWithin, AllAbove, Ascends, IsReduced, AreRows}
use Rattle.hare_types.proofs.TreeLemmas.{length-trees, tree_of_row}

-- ---- a tree is the same type as itself

mutual
  pub Same-refl : (t : Tree) → Same t t
  Same-refl (Scalar k) = refl
  Same-refl (Pointer t) = Same-refl t
  Same-refl (Nullable t) = Same-refl t
  Same-refl (Slice t) = Same-refl t
  Same-refl (Array n t) = (refl, Same-refl t)
  Same-refl (Struct ns ts) = (refl, SameEach-refl ts)
  Same-refl (Tuple ts) = SameEach-refl ts
  Same-refl (Union ts) = (AllAmong-of ts ts (λ t h. h), EachTree-of ts ts (λ u h. h))
  Same-refl (Error t) = Same-refl t
  Same-refl (Named d) = refl

  SameEach-refl : (ts : Trees) → SameEach ts ts
  SameEach-refl none = tt
  SameEach-refl (more t ts) = (Same-refl t, SameEach-refl ts)

  AllAmong-of : (ts us : Trees) → ((t : Tree) → SomeTree (λ u. Same t u) ts → SomeTree (λ u. Same t u) us) → AllAmong ts us
  AllAmong-of none us f = tt
  AllAmong-of (more t ts) us f = (f t (inl (Same-refl t)), AllAmong-of ts us (λ x h. f x (inr h)))

  EachTree-of : (ts us : Trees) → ((u : Tree) → IsAmong ts u → IsAmong us u) → EachTree (IsAmong us) ts
  EachTree-of none us f = tt
  EachTree-of (more t ts) us f = (f t (inl (Same-refl t)), EachTree-of ts us (λ u h. f u (inr h)))

-- ---- ascending lists of the same numbers are one list

In : ℕ → List ℕ → Type 0
In a [] = ⊥
In a (i ∷ is) = (a ≡ i) ⊎ In a is

EachIn : List ℕ → List ℕ → Type 0
EachIn [] js = Unit {0}
EachIn (i ∷ is) js = In i js × EachIn is js

above : (n a : ℕ) (is : List ℕ) → AllAbove n is → In a is → n < a
unfolding In
above n a [] h m = absurd m
above n a (i ∷ is) h (inl e) = omega (arith, h.0)
above n a (i ∷ is) h (inr m) = above n a is h.1 m

-- the heads are equal
heads : (i j : ℕ) (is js : List ℕ) → AllAbove i is → AllAbove j js → In i (j ∷ js) → In j (i ∷ is) → i ≡ j
unfolding In
heads i j is js a b (inl e) n = e
heads i j is js a b (inr m) (inl e) = sym e
heads i j is js a b (inr m) (inr n) = omega (arith, above j i js b m, above i j is a n)

-- what is above the head is in the rest
rest : (j : ℕ) (is js : List ℕ) → AllAbove j is → EachIn is (j ∷ js) → EachIn is js
unfolding In EachIn
rest j [] js a h = tt
rest j (i ∷ is) js a h = (by h.0, rest j is js a.1 h.1)
  where
    by : In i (j ∷ js) → In i js
    by (inl e) = absurd (omega (arith, a.0))
    by (inr m) = m

ascending_same : (is js : List ℕ) → Ascends is → Ascends js → EachIn is js → EachIn js is → is ≡ js
unfolding In EachIn
ascending_same [] [] a b h k = refl
ascending_same [] (j ∷ js) a b h k = absurd k.0
ascending_same (i ∷ is) [] a b h k = absurd h.0
ascending_same (i ∷ is) (j ∷ js) a b h k =
    let e : i ≡ j = heads i j is js a.0 b.0 h.0 k.0 in
    let l = rest j is js (subst (λ n. AllAbove n is) e a.0) h.1 in
    let m = rest i js is (subst (λ n. AllAbove n js) (sym e) b.0) k.1 in
    let f = ascending_same is js a.1 b.1 l m in
    cc

-- ---- rows of one type are one row, where that is known of the ids in them

module _ (ts : List Tree) (n k : ℕ) (known : (a b : ℕ) → a < n → b < k → Same (tree_in ts a) (tree_in ts b) → a ≡ b) where
  each_same : (is js : List ℕ) → AllBelow n is → AllBelow k js →
      SameEach (trees_of (map (tree_in ts) is)) (trees_of (map (tree_in ts) js)) → is ≡ js
  each_same [] [] a b h = refl
  each_same [] (j ∷ js) a b h = absurd h
  each_same (i ∷ is) [] a b h = absurd h
  each_same (i ∷ is) (j ∷ js) a b h =
      let x = known i j a.0 b.0 h.0 in
      let y = each_same is js a.1 b.1 h.1 in
      λ p. x p ∷ y p

  fields_same : (fs gs : List Field) → FieldsBelow n fs → FieldsBelow k gs → map (λ f. f.name) fs ≡ map (λ f. f.name) gs
      → SameEach (trees_of (map (λ f. tree_in ts f.ty) fs)) (trees_of (map (λ f. tree_in ts f.ty) gs)) → fs ≡ gs
  fields_same [] [] a b e h = refl
  fields_same [] (g ∷ gs) a b e h = absurd h
  fields_same (f ∷ fs) [] a b e h = absurd h
  fields_same (f ∷ fs) (g ∷ gs) a b e h =
      let m : f.name ≡ g.name = cc in
      let ms : map (λ f. f.name) fs ≡ map (λ f. f.name) gs = cc in
      let x = known f.ty g.ty a.0 b.0 h.0 in
      let y = fields_same fs gs a.1 b.1 ms h.1 in
      λ p. record { name = m p; ty = x p } ∷ y p

  some_in : (a : ℕ) (js : List ℕ) → a < n → AllBelow k js → SomeTree (λ u. Same (tree_in ts a) u) (trees_of (map (tree_in ts) js)) → In a js
  unfolding In
  some_in a [] l b h = absurd h
  some_in a (j ∷ js) l b (inl h) = inl (known a j l b.0 h)
  some_in a (j ∷ js) l b (inr h) = inr (some_in a js l b.1 h)

  all_in : (is js : List ℕ) → AllBelow n is → AllBelow k js → AllAmong (trees_of (map (tree_in ts) is)) (trees_of (map (tree_in ts) js)) →
      EachIn is js
  unfolding EachIn
  all_in [] js a b h = tt
  all_in (i ∷ is) js a b h = (some_in i js a.0 b h.0, all_in is js a.1 b h.1)

  among_in : (is : List ℕ) (b : ℕ) → AllBelow n is → b < k → IsAmong (trees_of (map (tree_in ts) is)) (tree_in ts b) → In b is
  unfolding In
  among_in [] b a l h = absurd h
  among_in (i ∷ is) b a l (inl h) = inl (sym (known i b a.0 l h))
  among_in (i ∷ is) b a l (inr h) = inr (among_in is b a.1 l h)

  each_in : (is js : List ℕ) → AllBelow n is → AllBelow k js → EachTree (IsAmong (trees_of (map (tree_in ts) is)))
      (trees_of (map (tree_in ts) js)) → EachIn js is
  unfolding EachIn
  each_in is [] a b h = tt
  each_in is (j ∷ js) a b h = (among_in is j a b.0 h.0, each_in is js a b.1 h.1)

  row_same : (rows : List Row) (q r : Row) → IsWithin n q → IsWithin k r → IsReduced rows q → IsReduced rows r →
      Same (tree_of ts q) (tree_of ts r) → q ≡ r
  row_same rows (row.Scalar x) (row.Scalar y) a b c d h = ap row.Scalar h
  row_same rows (row.Pointer i) (row.Pointer j) a b c d h = ap row.Pointer (known i j a b h)
  row_same rows (row.Nullable i) (row.Nullable j) a b c d h = ap row.Nullable (known i j a b h)
  row_same rows (row.Slice i) (row.Slice j) a b c d h = ap row.Slice (known i j a b h)
  row_same rows (row.Array x i) (row.Array y j) a b c d h =
      let e = known i j a b h.1 in
      let f = h.0 in
      λ p. row.Array (f p) (e p)
  row_same rows (row.Struct fs) (row.Struct gs) a b c d h = ap row.Struct (fields_same fs gs a b h.0 h.1)
  row_same rows (row.Tuple is) (row.Tuple js) a b c d h = ap row.Tuple (each_same is js a b h)
  row_same rows (row.Union is) (row.Union js) a b c d h =
      ap row.Union (ascending_same is js c.ascend d.ascend (all_in is js a b h.0) (each_in is js a b h.1))
  row_same rows (row.Error i) (row.Error j) a b c d h = ap row.Error (known i j a b h)
  row_same rows (row.Named x) (row.Named y) a b c d h = ap row.Named h
  row_same rows _ _ a b c d h = absurd h

-- ---- ids of one type are one id

module _ (rows : List Row) (sound : AreRows rows) where
  row_at : (i : ℕ) → i < length rows → (r : Row) × (slice_get rows i ≡ Some r) × (tree_in (trees rows) i ≡ tree_of (trees rows) r)
  row_at i h =
      let r = slice_index_or rows i (row.Named 0) in
      let e : slice_get rows i ≡ Some r = slice_get-get_or rows i (row.Named 0) h in
      (r, e, get_or_from_slice_get (trees rows) i (tree_of (trees rows) r) (Scalar keyword.Void) (tree_of_row rows sound.within i r e))

  -- below each bound
  same_below : (n i j : ℕ) → i < n → i < length rows → j < length rows → Same (tree_in (trees rows) i) (tree_in (trees rows) j) → i ≡ j
  same_below zero i j l a b h = absurd (omega arith)
  same_below (suc n) i j l a b h =
      let p = row_at i a in
      let q = row_at j b in
      let e : p.0 ≡ q.0 = row_same (trees rows) i j (λ x y u v g. same_below n x y (omega arith) (omega arith) (omega arith) g) rows p.0 q.0
      (sound.within i p.0 p.1) (sound.within j q.0 q.1) (sound.reduced i p.0 p.1) (sound.reduced j q.0 q.1)
      (subst (λ t. Same t (tree_of (trees rows) q.0)) p.2 (subst (λ t. Same (tree_in (trees rows) i) t) q.2 h)) in
      sound.once.once i j q.0 (p.1 ∙ ap Some e) q.1

  pub same_once : (i j : ℕ) (t u : Tree) → slice_get (trees rows) i ≡ Some t → slice_get (trees rows) j ≡ Some u → Same t u → i ≡ j
  same_once i j t u a b h =
      let n = length-trees rows in
      let v : i < length rows = omega (arith, slice_get_within (trees rows) i t a) in
      let w : j < length rows = omega (arith, slice_get_within (trees rows) j u b) in
      let x : tree_in (trees rows) i ≡ t = get_or_from_slice_get (trees rows) i t (Scalar keyword.Void) a in
      let y : tree_in (trees rows) j ≡ u = get_or_from_slice_get (trees rows) j u (Scalar keyword.Void) b in
      same_below (suc i) i j (omega arith) v w (subst (λ z. Same z (tree_in (trees rows) j)) (sym x) (subst (λ z. Same t z) (sym y) h))
