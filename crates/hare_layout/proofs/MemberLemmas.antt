-- Members of unions as trees, and as ids.
use Rattle.std.proofs.Common.{◌≡◌, ℕ, ◌<◌, Bool, true, false, ◌==◌, ◌||◌, ◌&&◌, nat_eq, List, [], ◌∷◌, length, map, Some, refl, ap, sym, ◌∙◌, subst, arith, ◌⊎◌, inl, inr}
use Rattle.std.specs.Prelude.{slice_get, ◌↔◌}
use Rattle.std.specs.List.{list_any}
use Rattle.std.specs.Cmp.{unsigned_Decides}
use Rattle.std.proofs.lemmas.Option.{slice_get-get_or, slice_get_within}
use Rattle.hare_types.specs.declared.row.Row.{Row}
use Rattle.hare_types.specs.declared.row.Row.TheVariants as row
use Rattle.hare_types.specs.declared.row.Scalar.TheVariants as keyword
use Rattle.hare_types.specs.Trees.{Tree, Trees, Scalar, Pointer, Nullable, Slice, Array, Struct, Tuple, Union, Error, Named, none, more, trees_of, SomeTree, EachTree, Same, SameEach, AllAmong, IsAmong}
use Rattle.hare_types.specs.Rows.{tree_in, tree_of, trees, AllBelow}
use Rattle.hare_types.specs.Store.{Store, tree_at}
use Rattle.hare_types.specs.Sound.{IsStore}
use Rattle.hare_types.proofs.TreeLemmas.{length-trees, AllBelow-le}
use Rattle.hare_types.proofs.CallerLemmas.{tree_at_row, one_id}
use Rattle.hare_layout.specs.Members.{IsUnion, HoldsMembers, all_among}

mutual
  pub Same-refl : (t : Tree) → Same t t
  Same-refl (Scalar k) = refl
  Same-refl (Pointer t) = Same-refl t
  Same-refl (Nullable t) = Same-refl t
  Same-refl (Slice t) = Same-refl t
  Same-refl (Array n t) = (refl, Same-refl t)
  Same-refl (Struct ns ts) = (refl, SameEach-refl ts)
  Same-refl (Tuple ts) = SameEach-refl ts
  Same-refl (Union ts) = (AllAmong-of ts ts (λ t h. h), EachTree-of ts ts (λ u h. h))
  Same-refl (Error t) = Same-refl t
  Same-refl (Named d) = refl

  SameEach-refl : (ts : Trees) → SameEach ts ts
  SameEach-refl none = tt
  SameEach-refl (more t ts) = (Same-refl t, SameEach-refl ts)

  AllAmong-of : (ts us : Trees) → ((t : Tree) → SomeTree (λ u. Same t u) ts → SomeTree (λ u. Same t u) us) → AllAmong ts us
  AllAmong-of none us f = tt
  AllAmong-of (more t ts) us f = (f t (inl (Same-refl t)), AllAmong-of ts us (λ x h. f x (inr h)))

  EachTree-of : (ts us : Trees) → ((u : Tree) → IsAmong ts u → IsAmong us u) → EachTree (IsAmong us) ts
  EachTree-of none us f = tt
  EachTree-of (more t ts) us f = (f t (inl (Same-refl t)), EachTree-of ts us (λ u h. f u (inr h)))

-- ---- ids and trees

module _ (s : Store) (v : IsStore s) where
  tree_at-in : (i : ℕ) → i < length s.rows → tree_at s i ≡ Some (tree_in (trees s.rows) i)
  tree_at-in i h =
      let count = length-trees s.rows in
      slice_get-get_or (trees s.rows) i (Scalar keyword.Void) (omega arith)

  one_to_tree : (i : ℕ) (js : List ℕ) → list_any (λ j. j == i) js ≡ true →
      SomeTree (λ u. Same (tree_in (trees s.rows) i) u) (trees_of (map (tree_in (trees s.rows)) js))
  one_to_tree i [] e = absurd cc
  one_to_tree i (j ∷ js) e = by (one_to_tree i js) (nat_eq j i) refl e
    where
      by : (list_any (λ j. j == i) js ≡ true →
          SomeTree (λ u. Same (tree_in (trees s.rows) i) u) (trees_of (map (tree_in (trees s.rows)) js))) → (b : Bool) → nat_eq j i ≡ b →
          (b || list_any (λ j. j == i) js) ≡ true
          → Same (tree_in (trees s.rows) i) (tree_in (trees s.rows) j) ⊎ SomeTree (λ u. Same (tree_in (trees s.rows) i) u)
          (trees_of (map (tree_in (trees s.rows)) js))
      by ih true g h = inl (subst (λ n. Same (tree_in (trees s.rows) i) (tree_in (trees s.rows) n)) (sym ((unsigned_Decides j i).0 g))
          (Same-refl (tree_in (trees s.rows) i)))
      by ih false g h = inr (ih h)

  one_to_id : (i : ℕ) → i < length s.rows → (js : List ℕ) → AllBelow (length s.rows) js →
      SomeTree (λ u. Same (tree_in (trees s.rows) i) u) (trees_of (map (tree_in (trees s.rows)) js)) → list_any (λ j. j == i) js ≡ true
  one_to_id i l [] below h = absurd h
  one_to_id i l (j ∷ js) below (inl h) =
      let same : i ≡ j = one_id s v i j (tree_in (trees s.rows) i) (tree_in (trees s.rows) j) (tree_at-in i l) (tree_at-in j below.0) h in
      ap (λ b. b || list_any (λ j. j == i) js) ((unsigned_Decides j i).1 (sym same))
  one_to_id i l (j ∷ js) below (inr h) = later (nat_eq j i) (one_to_id i l js below.1 h)
    where
      later : (b : Bool) → list_any (λ j. j == i) js ≡ true → (b || list_any (λ j. j == i) js) ≡ true
      later true e = refl
      later false e = e

  all_to_trees : (is js : List ℕ) → all_among is js ≡ true →
      AllAmong (trees_of (map (tree_in (trees s.rows)) is)) (trees_of (map (tree_in (trees s.rows)) js))
  all_to_trees [] js e = tt
  all_to_trees (i ∷ is) js e = by (all_to_trees is js) (list_any (λ j. j == i) js) refl e
    where
      by : (all_among is js ≡ true → AllAmong (trees_of (map (tree_in (trees s.rows)) is)) (trees_of (map (tree_in (trees s.rows)) js))) →
          (b : Bool) → list_any (λ j. j == i) js ≡ b → (b && all_among is js) ≡ true
          → SomeTree (λ u. Same (tree_in (trees s.rows) i) u) (trees_of (map (tree_in (trees s.rows)) js)) ×
          AllAmong (trees_of (map (tree_in (trees s.rows)) is)) (trees_of (map (tree_in (trees s.rows)) js))
      by ih true g h = (one_to_tree i js g, ih h)
      by ih false g h = absurd cc

  all_to_ids : (is js : List ℕ) → AllBelow (length s.rows) is → AllBelow (length s.rows) js →
      AllAmong (trees_of (map (tree_in (trees s.rows)) is)) (trees_of (map (tree_in (trees s.rows)) js)) → all_among is js ≡ true
  all_to_ids [] js a b h = refl
  all_to_ids (i ∷ is) js a b h =
      let first = one_to_id i a.0 js b h.0 in
      let later = all_to_ids is js a.1 b h.1 in
      ap (λ x. x && all_among is js) first ∙ later

-- ---- rows of unions

pub union_within : (s : Store) (t : ℕ) → IsUnion s t → t < length s.rows
union_within s t h =
    let count = length-trees s.rows in
    let within = slice_get_within (trees s.rows) t (Union h.0) h.1 in
    omega arith

-- the row of a union's tree is a union
union_of : (ts : List Tree) (r : Row) (us : Trees) → tree_of ts r ≡ Union us → (is : List ℕ) × (r ≡ row.Union is)
union_of ts (row.Union is) us e = (is, refl)
union_of ts (row.Scalar k) us e = absurd cc
union_of ts (row.Pointer i) us e = absurd cc
union_of ts (row.Nullable i) us e = absurd cc
union_of ts (row.Slice i) us e = absurd cc
union_of ts (row.Array n i) us e = absurd cc
union_of ts (row.Struct fs) us e = absurd cc
union_of ts (row.Tuple is) us e = absurd cc
union_of ts (row.Error i) us e = absurd cc
union_of ts (row.Named d) us e = absurd cc

pub union_row : (s : Store) → IsStore s → (t : ℕ) (r : Row) → IsUnion s t → slice_get s.rows t ≡ Some r → (is : List ℕ) × (r ≡ row.Union is)
union_row s v t r h e =
    let tree = sym (tree_at_row s v t r e) ∙ h.1 in
    let same : tree_of (trees s.rows) r ≡ Union h.0 = cc in
    union_of (trees s.rows) r h.0 same

union_below : (s : Store) → IsStore s → (t : ℕ) (is : List ℕ) → slice_get s.rows t ≡ Some (row.Union is) → AllBelow (length s.rows) is
union_below s v t is e =
    let far = slice_get_within s.rows t (row.Union is) e in
    AllBelow-le t (length s.rows) (omega arith) is (v.rows_sound.within t (row.Union is) e)

pub members-decide : (s : Store) → IsStore s → (a b : ℕ) (is js : List ℕ) → slice_get s.rows a ≡ Some (row.Union is) →
    slice_get s.rows b ≡ Some (row.Union js) → (all_among is js ≡ true) ↔ HoldsMembers s a b
members-decide s v a b is js e g =
    let first = tree_at_row s v a (row.Union is) e in
    let second = tree_at_row s v b (row.Union js) g in (
      λ h. (
        trees_of (map (tree_in (trees s.rows)) is),
        trees_of (map (tree_in (trees s.rows)) js),
        first,
        second,
        all_to_trees s v is js
            h,
      ),
      λ h. back h first second,
    )
  where
    back : (h : HoldsMembers s a b) → tree_at s a ≡ Some (tree_of (trees s.rows) (row.Union is)) →
        tree_at s b ≡ Some (tree_of (trees s.rows) (row.Union js)) → all_among is js ≡ true
    back h first second =
        let one = sym h.2 ∙ first in
        let two = sym h.3 ∙ second in
        let ts : h.0 ≡ trees_of (map (tree_in (trees s.rows)) is) = cc in
        let us : h.1 ≡ trees_of (map (tree_in (trees s.rows)) js) = cc in
        all_to_ids s v is js (union_below s v a is e) (union_below s v b js g)
        (subst (λ x. AllAmong x (trees_of (map (tree_in (trees s.rows)) js))) ts (subst (λ x. AllAmong h.0 x) us h.4))
