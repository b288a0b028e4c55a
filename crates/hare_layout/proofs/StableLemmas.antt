-- What spelled types are reduced to, and what is wrong with them, stays in later stores.
use Rattle.std.proofs.Common.{◌≡◌, ℕ, zero, suc, ◌<◌, Bool, true, false, List, [], ◌∷◌, length, map, Option, Some, None, IsSome, refl, ap, sym, ◌∙◌, subst, arith, inl, inr}
use Rattle.std.specs.Prelude.{slice_get, Contains, MatchOption, option_map, option_and_then}
use Rattle.std.proofs.lemmas.List.Elements.{Contains-append_left, Contains-append_right}
use Rattle.std.proofs.lemmas.Option.{slice_get_within}
use Rattle.hare_tree.specs.declared.place.Place.{Place}
use Rattle.hare_tree.specs.declared.place.Fault.{Fault}
use Rattle.hare_types.specs.declared.extent.Extent.{Extent}
use Rattle.hare_types.specs.declared.lists.Field.{Field}
use Rattle.hare_types.specs.declared.row.Row.{Row}
use Rattle.hare_types.specs.declared.row.Row.TheVariants as row
use Rattle.hare_types.specs.Trees.{Tree, Trees, Scalar, Pointer, Nullable, Slice, Array, Struct, Tuple, Union, Error, Named, none, more, trees_of, SomeTree}
use Rattle.hare_types.specs.Rows.{tree_in, tree_of, trees, AllBelow, FieldsBelow, IsWithin}
use Rattle.hare_types.specs.Store.{Store, tree_at, meaning_of, Extends}
use Rattle.hare_types.specs.Sound.{IsStore}
use Rattle.hare_types.specs.ByValue.{held, held_in, has_size, Leads}
use Rattle.hare_types.specs.Layout.{following, IsBase, extent_with, extents_with}
use Rattle.hare_types.proofs.CallerLemmas.{one_id, tree_at-Extends, meaning_of-Extends, has_size-Extends}
use Rattle.hare_types.proofs.GrowthLemmas.{option_map-more, option_and_then-more, IsBase-Extends, HasExtent-Extends}
use Rattle.hare_types.proofs.TreeLemmas.{length-trees, trees-append, further, tree_of-append}
use Rattle.hare_layout.specs.declared.spelled.Spelled.{Spelled}
use Rattle.hare_layout.specs.Reduction.{written, IsMember, is_spread, Brings, Adds, IsLeft, AreLeft, type_of, IsReducedTo}
use Rattle.hare_layout.specs.Admission.{IsBadSpread, measured, IsMeasured, LacksSize, IsTooLarge, Check, Spreading, Sized, Inhabited, Narrow, Small, checks, Fails, IsFirstOf, PassesAll}
use Rattle.hare_layout.specs.Growth.{IsDecided, IsOneJudgement, JudgementsStay}
use Rattle.hare_layout.proofs.AscendingLemmas.{In, In-from, In-to}
use Rattle.hare_layout.proofs.GrowthLemmas.{one_base}
use Rattle.hare_layout.proofs.MemberLemmas.{Same-refl}
use Rattle.hare_layout.proofs.SpreadLemmas.{tree_at-id, id-tree_at, row_stands, base_stands, SomeTree-out}

-- ---- ids in rows

all_below : (n : ℕ) (is : List ℕ) → ((i : ℕ) → In i is → i < n) → AllBelow n is
all_below n [] h = tt
all_below n (i ∷ is) h = (h i (inl refl), all_below n is (λ j m. h j (inr m)))

below_in : (n : ℕ) (is : List ℕ) → AllBelow n is → (i : ℕ) → In i is → i < n
below_in n [] h i m = absurd m
below_in n (j ∷ is) h i (inl e) = subst (λ x. x < n) e h.0
below_in n (j ∷ is) h i (inr m) = below_in n is h.1 i m

below_at : (n : ℕ) (is : List ℕ) (k i : ℕ) → AllBelow n is → slice_get is k ≡ Some i → i < n
below_at n [] k i h e = absurd cc
below_at n (j ∷ is) zero i h e =
    let same : j ≡ i = cc in
    subst (λ x. x < n) same h.0
below_at n (j ∷ is) (suc k) i h e = below_at n is k i h.1 e

fields_below : (n : ℕ) (fs : List Field) → FieldsBelow n fs → AllBelow n (map (λ f. f.ty) fs)
fields_below n [] h = tt
fields_below n (f ∷ fs) h = (h.0, fields_below n fs h.1)

-- what is written in a row
written_below : (n : ℕ) (q : Row) (is : List ℕ) → IsWithin n q → written q ≡ Some is → AllBelow n is
written_below n (row.Union js) is h e =
    let same : js ≡ is = cc in
    subst (AllBelow n) same h
written_below n (row.Scalar k) is h e = absurd cc
written_below n (row.Pointer i) is h e = absurd cc
written_below n (row.Nullable i) is h e = absurd cc
written_below n (row.Slice i) is h e = absurd cc
written_below n (row.Array m i) is h e = absurd cc
written_below n (row.Struct fs) is h e = absurd cc
written_below n (row.Tuple js) is h e = absurd cc
written_below n (row.Error i) is h e = absurd cc
written_below n (row.Named d) is h e = absurd cc

-- of what a size is asked
measured_below : (n : ℕ) (q : Row) → IsWithin n q → AllBelow n (measured q)
measured_below n (row.Array m i) h = (h, tt)
measured_below n (row.Struct fs) h = fields_below n fs h
measured_below n (row.Tuple is) h = h
measured_below n (row.Union is) h = tt
measured_below n (row.Scalar k) h = tt
measured_below n (row.Pointer i) h = tt
measured_below n (row.Nullable i) h = tt
measured_below n (row.Slice i) h = (h, tt)
measured_below n (row.Error i) h = tt
measured_below n (row.Named d) h = tt

-- ---- what a type comes to is in the store

module _ (s : Store) (v : IsStore s) where
  -- a member of a union
  member_at : (i : ℕ) (ts : Trees) (u : Tree) → tree_at s i ≡ Some (Union ts) → SomeTree (λ m. m ≡ u) ts → (j : ℕ) × (tree_at s j ≡ Some u)
  member_at i ts u e m = by (row_stands s v i (Union ts) e).0 (row_stands s v i (Union ts) e).1 (row_stands s v i (Union ts) e).2
    where
      by : (q : Row) → slice_get s.rows i ≡ Some q → tree_of (trees s.rows) q ≡ Union ts → (j : ℕ) × (tree_at s j ≡ Some u)
      by (row.Union js) h g =
          let same : trees_of (map (tree_in (trees s.rows)) js) ≡ ts = cc in
          let k = SomeTree-out (tree_in (trees s.rows)) js u (subst (λ x. SomeTree (λ m. m ≡ u) x) (sym same) m) in
          let below = below_in i js (v.rows_sound.within i (row.Union js) h) k.0 k.1 in
          let far = slice_get_within s.rows i (row.Union js) h in
          (k.0, tree_at-id s k.0 (omega arith) ∙ ap Some k.2)
      by (row.Scalar k) h g = absurd cc
      by (row.Pointer j) h g = absurd cc
      by (row.Nullable j) h g = absurd cc
      by (row.Slice j) h g = absurd cc
      by (row.Array n j) h g = absurd cc
      by (row.Struct fs) h g = absurd cc
      by (row.Tuple js) h g = absurd cc
      by (row.Error j) h g = absurd cc
      by (row.Named d) h g = absurd cc

  -- what a member brings is in the store
  alone_at : (t u : Tree) (i : ℕ) → tree_at s i ≡ Some t → Brings t u → (j : ℕ) × (tree_at s j ≡ Some u)
  alone_at (Union ts) u i e h = member_at i ts u e h
  alone_at (Scalar k) u i e h = (i, e ∙ ap Some h)
  alone_at (Pointer t) u i e h = (i, e ∙ ap Some h)
  alone_at (Nullable t) u i e h = (i, e ∙ ap Some h)
  alone_at (Slice t) u i e h = (i, e ∙ ap Some h)
  alone_at (Array n t) u i e h = (i, e ∙ ap Some h)
  alone_at (Struct ns ts) u i e h = (i, e ∙ ap Some h)
  alone_at (Tuple ts) u i e h = (i, e ∙ ap Some h)
  alone_at (Error t) u i e h = (i, e ∙ ap Some h)
  alone_at (Named d) u i e h = (i, e ∙ ap Some h)

  added_at : (b : Bool) (t u : Tree) (i : ℕ) → tree_at s i ≡ Some t → Adds s b t u → (j : ℕ) × (tree_at s j ≡ Some u)
  added_at true t u i e h =
      let base = base_stands s v h.1.0 t (Union h.0) i e h.1.1 in
      member_at base.0 h.0 u base.1 h.2
  added_at false t u i e h = alone_at t u i e h

  left_at : (r : Spelled) (u : Tree) → IsLeft s r u → (j : ℕ) × (tree_at s j ≡ Some u)
  left_at r u h = added_at (is_spread r h.0) h.1 u h.2.1 h.2.4 h.3

-- ---- extents

-- an extent rests on those of the names that the type holds by value
mutual
  extent_near : (old new : ℕ → Option Extent) (t : Tree) → ((q : ℕ) (x : Extent) → Contains (held t) q → old q ≡ Some x → new q ≡ Some x)
      → (x : Extent) → extent_with old t ≡ Some x → extent_with new t ≡ Some x
  extent_near old new (Scalar k) known x e = e
  extent_near old new (Pointer t) known x e = e
  extent_near old new (Nullable t) known x e = e
  extent_near old new (Slice t) known x e = e
  extent_near old new (Array n t) known x e = option_map-more _ (extent_with old t) (extent_with new t) (extent_near old new t known) x e
  extent_near old new (Struct ns ts) known x e =
      option_map-more _ (extents_with old ts) (extents_with new ts) (extents_near old new ts known) x e
  extent_near old new (Tuple ts) known x e =
      option_map-more _ (extents_with old ts) (extents_with new ts) (extents_near old new ts known) x e
  extent_near old new (Union ts) known x e =
      option_map-more _ (extents_with old ts) (extents_with new ts) (extents_near old new ts known) x e
  extent_near old new (Error t) known x e = extent_near old new t known x e
  extent_near old new (Named d) known x e = known d x (0, omega arith, refl) e

  extents_near : (old new : ℕ → Option Extent) (ts : Trees)
      → ((q : ℕ) (x : Extent) → Contains (held_in ts) q → old q ≡ Some x → new q ≡ Some x)
      → (xs : List Extent) → extents_with old ts ≡ Some xs → extents_with new ts ≡ Some xs
  extents_near old new none known xs e = e
  extents_near old new (more t ts) known xs e =
      option_and_then-more (λ x. option_map (λ xs. x ∷ xs) (extents_with old ts)) (λ x. option_map (λ xs. x ∷ xs) (extents_with new ts))
      (λ x. option_map-more (λ xs. x ∷ xs) (extents_with old ts) (extents_with new ts)
      (extents_near old new ts (λ q y h. known q y (Contains-append_right (held t) (held_in ts) q h))))
      (extent_with old t) (extent_with new t)
      (extent_near old new t (λ q y h. known q y (Contains-append_left (held t) (held_in ts) q h))) xs e

-- where each name that is held by value has a meaning, no more is known of an extent over more meanings
extent_back : (old new : ℕ → Option Tree) → ((d : ℕ) (u : Tree) → old d ≡ Some u → new d ≡ Some u) → (n : ℕ) (u : Tree) →
    ((d : ℕ) → (way : List ℕ) × Leads old u way d → IsSome (old d)) → (x : Extent)
    → following extent_with new n u ≡ Some x → following extent_with old n u ≡ Some x
extent_back old new knows zero u whole x e = e
extent_back old new knows (suc n) u whole x e =
    extent_near (λ d. option_and_then (following extent_with new n) (new d)) (λ d. option_and_then (following extent_with old n) (old d)) u
    (λ q y h g. name q y h g (old q) refl (whole q ([], h)) (extent_back old new knows n)) x e
  where
    name : (q : ℕ) (y : Extent) → Contains (held u) q → option_and_then (following extent_with new n) (new q) ≡ Some y → (o : Option Tree) →
        old q ≡ o → IsSome o
        → ((w : Tree) → ((d : ℕ) → (way : List ℕ) × Leads old w way d → IsSome (old d)) → (x : Extent) →
        following extent_with new n w ≡ Some x → following extent_with old n w ≡ Some x)
        → option_and_then (following extent_with old n) (old q) ≡ Some y
    name q y h g None f k ih = absurd cc
    name q y h g (Some w) f k ih =
        let there : following extent_with new n w ≡ Some y = sym (ap (option_and_then (following extent_with new n)) (knows q w f)) ∙ g in
        ap (option_and_then (following extent_with old n)) f ∙ ih w (λ d l. whole d (q ∷ l.0, (h, (w, f, l.1)))) y there

-- ---- a spelled type

module _ (old new : Store) (v : IsStore old) (w : IsStore new) (grows : Extends (record old { listed = [] }) new) (r : Spelled)
    (within : IsWithin (length old.rows) r.row) (decided : IsDecided old r) where
  -- the store without its list of types that have tags
  abbrev before : Store
  before = record old { listed = [] }

  there : (i : ℕ) (u : Tree) → tree_at old i ≡ Some u → tree_at new i ≡ Some u
  there = tree_at-Extends before new grows

  back : (i : ℕ) (u : Tree) → i < length old.rows → tree_at new i ≡ Some u → tree_at old i ≡ Some u
  back i u l e =
      let here = tree_at-id old i l in
      let both = sym (there i (tree_in (trees old.rows) i) here) ∙ e in
      here ∙ both

  tree_of_stays : (q : Row) → IsWithin (length old.rows) q → tree_of (trees new.rows) q ≡ tree_of (trees old.rows) q
  tree_of_stays q h =
      ap (λ ts. tree_of ts q) (ap trees grows.rows.1 ∙ trees-append old.rows grows.rows.0)
      ∙ tree_of-append (trees old.rows) (further (trees old.rows) grows.rows.0) q
      (subst (λ n. IsWithin n q) (sym (length-trees old.rows)) h)

  -- ---- members

  member_there : (k : ℕ) (t : Tree) → IsMember old r k t → IsMember new r k t
  member_there k t h = (h.0, h.1, h.2, h.3, there h.1 t h.4)

  member_back : (k : ℕ) (t : Tree) → IsMember new r k t → IsMember old r k t
  member_back k t h = (
    h.0,
    h.1,
    h.2,
    h.3,
    back h.1 t
        (below_at (length old.rows) h.0 k h.1 (written_below (length old.rows) r.row h.0 within h.2) h.3) h.4,
  )

  union_back : (k : ℕ) (t : Tree) (ts : Trees) → IsMember old r k t → is_spread r k ≡ true → IsBase new t (Union ts) →
      IsBase old t (Union ts)
  union_back k t ts m e h =
      let known = decided.spreads k t m e in
      let same = one_base new t known.0 (Union ts) (IsBase-Extends before new grows t known.0 known.1) h in
      subst (λ b. IsBase old t b) same known.1

  adds_there : (b : Bool) (t u : Tree) → Adds old b t u → Adds new b t u
  adds_there true t u h = (h.0, IsBase-Extends before new grows t (Union h.0) h.1, h.2)
  adds_there false t u h = h

  adds_back : (k : ℕ) (t u : Tree) → IsMember old r k t → (b : Bool) → is_spread r k ≡ b → Adds new b t u → Adds old b t u
  adds_back k t u m true e h = (h.0, union_back k t h.0 m e h.1, h.2)
  adds_back k t u m false e h = h

  -- ---- what is left

  left_there : (u : Tree) → IsLeft old r u → IsLeft new r u
  left_there u h = (h.0, h.1, member_there h.0 h.1 h.2, adds_there (is_spread r h.0) h.1 u h.3, h.4)

  left_back : (u : Tree) → IsLeft new r u → IsLeft old r u
  left_back u h =
      let m = member_back h.0 h.1 h.2 in
      (h.0, h.1, m, adds_back h.0 h.1 u m (is_spread r h.0) refl h.3, h.4)

  id_back : (i : ℕ) (u : Tree) → IsLeft old r u → tree_at new i ≡ Some u → tree_at old i ≡ Some u
  id_back i u l e =
      let j = left_at old v r u l in
      let same = one_id new w j.0 i u u (there j.0 u j.1) e (Same-refl u) in
      subst (λ n. tree_at old n ≡ Some u) same j.1

  all_there : (is : List ℕ) → AreLeft old r is → AreLeft new r is
  all_there is h = record {
    union = h.union;
    ascend = h.ascend;
    sound = λ i m. let g = h.sound i m in (g.0, there i g.0 g.1, left_there g.0 g.2);
    whole = λ u g. let k = h.whole u (left_back u g) in (k.0, k.1, there k.0 u k.2);
  }

  all_back : (is : List ℕ) → AreLeft new r is → AreLeft old r is
  all_back is h = record {
    union = h.union;
    ascend = h.ascend;
    sound = λ i m. let g = h.sound i m in let l = left_back g.0 g.2 in (g.0, id_back i g.0 l g.1, l);
    whole = λ u g. let k = h.whole u (left_there u g) in (k.0, k.1, id_back k.0 u g k.2);
  }

  -- ---- the reduced type

  type_stays : (is : List ℕ) → AreLeft old r is → type_of new is ≡ type_of old is
  type_stays [] h = refl
  type_stays (i ∷ []) h =
      let g = h.sound i (In-to i (i ∷ []) (inl refl)) in
      there i g.0 g.1 ∙ sym g.1
  type_stays (i ∷ j ∷ is) h = ap Some (tree_of_stays (row.Union (i ∷ j ∷ is)) (all_below (length old.rows) (i ∷ j ∷ is) below))
    where
      below : (k : ℕ) → In k (i ∷ j ∷ is) → k < length old.rows
      below k m = let g = h.sound k (In-to k (i ∷ j ∷ is) m) in (id-tree_at old k g.0 g.1).0

  either : (o : Option (List ℕ)) (A B : Type 0) (P Q : Type 0) → (A → B) → (P → Q) → MatchOption o A (λ _. P) → MatchOption o B (λ _. Q)
  either None A B P Q f g h = f h
  either (Some is) A B P Q f g h = g h

  reduced_there : (u : Tree) → IsReducedTo old r u → IsReducedTo new r u
  reduced_there u =
      either (written r.row) (tree_of (trees old.rows) r.row ≡ u) (tree_of (trees new.rows) r.row ≡ u)
      ((is : List ℕ) × AreLeft old r is × (type_of old is ≡ Some u)) ((is : List ℕ) × AreLeft new r is × (type_of new is ≡ Some u))
      (λ e. tree_of_stays r.row within ∙ e) (λ h. (h.0, all_there h.0 h.1, type_stays h.0 h.1 ∙ h.2))

  reduced_back : (u : Tree) → IsReducedTo new r u → IsReducedTo old r u
  reduced_back u =
      either (written r.row) (tree_of (trees new.rows) r.row ≡ u) (tree_of (trees old.rows) r.row ≡ u)
      ((is : List ℕ) × AreLeft new r is × (type_of new is ≡ Some u)) ((is : List ℕ) × AreLeft old r is × (type_of old is ≡ Some u))
      (λ e. sym (tree_of_stays r.row within) ∙ e) (λ h. let l = all_back h.0 h.1 in (h.0, l, sym (type_stays h.0 l) ∙ h.2))

  -- ---- the checks

  bad_there : (k : ℕ) → IsBadSpread old r k → IsBadSpread new r k
  bad_there k h = record {
    type = h.type;
    member = member_there k h.type h.member;
    spread = h.spread;
    no_union = λ ts b. h.no_union ts (union_back k h.type ts h.member h.spread b);
  }

  bad_back : (k : ℕ) → IsBadSpread new r k → IsBadSpread old r k
  bad_back k h = record {
    type = h.type;
    member = member_back k h.type h.member;
    spread = h.spread;
    no_union = λ ts b. h.no_union ts (IsBase-Extends before new grows h.type (Union ts) b);
  }

  value_there : (u : Tree) → IsMeasured old r u → IsMeasured new r u
  value_there u (inl h) = inl (h.0, h.1, there h.0 u h.2)
  value_there u (inr h) = inr (left_there u h)

  value_back : (u : Tree) → IsMeasured new r u → IsMeasured old r u
  value_back u (inl h) = inl (
    h.0,
    h.1,
    back h.0 u
        (below_in (length old.rows) (measured r.row) (measured_below (length old.rows) r.row within) h.0 (In-from h.0 (measured r.row) h.1))
        h.2,
  )
  value_back u (inr h) = inr (left_back u h)

  unsized_back : LacksSize new r → LacksSize old r
  unsized_back h = by (has_size old h.0) refl (decided.sized h.0 (value_back h.0 h.1))
    where
      by : (o : Option Bool) → has_size old h.0 ≡ o → IsSome o → LacksSize old r
      by None e k = absurd cc
      by (Some b) e k =
          let both = sym (has_size-Extends before new grows h.0 b e) ∙ h.2 in
          (h.0, value_back h.0 h.1, e ∙ both)

  large_back : IsTooLarge new r → IsTooLarge old r
  large_back h =
      let reduced = reduced_back h.0 h.2 in (
        h.0,
        h.1,
        reduced,
        (
          h.3.0,
          extent_back (meaning_of old) (meaning_of new) (meaning_of-Extends before new grows) h.3.0 h.0
              (λ d l. decided.whole h.0 d reduced l) h.1 h.3.1,
        ),
        h.4,
      )

  fails_there : (place : Place) (c : Check) (p : Place) → Fails old r place c p → Fails new r place c p
  fails_there place Spreading p h = (h.0, bad_there h.0 h.1, (λ j l b. h.2 j l (bad_back j b)), h.3)
  fails_there place Sized p h = ((h.0.0, value_there h.0.0 h.0.1, has_size-Extends before new grows h.0.0 false h.0.2), h.1)
  fails_there place Inhabited p h = (all_there [] h.0, h.1)
  fails_there place Narrow p h = ((h.0.0, all_there h.0.0 h.0.1, h.0.2), h.1)
  fails_there place Small p h = (
    (h.0.0, h.0.1, reduced_there h.0.0 h.0.2, HasExtent-Extends before new grows h.0.0 h.0.1 h.0.3, h.0.4),
    h.1,
  )

  fails_back : (place : Place) (c : Check) (p : Place) → Fails new r place c p → Fails old r place c p
  fails_back place Spreading p h = (h.0, bad_back h.0 h.1, (λ j l b. h.2 j l (bad_there j b)), h.3)
  fails_back place Sized p h = (unsized_back h.0, h.1)
  fails_back place Inhabited p h = (all_back [] h.0, h.1)
  fails_back place Narrow p h = ((h.0.0, all_back h.0.0 h.0.1, h.0.2), h.1)
  fails_back place Small p h = (large_back h.0, h.1)

  first_there : (place : Place) (cs : List Check) (f : Fault) → IsFirstOf old r place cs f → IsFirstOf new r place cs f
  first_there place [] f h = h
  first_there place (c ∷ cs) f (inl h) = inl (h.0, fails_there place c f.place h.1)
  first_there place (c ∷ cs) f (inr h) = inr ((λ p b. h.0 p (fails_back place c p b)), first_there place cs f h.1)

  first_back : (place : Place) (cs : List Check) (f : Fault) → IsFirstOf new r place cs f → IsFirstOf old r place cs f
  first_back place [] f h = h
  first_back place (c ∷ cs) f (inl h) = inl (h.0, fails_back place c f.place h.1)
  first_back place (c ∷ cs) f (inr h) = inr ((λ p b. h.0 p (fails_there place c p b)), first_back place cs f h.1)

  passes_there : (place : Place) (cs : List Check) → PassesAll old r place cs → PassesAll new r place cs
  passes_there place [] h = h
  passes_there place (c ∷ cs) h = ((λ p b. h.0 p (fails_back place c p b)), passes_there place cs h.1)

  passes_back : (place : Place) (cs : List Check) → PassesAll new r place cs → PassesAll old r place cs
  passes_back place [] h = h
  passes_back place (c ∷ cs) h = ((λ p b. h.0 p (fails_there place c p b)), passes_back place cs h.1)

  one_judgement : (place : Place) → IsOneJudgement old new r place
  one_judgement place = record {
    reduced = λ u. (reduced_there u, reduced_back u);
    fault = λ f. (first_there place checks f, first_back place checks f);
    admitted = (passes_there place checks, passes_back place checks);
  }

pub judgements_stay : JudgementsStay
judgements_stay now later v l r place within decided = one_judgement now later v l.sound l.grows r within decided place
