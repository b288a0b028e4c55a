-- What the types that are left say of the spelled type.
use Rattle.std.proofs.Common.{◌≡◌, ℕ, ◌<◌, ◌≤◌, Bool, true, false, ◌||◌, List, [], ◌∷◌, length, map, Option, Some, None, refl, ap, sym, ◌∙◌, subst, arith, ◌⊎◌, inl, inr, IsSome}
use Rattle.std.specs.Prelude.{Contains, MatchOption}
use Rattle.std.specs.List.{list_any}
use Rattle.std.proofs.lemmas.List.Elements.{All-contains, All-nil, All-cons}
use Rattle.hare_tree.specs.declared.place.Place.{Place}
use Rattle.hare_types.specs.declared.lists.Field.{Field}
use Rattle.hare_types.specs.declared.row.Row.{Row}
use Rattle.hare_types.specs.declared.row.Row.TheVariants as row
use Rattle.hare_types.specs.declared.row.Scalar.TheVariants as keyword
use Rattle.hare_types.specs.Trees.{Tree, Scalar}
use Rattle.hare_types.specs.Rows.{tree_in, tree_of, trees, AllBelow, FieldsBelow, IsWithin, IsReduced}
use Rattle.hare_types.specs.Store.{Store, tree_at}
use Rattle.hare_types.specs.Sound.{IsStore}
use Rattle.hare_types.specs.ByValue.{has_size}
use Rattle.hare_types.proofs.CallerLemmas.{tree_at_row, one_id}
use Rattle.hare_layout.proofs.MemberLemmas.{Same-refl}
use Rattle.hare_layout.specs.declared.spelled.Spelled.{Spelled}
use Rattle.hare_layout.specs.declared.reduce.Reduced.{Reduced}
use Rattle.hare_layout.specs.declared.reduce.Reduced.TheVariants.{Known, Fresh}
use Rattle.hare_types.specs.Unions.{put_all}
use Rattle.hare_layout.specs.Ids.{is_unsized, unsized_at, AreLeftBelow, AreIds}
use Rattle.hare_layout.specs.Reduction.{written, IsMember, IsLeft, AreLeft, type_of, IsReducedTo}
use Rattle.hare_layout.specs.Admission.{measured, Spreading, Sized, Inhabited, Narrow, Passes, PassesAll, LacksSize, IsEmpty, IsTooWide, IsFirstOf}
use Rattle.hare_layout.specs.Reduced.{IsReduction, IsOfMembers}
use Rattle.hare_layout.proofs.AscendingLemmas.{In, In-from, In-to, one_ascending, ascending-sound}
use Rattle.hare_layout.proofs.SpreadLemmas.{tree_at-id, id-tree_at, AreIds-AllBelow}
use Rattle.hare_layout.proofs.LeftLemmas.{AreLeft-all}

-- ---- types without a size

unsized-in : (s : Store) (is : List ℕ) → list_any (unsized_at s) is ≡ true → (i : ℕ) × In i is × (unsized_at s i ≡ true)
unsized-in s [] e = absurd cc
unsized-in s (i ∷ is) e = by (unsized_at s i) refl (unsized-in s is) e
  where
    by : (b : Bool) → unsized_at s i ≡ b → (list_any (unsized_at s) is ≡ true → (j : ℕ) × In j is × (unsized_at s j ≡ true)) →
        (b || list_any (unsized_at s) is) ≡ true → (j : ℕ) × In j (i ∷ is) × (unsized_at s j ≡ true)
    by true g ih h = (i, inl refl, g)
    by false g ih h = let k = ih h in (k.0, inr k.1, k.2)

unsized-out : (s : Store) (is : List ℕ) (i : ℕ) → list_any (unsized_at s) is ≡ false → In i is → unsized_at s i ≡ false
unsized-out s [] i e m = absurd m
unsized-out s (j ∷ is) i e m = by (unsized_at s j) refl (unsized-out s is i) e m
  where
    by : (b : Bool) → unsized_at s j ≡ b → (list_any (unsized_at s) is ≡ false → In i is → unsized_at s i ≡ false) →
        (b || list_any (unsized_at s) is) ≡ false → (j ≡ i) ⊎ In i is → unsized_at s i ≡ false
    by true g ih h m = absurd cc
    by false g ih h (inl k) = subst (λ x. unsized_at s x ≡ false) k g
    by false g ih h (inr k) = ih h k

known_unsized : (o : Option Bool) → is_unsized o ≡ true → o ≡ Some false
known_unsized None e = absurd cc
known_unsized (Some true) e = absurd cc
known_unsized (Some false) e = refl

-- the tree of an id has no size where the id is known to have none
has_none : (s : Store) (i : ℕ) (u : Tree) → tree_at s i ≡ Some u → unsized_at s i ≡ true → has_size s u ≡ Some false
has_none s i u e h = ap (has_size s) (sym (id-tree_at s i u e).1) ∙ known_unsized (has_size s (tree_in (trees s.rows) i)) h

has_none-not : (s : Store) (i : ℕ) (u : Tree) → tree_at s i ≡ Some u → unsized_at s i ≡ false → ¬ (has_size s u ≡ Some false)
has_none-not s i u e h g =
    let yes : unsized_at s i ≡ true = ap is_unsized (ap (has_size s) (id-tree_at s i u e).1 ∙ g) in
    absurd cc

-- ---- of a union

measured-union : (q : Row) (is : List ℕ) → written q ≡ Some is → measured q ≡ []
measured-union (row.Union js) is e = refl
measured-union (row.Scalar k) is e = absurd cc
measured-union (row.Pointer i) is e = absurd cc
measured-union (row.Nullable i) is e = absurd cc
measured-union (row.Slice i) is e = absurd cc
measured-union (row.Array n i) is e = absurd cc
measured-union (row.Struct fs) is e = absurd cc
measured-union (row.Tuple js) is e = absurd cc
measured-union (row.Error i) is e = absurd cc
measured-union (row.Named d) is e = absurd cc

module _ (s : Store) (r : Spelled) (is left : List ℕ) (e : written r.row ≡ Some is) (below : AreLeftBelow s r (length is) left) where
  pub AreIds-left : AreIds s left
  AreIds-left = by left (λ j m. (id-tree_at s j (below.sound j (In-to j left m)).0 (below.sound j (In-to j left m)).1).0)
    where
      by : (js : List ℕ) → ((j : ℕ) → In j js → j < length s.rows) → AreIds s js
      by [] f = All-nil (λ i. i < length s.rows)
      by (i ∷ js) f = All-cons (λ i. i < length s.rows) i js (f i (inl refl)) (by js (λ j m. f j (inr m)))

  pub union-unsized : list_any (unsized_at s) left ≡ true → LacksSize s r
  union-unsized h =
      let k = unsized-in s left h in
      let g = below.sound k.0 (In-to k.0 left k.1) in
      (g.0, inr (g.2.0, g.2.1, g.2.3, g.2.4, g.2.5), has_none s k.0 g.0 g.1 k.2)

  pub union-sized : list_any (unsized_at s) left ≡ false → ¬ LacksSize s r
  union-sized h (u, inl g, none) =
      let nowhere = subst (λ js. Contains js g.0) (measured-union r.row is e) g.1 in
      absurd (omega (arith, nowhere.1))
  union-sized h (u, inr g, none) =
      let all = AreLeft-all s r is left e below in
      let k = all.whole u g in
      has_none-not s k.0 u k.2 (unsized-out s left k.0 h (In-from k.0 left (ascending-sound left k.0 k.1))) none

-- the ids of what is left are one list
pub one_left : (s : Store) → IsStore s → (r : Spelled) (is js : List ℕ) → AreLeft s r is → AreLeft s r js → is ≡ js
one_left s v r is js a b = one_ascending is js a.ascend b.ascend (λ x m. over is js a b x (In-to x is m))
    (λ x m. over js is b a x (In-to x js m))
  where
    over : (ps qs : List ℕ) → AreLeft s r ps → AreLeft s r qs → (x : ℕ) → Contains ps x → In x qs
    over ps qs p q x m =
        let g = p.sound x m in
        let k = q.whole g.0 g.2 in
        In-from x qs (subst (λ y. Contains qs y) (one_id s v k.0 x g.0 g.0 k.2 g.1 (Same-refl g.0)) k.1)

pub none_empty : (s : Store) (r : Spelled) (is : List ℕ) → AreLeft s r is → ¬ (length is ≡ 0) → ¬ IsEmpty s r
none_empty s r [] a some h = some refl
none_empty s r (i ∷ is) a some h =
    let g = a.sound i (0, omega arith, refl) in
    let k = h.whole g.0 g.2 in
    absurd (omega (arith, k.1.1))

pub none_wide : (s : Store) → IsStore s → (r : Spelled) (is : List ℕ) → AreLeft s r is → length is ≤ 64 → ¬ IsTooWide s r
none_wide s v r is a few h = absurd (omega (arith, ap length (one_left s v r is h.0 a h.1), h.2))

-- ---- the type of what is left

type_of-several : (s : Store) (is : List ℕ) → 1 < length is → type_of s is ≡ Some (tree_of (trees s.rows) (row.Union is))
type_of-several s [] h = absurd (omega arith)
type_of-several s (i ∷ []) h = absurd (omega arith)
type_of-several s (i ∷ j ∷ is) h = refl

reduces_union : (s : Store) (r : Spelled) (ws is : List ℕ) (u : Tree) → written r.row ≡ Some ws → AreLeft s r is → type_of s is ≡ Some u →
    IsReducedTo s r u
reduces_union s r ws is u e a g = subst (λ o. MatchOption o (tree_of (trees s.rows) r.row ≡ u)
    (λ _. (js : List ℕ) × AreLeft s r js × (type_of s js ≡ Some u))) (sym e) (is, a, g)

AllBelow-In : (n : ℕ) (is : List ℕ) → ((j : ℕ) → In j is → j < n) → AllBelow n is
AllBelow-In n [] f = tt
AllBelow-In n (i ∷ is) f = (f i (inl refl), AllBelow-In n is (λ j m. f j (inr m)))

pub union-reduction : (s : Store) → IsStore s → (r : Spelled) (ws left is : List ℕ) → written r.row ≡ Some ws →
    AreLeftBelow s r (length ws) left → is ≡ put_all left [] → (q : Reduced) → IsOfMembers is q → IsReduction s r q
union-reduction s v r ws left is e below all (Known t) h =
    let a : AreLeft s r is = subst (λ js. AreLeft s r js) (sym all) (AreLeft-all s r ws left e below) in
    let one : AreLeft s r (t ∷ []) = subst (λ js. AreLeft s r js) h a in
    let g = one.sound t (0, omega arith, refl) in
    (g.0, g.1, reduces_union s r ws (t ∷ []) g.0 e one g.1)
union-reduction s v r ws left is e below all (Fresh q) h =
    let a : AreLeft s r is = subst (λ js. AreLeft s r js) (sym all) (AreLeft-all s r ws left e below) in (
      subst (λ x. IsWithin (length s.rows) x) (sym h.1)
          (AllBelow-In (length s.rows) is (λ j m. (id-tree_at s j (a.sound j (In-to j is m)).0 (a.sound j (In-to j is m)).1).0)),
      subst (λ x. IsReduced s.rows x) (sym h.1) (record {
        several = omega (arith, h.0);
        ascend = a.ascend;
        not_never = λ i m g. let k = a.sound i m in let both : Some (Scalar keyword.Never) ≡ Some k.0 =
            sym (tree_at_row s v i (row.Scalar keyword.Never) g) ∙ k.1 in k.2.4 (cc);
        not_union = λ i js m. below.flat i js (ascending-sound left i (subst (λ x. Contains x i) all m));
      }),
      subst (λ x. IsReducedTo s r (tree_of (trees s.rows) x)) (sym h.1)
          (reduces_union s r ws is (tree_of (trees s.rows) (row.Union is)) e a (type_of-several s is h.0)),
    )

-- what is wrong, and what is not, where these are left in ascending order
module _ (s : Store) (v : IsStore s) (r : Spelled) (place : Place) (ws left is : List ℕ) (e : written r.row ≡ Some ws)
    (below : AreLeftBelow s r (length ws) left)
    (spreads : Passes s r place Spreading) (sized : ¬ LacksSize s r) where
  ids : is ≡ put_all left [] → AreLeft s r is
  ids all = subst (λ js. AreLeft s r js) (sym all) (AreLeft-all s r ws left e below)

  pub union-empty : is ≡ put_all left [] → length is ≡ 0 →
      IsFirstOf s r place (Spreading ∷ Sized ∷ Inhabited ∷ Narrow ∷ []) (record { number = 19; place = place })
  union-empty all none = inr (spreads, inr (λ p h. sized h.0, inl (refl, (empty is none (ids all), refl))))
    where
      empty : (js : List ℕ) → length js ≡ 0 → AreLeft s r js → AreLeft s r []
      empty [] n a = a
      empty (j ∷ js) n a = absurd (omega arith)

  pub union-wide : 64 < length (put_all left []) →
      IsFirstOf s r place (Spreading ∷ Sized ∷ Inhabited ∷ Narrow ∷ []) (record { number = 20; place = place })
  union-wide more =
      let a = AreLeft-all s r ws left e below in
      let first : ¬ (length (put_all left []) ≡ 0) = omega arith in
      inr (
        spreads,
        inr (
          λ p h. sized h.0,
          inr
              ((λ p h. none_empty s r (put_all left []) a first h.0), inl (refl, ((put_all left [], a, more), refl))),
        ),
      )

  pub union-passes : is ≡ put_all left [] → ¬ (length is ≡ 0) → length is ≤ 64 →
      PassesAll s r place (Spreading ∷ Sized ∷ Inhabited ∷ Narrow ∷ [])
  union-passes all some few = (
    spreads,
    (
      (λ p h. sized h.0),
      ((λ p h. none_empty s r is (ids all) some h.0), ((λ p h. none_wide s v r is (ids all) few h.0), tt)),
    ),
  )

-- ---- of any other type

module _ (s : Store) (r : Spelled) (e : written r.row ≡ None) where
  no_member : (k : ℕ) (t : Tree) → ¬ IsMember s r k t
  no_member k t h = let both = sym e ∙ h.2 in absurd cc

  no_left : (u : Tree) → ¬ IsLeft s r u
  no_left u h = no_member h.0 h.1 h.2

  none_left : (is : List ℕ) → ¬ AreLeft s r is
  none_left is h = let nothing = subst (λ o. IsSome o) e h.union in absurd cc

  pub other-spreads : (place : Place) → Passes s r place Spreading
  other-spreads place p h = no_member h.0 h.1.type h.1.member

  pub other-unsized : AreIds s (measured r.row) → list_any (unsized_at s) (measured r.row) ≡ true → LacksSize s r
  other-unsized ids h =
      let k = unsized-in s (measured r.row) h in
      let m = In-to k.0 (measured r.row) k.1 in
      let tree = tree_at-id s k.0 (All-contains (λ i. i < length s.rows) (measured r.row) k.0 ids m) in
      (tree_in (trees s.rows) k.0, inl (k.0, m, tree), has_none s k.0 (tree_in (trees s.rows) k.0) tree k.2)

  pub other-sized : list_any (unsized_at s) (measured r.row) ≡ false → ¬ LacksSize s r
  other-sized h (u, inl g, none) = has_none-not s g.0 u g.2 (unsized-out s (measured r.row) g.0 h (In-from g.0 (measured r.row) g.1)) none
  other-sized h (u, inr g, none) = no_left u g

  pub other-passes : (place : Place) → ¬ LacksSize s r → PassesAll s r place (Spreading ∷ Sized ∷ Inhabited ∷ Narrow ∷ [])
  other-passes place sized = (other-spreads place, ((λ p h. sized h.0), ((λ p h. none_left [] h.0), ((λ p h. none_left h.0.0 h.0.1), tt))))

  reduced_row : (q : Row) → written q ≡ None → IsReduced s.rows q
  reduced_row (row.Union is) h = absurd cc
  reduced_row (row.Scalar k) h = tt
  reduced_row (row.Pointer i) h = tt
  reduced_row (row.Nullable i) h = tt
  reduced_row (row.Slice i) h = tt
  reduced_row (row.Array n i) h = tt
  reduced_row (row.Struct fs) h = tt
  reduced_row (row.Tuple is) h = tt
  reduced_row (row.Error i) h = tt
  reduced_row (row.Named d) h = tt

  pub other-reduction : IsWithin (length s.rows) r.row → (q : Row) → q ≡ r.row → IsReduction s r (Fresh q)
  other-reduction within q same =
      subst (λ x. IsReduction s r (Fresh x)) (sym same) (
        within,
        reduced_row r.row e,
        subst (λ o. MatchOption o (tree_of (trees s.rows) r.row ≡ tree_of (trees s.rows) r.row)
            (λ _. (js : List ℕ) × AreLeft s r js × (type_of s js ≡ Some (tree_of (trees s.rows) r.row)))) (sym e) refl,
      )

-- ---- ids of rows

fields-ids : (s : Store) (fs : List Field) → FieldsBelow (length s.rows) fs → AreIds s (map (λ f. f.ty) fs)
fields-ids s [] h = All-nil (λ i. i < length s.rows)
fields-ids s (f ∷ fs) h = All-cons (λ i. i < length s.rows) f.ty (map (λ f. f.ty) fs) h.0 (fields-ids s fs h.1)

none-ids : (s : Store) → AreIds s []
none-ids s = All-nil (λ i. i < length s.rows)

pub measured-ids : (s : Store) (q : Row) → IsWithin (length s.rows) q → AreIds s (measured q)
measured-ids s (row.Array n i) h = All-cons (λ i. i < length s.rows) i [] h (none-ids s)
measured-ids s (row.Struct fs) h = fields-ids s fs h
measured-ids s (row.Tuple is) h = AreIds-AllBelow s is h
measured-ids s (row.Union is) h = none-ids s
measured-ids s (row.Scalar k) h = none-ids s
measured-ids s (row.Pointer i) h = none-ids s
measured-ids s (row.Nullable i) h = none-ids s
measured-ids s (row.Slice i) h = All-cons (λ i. i < length s.rows) i [] h (none-ids s)
measured-ids s (row.Error i) h = none-ids s
measured-ids s (row.Named d) h = none-ids s
