-- The types that are left in a union, member by member.
use Rattle.std.proofs.Common.{◌≡◌, ◌≢◌, ℕ, ◌+◌, ◌<◌, Bool, true, List, [], ◌∷◌, ◌++◌, length, take, get_or, Some, refl, ap, sym, ◌∙◌, subst, arith, ◌⊎◌, inl, inr, IsSome}
use Rattle.std.specs.Prelude.{slice_get, Contains}
use Rattle.std.proofs.lemmas.List.{take_more, take_all}
use Rattle.std.proofs.lemmas.List.Elements.{Contains-push, Contains-push_cases, Contains-append_left, All-get_or}
use Rattle.std.proofs.lemmas.Option.{slice_get_within, slice_get-get_or}
use Rattle.hare_tree.specs.declared.place.Place.{Place}
use Rattle.hare_types.specs.declared.row.Row.TheVariants as row
use Rattle.hare_types.specs.declared.row.Scalar.TheVariants as keyword
use Rattle.hare_types.specs.Trees.{Tree, Trees, Scalar, Union}
use Rattle.hare_types.specs.Rows.{tree_in, trees}
use Rattle.hare_types.specs.Store.{Store, tree_at}
use Rattle.hare_types.specs.Layout.{IsBase}
use Rattle.hare_layout.specs.declared.spelled.Spelled.{Spelled}
use Rattle.hare_types.specs.Unions.{put_all}
use Rattle.hare_layout.specs.Ids.{AreBrought, IsLeftBelow, AreLeftBelow, IsNoUnion, AreIds, Gains, never}
use Rattle.hare_layout.specs.Reduction.{written, IsMember, is_spread, Adds, AreLeft}
use Rattle.hare_layout.specs.Admission.{IsBadSpread, Passes, Spreading}
use Rattle.hare_layout.proofs.AscendingLemmas.{Ascends-put_all, ascending-sound, ascending-whole}
use Rattle.hare_layout.proofs.SpreadLemmas.{tree_at-id}

-- ---- one type more

pub Gains-none : (s : Store) (old : List ℕ) → Gains s old old []
Gains-none s old = record { kept = λ j h. h; gained = λ j h n. absurd (omega (arith, h.1)); only = λ j h. inl h }

-- never is left out
pub Gains-skip : (s : Store) (old new types : List ℕ) (i : ℕ) → Gains s old new types → tree_at s i ≡ Some (Scalar keyword.Never) →
    Gains s old new (types ++ i ∷ [])
Gains-skip s old new types i g never = record {
  kept = g.kept;
  gained = λ j h n. gain j n (Contains-push_cases types i j h);
  only = λ j h. keep j (g.only j h);
}
  where
    gain : (j : ℕ) → tree_at s j ≢ Some (Scalar keyword.Never) → Contains types j ⊎ (i ≡ j) → Contains new j
    gain j n (inl h) = g.gained j h n
    gain j n (inr e) = absurd (n (subst (λ x. tree_at s x ≡ Some (Scalar keyword.Never)) e never))

    keep : (j : ℕ) → Contains old j ⊎ (Contains types j × (tree_at s j ≢ Some (Scalar keyword.Never))) →
        Contains old j ⊎ (Contains (types ++ i ∷ []) j × (tree_at s j ≢ Some (Scalar keyword.Never)))
    keep j (inl h) = inl h
    keep j (inr h) = inr (Contains-append_left types (i ∷ []) j h.0, h.1)

pub Gains-push : (s : Store) (old new types : List ℕ) (i : ℕ) → Gains s old new types → tree_at s i ≢ Some (Scalar keyword.Never) →
    Gains s old (new ++ i ∷ []) (types ++ i ∷ [])
Gains-push s old new types i g other = record {
  kept = λ j h. Contains-append_left new (i ∷ []) j (g.kept j h);
  gained = λ j h n. gain j n (Contains-push_cases types i j h);
  only = λ j h. keep j (Contains-push_cases new i j h);
}
  where
    gain : (j : ℕ) → tree_at s j ≢ Some (Scalar keyword.Never) → Contains types j ⊎ (i ≡ j) → Contains (new ++ i ∷ []) j
    gain j n (inl h) = Contains-append_left new (i ∷ []) j (g.gained j h n)
    gain j n (inr e) = subst (λ x. Contains (new ++ i ∷ []) x) e (Contains-push new i)

    keep_old : (j : ℕ) → Contains old j ⊎ (Contains types j × (tree_at s j ≢ Some (Scalar keyword.Never))) →
        Contains old j ⊎ (Contains (types ++ i ∷ []) j × (tree_at s j ≢ Some (Scalar keyword.Never)))
    keep_old j (inl h) = inl h
    keep_old j (inr h) = inr (Contains-append_left types (i ∷ []) j h.0, h.1)

    keep : (j : ℕ) → Contains new j ⊎ (i ≡ j) →
        Contains old j ⊎ (Contains (types ++ i ∷ []) j × (tree_at s j ≢ Some (Scalar keyword.Never)))
    keep j (inl h) = keep_old j (g.only j h)
    keep j (inr e) = inr (
      subst (λ x. Contains (types ++ i ∷ []) x) e (Contains-push types i),
      subst
          (λ x. tree_at s x ≢ Some (Scalar keyword.Never)) e other,
    )

take_at : (types : List ℕ) (k i : ℕ) → k < length types → i ≡ get_or types k i → take (k + 1) types ≡ take k types ++ i ∷ []
take_at types k i l e = take_more types k i l ∙ ap (λ x. take k types ++ x ∷ []) (sym e)

-- the same, of the types before a place
pub Gains-skip_at : (s : Store) (old new types : List ℕ) (k i : ℕ) → k < length types → i ≡ get_or types k i →
    Gains s old new (take k types) → tree_at s i ≡ Some never → Gains s old new (take (k + 1) types)
Gains-skip_at s old new types k i l e g is_never =
    subst (λ ks. Gains s old new ks) (sym (take_at types k i l e)) (Gains-skip s old new (take k types) i g is_never)

pub Gains-push_at : (s : Store) (old new types : List ℕ) (k i : ℕ) → k < length types → i ≡ get_or types k i →
    Gains s old new (take k types) → tree_at s i ≢ Some never → Gains s old (new ++ i ∷ []) (take (k + 1) types)
Gains-push_at s old new types k i l e g other =
    subst (λ ks. Gains s old (new ++ i ∷ []) ks) (sym (take_at types k i l e)) (Gains-push s old new (take k types) i g other)

pub Gains-all : (s : Store) (old new types : List ℕ) → Gains s old new (take (length types) types) → Gains s old new types
Gains-all s old new types g = subst (λ ks. Gains s old new ks) (take_all (length types) types (omega arith)) g

-- ---- one member more

-- a member is one type
one_member : (s : Store) (r : Spelled) (k : ℕ) (t u : Tree) → IsMember s r k t → IsMember s r k u → t ≡ u
one_member s r k t u h g =
    let lists : Some h.0 ≡ Some g.0 = sym h.2 ∙ g.2 in
    let list : h.0 ≡ g.0 = cc in
    let ids : Some h.1 ≡ Some g.1 = sym h.3 ∙ ap (λ is. slice_get is k) list ∙ g.3 in
    let id : h.1 ≡ g.1 = cc in
    let trees : Some t ≡ Some u = sym h.4 ∙ ap (tree_at s) id ∙ g.4 in
    cc

-- the member at a place is the type of the id that is written there
pub member-at : (s : Store) (r : Spelled) (is : List ℕ) (k i : ℕ) → written r.row ≡ Some is → AreIds s is → k < length is → i ≡ get_or is k i →
    IsMember s r k (tree_in (trees s.rows) i)
member-at s r is k i e ids l here =
    let within : i < length s.rows = subst (λ x. x < length s.rows) (sym here) (All-get_or (λ x. x < length s.rows) is k i l ids) in
    (is, i, e, slice_get-get_or is k i l ∙ ap Some (sym here), tree_at-id s i within)

pub AreLeftBelow-none : (s : Store) (r : Spelled) → AreLeftBelow s r 0 []
AreLeftBelow-none s r = record {
  sound = λ j h. absurd (omega (arith, h.1));
  whole = λ u h. absurd (omega (arith, h.2));
  flat = λ j is h.
      absurd (omega (arith, h.1));
}

pub AreLeftBelow-more : (s : Store) (r : Spelled) (k : ℕ) (t : Tree) (old new js : List ℕ) → AreLeftBelow s r k old → IsMember s r k t →
    AreBrought s (is_spread r k) t js → Gains s old new js → AreLeftBelow s r (k + 1) new
AreLeftBelow-more s r k t old new js left member brought gains = record {
  sound = λ j h. from j (gains.only j h);
  whole = λ u h. to u h (at_or_below h.0 k h.2);
  flat = λ j is h. plain j is (gains.only j h);
}
  where
    at_or_below : (m n : ℕ) → m < n + 1 → (m < n) ⊎ (n ≡ m)
    at_or_below m n h = grind arith

    plain : (j : ℕ) (is : List ℕ) → Contains old j ⊎ (Contains js j × (tree_at s j ≢ Some (Scalar keyword.Never))) →
        slice_get s.rows j ≢ Some (row.Union is)
    plain j is (inl h) = left.flat j is h
    plain j is (inr h) = brought.flat j is h.0

    from : (j : ℕ) → Contains old j ⊎ (Contains js j × (tree_at s j ≢ Some (Scalar keyword.Never))) → (u : Tree) × (tree_at s j ≡ Some u) ×
        IsLeftBelow s r (k + 1) u
    from j (inl h) = let g = left.sound j h in (g.0, g.1, (g.2.0, g.2.1, omega (arith, g.2.2), g.2.3, g.2.4, g.2.5))
    from j (inr h) = let g = brought.sound j h.0 in (g.0, g.1, (k, t, omega arith, member, g.2, λ e. h.1 (g.1 ∙ ap Some e)))

    to : (u : Tree) (h : IsLeftBelow s r (k + 1) u) → (h.0 < k) ⊎ (k ≡ h.0) → (j : ℕ) × Contains new j × (tree_at s j ≡ Some u)
    to u h (inl l) = let g = left.whole u (h.0, h.1, l, h.3, h.4, h.5) in (g.0, gains.kept g.0 g.1, g.2)
    to u h (inr e) =
        let type : h.1 ≡ t = one_member s r k h.1 t (subst (λ m. IsMember s r m h.1) (sym e) h.3) member in
        let adds : Adds s (is_spread r k) t u =
        subst (λ x. Adds s (is_spread r k) x u) type (subst (λ m. Adds s (is_spread r m) h.1 u) (sym e) h.4) in
        let g = brought.whole u adds in
        (g.0, gains.gained g.0 g.1 (λ n. let both : Some u ≡ Some (Scalar keyword.Never) = sym g.2 ∙ n in h.5 (cc)), g.2)

-- ---- spreads

bad-here : (s : Store) (r : Spelled) (k : ℕ) (t : Tree) → IsMember s r k t → is_spread r k ≡ true → IsNoUnion s t → IsBadSpread s r k
bad-here s r k t member spread none = record { type = t; member = member; spread = spread; no_union = none }

-- a member that brings types is no bad spread
good-here : (s : Store) (r : Spelled) (k : ℕ) (t : Tree) → IsMember s r k t → (b : Bool) → is_spread r k ≡ b →
    (b ≡ true → (ts : Trees) × IsBase s t (Union ts)) → ¬ IsBadSpread s r k
good-here s r k t member b e base bad =
    let type : bad.type ≡ t = one_member s r k bad.type t bad.member member in
    let k = base (sym e ∙ bad.spread) in
    bad.no_union k.0 (subst (λ x. IsBase s x (Union k.0)) (sym type) k.1)

none_bad-more : (s : Store) (r : Spelled) (k : ℕ) → ((j : ℕ) → j < k → ¬ IsBadSpread s r j) → ¬ IsBadSpread s r k → (j : ℕ) → j < k + 1 →
    ¬ IsBadSpread s r j
none_bad-more s r k below here j l bad = by (at_or_below j k l)
  where
    at_or_below : (m n : ℕ) → m < n + 1 → (m < n) ⊎ (n ≡ m)
    at_or_below m n h = grind arith

    by : (j < k) ⊎ (k ≡ j) → ⊥
    by (inl h) = below j h bad
    by (inr e) = here (subst (λ m. IsBadSpread s r m) (sym e) bad)

member-below : (s : Store) (r : Spelled) (is : List ℕ) (k : ℕ) (t : Tree) → written r.row ≡ Some is → IsMember s r k t → k < length is
member-below s r is k t e h =
    let lists : Some h.0 ≡ Some is = sym h.2 ∙ e in
    let list : h.0 ≡ is = cc in
    slice_get_within is k h.1 (ap (λ l. slice_get l k) (sym list) ∙ h.3)

pub passes-spreads : (s : Store) (r : Spelled) (place : Place) (is : List ℕ) → written r.row ≡ Some is →
    ((j : ℕ) → j < length is → ¬ IsBadSpread s r j) → Passes s r place Spreading
passes-spreads s r place is e none p h = none h.0 (member-below s r is h.0 h.1.type e h.1.member) h.1

-- ---- a turn of the loop over members

module _ (s : Store) (r : Spelled) (is : List ℕ) (k i : ℕ) (b : Bool) (e : written r.row ≡ Some is) (ids : AreIds s is) (l : k < length is)
    (here : i ≡ get_or is k i) (spread : b ≡ is_spread r k) where
  pub left-step : (old new js : List ℕ) → AreBrought s b (tree_in (trees s.rows) i) js → Gains s old new js → AreLeftBelow s r k old →
      ((j : ℕ) → j < k → ¬ IsBadSpread s r j)
      → AreLeftBelow s r (k + 1) new × ((j : ℕ) → j < k + 1 → ¬ IsBadSpread s r j)
  left-step old new js brought gains left none =
      let member = member-at s r is k i e ids l here in (
        AreLeftBelow-more s r k (tree_in (trees s.rows) i) old new js left member
            (subst (λ x. AreBrought s x (tree_in (trees s.rows) i) js) spread brought) gains,
        none_bad-more s r k none (good-here s r k (tree_in (trees s.rows) i) member b (sym spread) brought.union),
      )

  pub left-stop : b ≡ true → IsNoUnion s (tree_in (trees s.rows) i) → IsBadSpread s r k
  left-stop bad none = bad-here s r k (tree_in (trees s.rows) i) (member-at s r is k i e ids l here) (sym spread ∙ bad) none

-- ---- all members

-- what is left of all members, in ascending order
pub AreLeft-all : (s : Store) (r : Spelled) (is left : List ℕ) → written r.row ≡ Some is → AreLeftBelow s r (length is) left →
    AreLeft s r (put_all left [])
AreLeft-all s r is left e h = record {
  union = subst (λ o. IsSome o) (sym e) refl;
  ascend = Ascends-put_all left [] tt;
  sound = λ i m. let g = h.sound i (ascending-sound left i m) in (g.0, g.1, (g.2.0, g.2.1, g.2.3, g.2.4, g.2.5));
  whole = λ u g. let k = h.whole u (g.0, g.1, member-below s r is g.0 g.1 e g.2, g.2, g.3, g.4) in (k.0, ascending-whole left k.0 k.1, k.2);
}
