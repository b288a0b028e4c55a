-- Parts that do not lie over one another: in whatever order they are placed, the whole is the same.
use Rattle.std.proofs.Common.{◌≡◌, ◌∙◌, sym, ap, subst, refl, ℕ, suc, ◌+◌, ◌-◌, ◌≤◌, ◌<◌, arith, List, [], ◌∷◌, ◌++◌, length, take, get_or, ◌⊎◌, inl, inr}
use Rattle.std.specs.Prelude.{slice_get, Some, None, Contains}
use Rattle.std.specs.Prelude.{IsPermutation}
use Rattle.std.proofs.lemmas.Bool.{cases_lt}
use Rattle.std.proofs.lemmas.List.{take_more, take_all}
use Rattle.std.proofs.lemmas.Option.{slice_get_past, slice_get-get_or}
use Rattle.std.proofs.lemmas.List.Elements.{Contains-append_cases, Contains-append_right, Contains-push_cases}
use Rattle.std.proofs.lemmas.List.Sorted.{Contains-permutation, IsPermutation-sym}
use Rattle.hare_typed.specs.declared.cell.Cell.{Cell}
use Rattle.hare_typed.specs.declared.cell.Cell.TheVariants as cell
use Rattle.hare_typed.specs.Cells.{with_cells, undefined_cells}
use Rattle.hare_const.specs.declared.outcome.Outcome.{Outcome}
use Rattle.hare_const.specs.declared.placing.Part.{Part}
use Rattle.hare_const.specs.declared.outcome.Outcome.TheVariants.{Known, Aborts, Undefined}
use Rattle.hare_const.specs.NodeValues.{filled, kid_at}
use Rattle.hare_const.specs.Placing.{cells_of, cells_in, placed, Holds}
use Rattle.hare_const.proofs.PlacingLemmas.{before_part, within_part, past_part, parts_keep_length, with_none, holds_none, placed_push}

-- the part holds the place
abbrev pub HasPlace : List Outcome → Part → ℕ → Type 0
HasPlace os p place = Holds p.start (cells_in os p) place

-- no place is held by two of them
abbrev pub AreApart : List Outcome → List Part → Type 0
AreApart os ps = (p q : Part) → Contains ps p → Contains ps q → (place : ℕ) → HasPlace os p place → HasPlace os q place → p ≡ q

-- ---- what stands at a place

nowhere : {A : Type 0} (x : A) → Contains [] x → ⊥
nowhere x h = omega (arith, h.1)

first : (x : Part) (ps : List Part) → Contains (x ∷ ps) x
first x ps = (0, omega arith, refl)

alone : (x p : Part) → Contains (x ∷ []) p → x ≡ p
alone x p h = by (Contains-push_cases [] x p h)
  where
    by : Contains [] p ⊎ (x ≡ p) → x ≡ p
    by (inl k) = absurd (nowhere p k)
    by (inr e) = e

-- whether the part holds the place
held_by : (start : ℕ) (ns : List Cell) (place : ℕ) → Holds start ns place ⊎ (Holds start ns place → ⊥)
held_by start ns place = by (cases_lt place start)
  where
    within : start ≤ place → (place < start + length ns) ⊎ (start + length ns ≤ place) → Holds start ns place ⊎ (Holds start ns place → ⊥)
    within h (inl k) = inl (h, k)
    within h (inr k) = inr (λ both. omega (arith, k, both.1))

    by : (place < start) ⊎ (start ≤ place) → Holds start ns place ⊎ (Holds start ns place → ⊥)
    by (inl h) = inr (λ both. omega (arith, h, both.0))
    by (inr h) = within h (cases_lt place (start + length ns))

-- the part of them that does, or none
holder : (os : List Outcome) (place : ℕ) (ps : List Part) →
    ((p : Part) × Contains ps p × HasPlace os p place) ⊎ ((p : Part) → Contains ps p → HasPlace os p place → ⊥)
holder os place [] = inr (λ p h k. nowhere p h)
holder os place (x ∷ ps) = by (held_by x.start (cells_in os x) place) (holder os place ps)
  where
    by : HasPlace os x place ⊎ (HasPlace os x place → ⊥) →
        ((p : Part) × Contains ps p × HasPlace os p place) ⊎ ((p : Part) → Contains ps p → HasPlace os p place → ⊥) →
        ((p : Part) × Contains (x ∷ ps) p × HasPlace os p place) ⊎ ((p : Part) → Contains (x ∷ ps) p → HasPlace os p place → ⊥)
    by (inl k) r = inl (x, first x ps, k)
    by (inr n) (inl (p, c, k)) = inl (p, Contains-append_right (x ∷ []) ps p c, k)
    by (inr n) (inr none) = inr (λ p c k. neither p k (Contains-append_cases (x ∷ []) ps p c))
      where
        neither : (p : Part) → HasPlace os p place → Contains (x ∷ []) p ⊎ Contains ps p → ⊥
        neither p k (inl c) = n (subst (λ q. HasPlace os q place) (sym (alone x p c)) k)
        neither p k (inr c) = none p c k

-- a place that a part does not hold is as it was
beside_part : (start place : ℕ) (ns cs : List Cell) → (Holds start ns place → ⊥) →
    slice_get (with_cells start ns cs) place ≡ slice_get cs place
beside_part start place ns cs n = by (cases_lt place start)
  where
    past : start ≤ place → (place < start + length ns) ⊎ (start + length ns ≤ place) →
        slice_get (with_cells start ns cs) place ≡ slice_get cs place
    past h (inl k) = absurd (n (h, k))
    past h (inr k) = past_part start place ns cs h (slice_get_past ns (place - start) (omega (arith, h, k)))

    by : (place < start) ⊎ (start ≤ place) → slice_get (with_cells start ns cs) place ≡ slice_get cs place
    by (inl h) = before_part start place ns cs h
    by (inr h) = past h (cases_lt place (start + length ns))

-- and one that it holds has its cell
at_part : (start place : ℕ) (ns cs : List Cell) → Holds start ns place → place < length cs →
    slice_get (with_cells start ns cs) place ≡ slice_get ns (place - start)
at_part start place ns cs h l =
    let here : slice_get ns (place - start) ≡ Some (get_or ns (place - start) _) =
    slice_get-get_or ns (place - start) cell.Undef (omega (arith, h.0, h.1)) in
    within_part start place _ ns cs h.0 here l ∙ sym here

pub length_placed : (os : List Outcome) (ps : List Part) (cs : List Cell) → length (placed os ps cs) ≡ length cs
length_placed os [] cs = refl
length_placed os (p ∷ ps) cs =
    length_placed os ps (with_cells p.start (cells_in os p) cs) ∙ parts_keep_length p.start (cells_in os p) cs

-- a place that none of them holds is as it was
placed_beside : (os : List Outcome) (ps : List Part) (cs : List Cell) (place : ℕ) → ((p : Part) → Contains ps p → HasPlace os p place → ⊥) →
    slice_get (placed os ps cs) place ≡ slice_get cs place
placed_beside os [] cs place n = refl
placed_beside os (x ∷ ps) cs place n =
    placed_beside os ps (with_cells x.start (cells_in os x) cs) place (λ p c. n p (Contains-append_right (x ∷ []) ps p c))
    ∙ beside_part x.start place (cells_in os x) cs (n x (first x ps))

-- one that one of them holds has its cell
placed_at : (os : List Outcome) (ps : List Part) (cs : List Cell) (place : ℕ) → AreApart os ps → place < length cs →
    (p : Part) → Contains ps p → HasPlace os p place → slice_get (placed os ps cs) place ≡ slice_get (cells_in os p) (place - p.start)
placed_at os [] cs place a l p c k = absurd (nowhere p c)
placed_at os (x ∷ ps) cs place a l p c k =
    by (holder os place ps) (λ q d h. placed_at os ps next place (λ y z f g. a y z (later y f) (later z g)) inside q d h)
  where
    next : List Cell
    next = with_cells x.start (cells_in os x) cs

    inside : place < length next
    inside = omega (arith, parts_keep_length x.start (cells_in os x) cs, l)

    later : (q : Part) → Contains ps q → Contains (x ∷ ps) q
    later q d = Contains-append_right (x ∷ []) ps q d

    here : ((q : Part) → Contains ps q → HasPlace os q place → ⊥) → Contains (x ∷ []) p ⊎ Contains ps p → x ≡ p
    here none (inl d) = alone x p d
    here none (inr d) = absurd (none p d k)

    by : ((q : Part) × Contains ps q × HasPlace os q place) ⊎ ((q : Part) → Contains ps q → HasPlace os q place → ⊥) →
        ((q : Part) → Contains ps q → HasPlace os q place →
        slice_get (placed os ps next) place ≡ slice_get (cells_in os q) (place - q.start)) →
        slice_get (placed os ps next) place ≡ slice_get (cells_in os p) (place - p.start)
    by (inl (q, d, h)) behind =
        behind q d h ∙ ap (λ y. slice_get (cells_in os y) (place - y.start)) (a q p (later q d) c place h k)
    by (inr none) behind =
        let same : x ≡ p = here none (Contains-append_cases (x ∷ []) ps p c) in
        let held : HasPlace os x place = subst (λ y. HasPlace os y place) (sym same) k in
        placed_beside os ps next place none
        ∙ at_part x.start place (cells_in os x) cs held l
        ∙ ap (λ y. slice_get (cells_in os y) (place - y.start)) same

-- ---- another order

same_cells : (xs ys : List Cell) → ((place : ℕ) → slice_get xs place ≡ slice_get ys place) → xs ≡ ys
same_cells [] [] h = refl
same_cells [] (y ∷ ys) h = let e : None ≡ Some y = h 0 in absurd cc
same_cells (x ∷ xs) [] h = let e : Some x ≡ None = h 0 in absurd cc
same_cells (x ∷ xs) (y ∷ ys) h =
    let e : Some x ≡ Some y = h 0 in
    let first : x ≡ y = cc in
    ap (λ z. z ∷ xs) first ∙ ap (λ zs. y ∷ zs) (same_cells xs ys (λ place. h (suc place)))

pub placed_permuted : (os : List Outcome) (ps qs : List Part) (cs : List Cell) → IsPermutation ps qs → AreApart os qs →
    placed os qs cs ≡ placed os ps cs
placed_permuted os ps qs cs m a = same_cells (placed os qs cs) (placed os ps cs) at
  where
    forth : (p : Part) → Contains ps p → Contains qs p
    forth p c = Contains-permutation ps qs p m c

    back : (p : Part) → Contains qs p → Contains ps p
    back p c = Contains-permutation qs ps p (IsPermutation-sym ps qs m) c

    held : (place : ℕ) → place < length cs →
        ((q : Part) × Contains qs q × HasPlace os q place) ⊎ ((q : Part) → Contains qs q → HasPlace os q place → ⊥) →
        slice_get (placed os qs cs) place ≡ slice_get (placed os ps cs) place
    held place l (inl (q, c, k)) =
        placed_at os qs cs place a l q c k
        ∙ sym (placed_at os ps cs place (λ y z f g. a y z (forth y f) (forth z g)) l q (back q c) k)
    held place l (inr none) = placed_beside os qs cs place none ∙ sym (placed_beside os ps cs place (λ p c. none p (forth p c)))

    by : (place : ℕ) → (place < length cs) ⊎ (length cs ≤ place) → slice_get (placed os qs cs) place ≡ slice_get (placed os ps cs) place
    by place (inl l) = held place l (holder os place qs)
    by place (inr l) =
        slice_get_past (placed os qs cs) place (omega (arith, length_placed os qs cs, l))
        ∙ sym (slice_get_past (placed os ps cs) place (omega (arith, length_placed os ps cs, l)))

    at : (place : ℕ) → slice_get (placed os qs cs) place ≡ slice_get (placed os ps cs) place
    at place = by place (cases_lt place (length cs))

-- ---- from front to back

-- the first parts stand in the value, of which these cells are known
pub record Laid (os : List Outcome) (ps : List Part) (size i : ℕ) (whole : List Cell) : Type 0 where
  pub within : length whole ≤ size
  pub value : filled size whole ≡ placed os (take i ps) (undefined_cells size)
  pub ends : (p : Part) → Contains (take i ps) p → (place : ℕ) → HasPlace os p place → place < length whole
  pub apart : AreApart os (take i ps)

pub laid_none : (os : List Outcome) (ps : List Part) (size : ℕ) → Laid os ps size 0 []
laid_none os ps size = record {
  within = omega arith;
  value = ap undefined_cells all;
  ends = λ p c. absurd (nowhere p c);
  apart = λ p q c. absurd (nowhere p c);
}
  where
    all : size - 0 ≡ size
    all = omega arith

-- one more part is laid behind them
module _ (os : List Outcome) (ps : List Part) (size i : ℕ) (whole new : List Cell) (p : Part) (k : Laid os ps size i whole)
    (h : i < length ps) (e : get_or ps i p ≡ p) where
  front : take (i + 1) ps ≡ take i ps ++ p ∷ []
  front = take_more ps i p h ∙ ap (λ q. take i ps ++ q ∷ []) e

  pub laid_more : length new ≤ size → filled size new ≡ with_cells p.start (cells_in os p) (filled size whole) → length whole ≤ length new →
      ((place : ℕ) → HasPlace os p place → (length whole ≤ place) × (place < length new)) → Laid os ps size (i + 1) new
  laid_more w v g b = record {
    within = w;
    value =
        v
        ∙ ap (with_cells p.start (cells_in os p)) k.value
        ∙ sym (ap (λ qs. placed os qs (undefined_cells size)) front ∙ placed_push os (take i ps) p (undefined_cells size));
    ends = λ q c place d. ends q place d (cases q c);
    apart = λ q r c d place f s. apart q r place f s (cases q c) (cases r d);
  }
    where
      cases : (q : Part) → Contains (take (i + 1) ps) q → Contains (take i ps) q ⊎ (p ≡ q)
      cases q c = Contains-push_cases (take i ps) p q (subst (λ qs. Contains qs q) front c)

      ends : (q : Part) (place : ℕ) → HasPlace os q place → Contains (take i ps) q ⊎ (p ≡ q) → place < length new
      ends q place d (inl c) = omega (arith, k.ends q c place d, g)
      ends q place d (inr same) = (b place (subst (λ r. HasPlace os r place) (sym same) d)).1

      -- no part before it holds a place of its own
      never : (q : Part) (place : ℕ) → HasPlace os q place → HasPlace os p place → Contains (take i ps) q → ⊥
      never q place d f c = omega (arith, k.ends q c place d, (b place f).0)

      apart : (q r : Part) (place : ℕ) → HasPlace os q place → HasPlace os r place → Contains (take i ps) q ⊎ (p ≡ q) →
          Contains (take i ps) r ⊎ (p ≡ r) → q ≡ r
      apart q r place d f (inl c) (inl b) = k.apart q r c b place d f
      apart q r place d f (inl c) (inr same) = absurd (never q place d (subst (λ x. HasPlace os x place) (sym same) f) c)
      apart q r place d f (inr same) (inl c) = absurd (never r place f (subst (λ x. HasPlace os x place) (sym same) d) c)
      apart q r place d f (inr same) (inr other) = sym same ∙ other

  -- one that is the value of a kid
  pub laid_known : (c : List Cell) → kid_at p.kid os ≡ Known c → length new ≤ size →
      filled size new ≡ with_cells p.start c (filled size whole) →
      length whole ≤ length new → ((place : ℕ) → Holds p.start c place → (length whole ≤ place) × (place < length new)) →
      Laid os ps size (i + 1) new
  laid_known c o w v g b =
      let same : cells_in os p ≡ c = ap cells_of o in
      laid_more w (v ∙ ap (λ ds. with_cells p.start ds (filled size whole)) (sym same)) g
      (λ place d. b place (subst (λ ds. Holds p.start ds place) same d))

  -- one of a kid that has none changes nothing
  pub laid_unknown : ((c : List Cell) → kid_at p.kid os ≡ Known c → ⊥) → new ≡ whole → Laid os ps size (i + 1) new
  laid_unknown n s = by (kid_at p.kid os) refl
    where
      empty : length (cells_in os p) ≡ 0 → Laid os ps size (i + 1) new
      empty z =
          laid_more (omega (arith, k.within, ap length s))
          (ap (filled size) s ∙ sym (with_none p.start (cells_in os p) (filled size whole) z))
          (omega (arith, ap length s)) (λ place d. absurd (holds_none p.start (cells_in os p) place z d))

      by : (o : Outcome) → kid_at p.kid os ≡ o → Laid os ps size (i + 1) new
      by (Known c) e = absurd (n c e)
      by Aborts e = empty (ap (λ o. length (cells_of o)) e)
      by Undefined e = empty (ap (λ o. length (cells_of o)) e)

-- when all are laid, the whole is that of the parts in any order
pub laid_all : (os : List Outcome) (ps given : List Part) (size i : ℕ) (whole new : List Cell) → Laid os ps size i whole → length ps ≤ i →
    IsPermutation given ps → new ≡ filled size whole → new ≡ placed os given (undefined_cells size)
laid_all os ps given size i whole new k h m e =
    let all : take i ps ≡ ps = take_all i ps h in
    e ∙ k.value
    ∙ ap (λ qs. placed os qs (undefined_cells size)) all
    ∙ placed_permuted os given ps (undefined_cells size) m (subst (AreApart os) all k.apart)
