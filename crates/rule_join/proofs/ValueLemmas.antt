-- The listed values, one by one.
use Rattle.std.proofs.Common.{◌≡◌, ℕ, zero, suc, ◌+◌, ◌<◌, Bool, true, false, not, ◌&&◌, ◌||◌, ◌==◌, cond, nat_lt, List, [], ◌∷◌, ◌-◌, length, drop, map, get_or, Some, None, refl, ap, ap₂, sym, ◌∙◌, subst, arith, add-one}
use Rattle.std.specs.Prelude.{find, slice_get}
use Rattle.std.proofs.lemmas.Bool.{lt-ltb}
use Rattle.std.proofs.lemmas.Option.{slice_get-get_or}
use Rattle.hare_tree.specs.declared.place.Place.{Place}
use Rattle.hare_typed.specs.Typed.{TypedNode}
use Rattle.hare_typed.specs.Order.{tree_from_front}
use Rattle.hare_types.specs.Store.{Store}
use Rattle.hare_rules.specs.declared.judged.Yielded.{Yielded}
use Rattle.hare_rules.specs.Control.{is_open}
use Rattle.hare_rules.specs.Judged.{givens_from}
use Rattle.rule_judge.specs.declared.turn.Turn.{Turn}
use Rattle.rule_judge.specs.Turns.{context_in, yields_in}
use Rattle.rule_join.specs.declared.values.Source.{Source}
use Rattle.rule_join.specs.declared.values.Source.TheVariants as source
use Rattle.rule_join.specs.Together.{handed, listed_in, two_branches, ends}
use Rattle.rule_join.proofs.BreakLemmas.{drop_get}

branch_at : (b : Bool) (xs : List TypedNode) (i : ℕ) → i < length (two_branches b xs) →
    slice_get (two_branches b xs) i ≡ Some (handed (tree_from_front (suc i) xs))
branch_at true xs zero h = refl
branch_at true xs (suc zero) h = refl
branch_at true xs (suc (suc i)) h = absurd (omega (arith, h))
branch_at false xs i h = absurd (omega (arith, h))

branch_few : (b : Bool) (xs : List TypedNode) (i : ℕ) → i < length (two_branches b xs) → i < 2
branch_few true xs i h = h
branch_few false xs i h = absurd (omega (arith, h))

-- ---- by their source

pub at_branch : (v : Source) (t : Turn) (i : ℕ) (y : Yielded) → v ≡ source.Branches → i < length (listed_in v t) →
    y ≡ handed (tree_from_front (i + 1) t.kids.now)
    → slice_get (listed_in v t) i ≡ Some y
at_branch source.Branches t i y e h k =
    let next : i + 1 ≡ suc i = add-one i in
    branch_at _ t.kids.now i h ∙ ap Some (sym (k ∙ ap (λ n. handed (tree_from_front n t.kids.now)) next))
at_branch source.Yields t i y e h k = cc
at_branch source.Cases t i y e h k = cc

pub branch_within : (v : Source) (t : Turn) (i : ℕ) → v ≡ source.Branches → i < length (listed_in v t) → i < 2
branch_within source.Branches t i e h = branch_few _ t.kids.now i h
branch_within source.Yields t i e h = cc
branch_within source.Cases t i e h = cc

yields_are : (v : Source) (t : Turn) → v ≡ source.Yields → listed_in v t ≡ yields_in t
yields_are v t e = ap (λ w. listed_in w t) e

pub yield_within : (v : Source) (t : Turn) (i : ℕ) → v ≡ source.Yields → i < length (listed_in v t) → i < length (yields_in t)
yield_within v t i e h = subst (λ zs. i < length zs) (yields_are v t e) h

pub at_yield : (v : Source) (t : Turn) (i : ℕ) (y : Yielded) (zs : List Yielded) → v ≡ source.Yields → i < length (listed_in v t) →
    zs ≡ yields_in t → y ≡ get_or zs i y
    → slice_get (listed_in v t) i ≡ Some y
at_yield v t i y zs e h z g =
    ap (λ us. slice_get us i) (yields_are v t e) ∙ slice_get-get_or (yields_in t) i y (yield_within v t i e h)
    ∙ ap (λ us. Some (get_or us i y)) (sym z) ∙ ap Some (sym g)

cases_are : (v : Source) (t : Turn) → v ≡ source.Cases → listed_in v t ≡ map handed (drop 1 t.kids.now)
cases_are v t e = ap (λ w. listed_in w t) e

length-handed : (xs : List TypedNode) → length (map handed xs) ≡ length xs
length-handed [] = refl
length-handed (x ∷ xs) = ap suc (length-handed xs)

length-cases : (xs : List TypedNode) → length (map handed (drop 1 xs)) ≡ length xs - 1
length-cases [] = refl
length-cases (x ∷ xs) = length-handed xs ∙ omega arith

pub case_count : (v : Source) (t : Turn) → v ≡ source.Cases → length t.kids.now - 1 ≡ length (listed_in v t)
case_count v t e = sym (ap length (cases_are v t e) ∙ length-cases t.kids.now)

pub case_within : (v : Source) (t : Turn) (i : ℕ) → v ≡ source.Cases → i < length (listed_in v t) → i + 1 < length t.kids.now
case_within v t i e h = let all = case_count v t e in omega arith

handed_at : (xs : List TypedNode) (i : ℕ) → i < length (map handed xs) → slice_get (map handed xs) i ≡ Some (handed (tree_from_front i xs))
handed_at [] i h = absurd (omega arith)
handed_at (x ∷ xs) zero h = refl
handed_at (x ∷ xs) (suc i) h = handed_at xs i (omega arith)

case_at : (xs : List TypedNode) (i : ℕ) → i < length (map handed (drop 1 xs)) →
    slice_get (map handed (drop 1 xs)) i ≡ Some (handed (tree_from_front (i + 1) xs))
case_at [] i h = absurd (omega arith)
case_at (x ∷ xs) i h = rw add-one (handed_at xs i h)

pub at_case : (v : Source) (t : Turn) (i : ℕ) (y : Yielded) → v ≡ source.Cases → i < length (listed_in v t) →
    y ≡ handed (tree_from_front (i + 1) t.kids.now)
    → slice_get (listed_in v t) i ≡ Some y
at_case v t i y e h k =
    ap (λ ys. slice_get ys i) (cases_are v t e) ∙ case_at t.kids.now i (subst (λ ys. i < length ys) (cases_are v t e) h) ∙ ap Some (sym k)

-- ---- the first of them of which something is so

module _ {A : Type 0} (p : A → Bool) (xs : List A) (i : ℕ) (x : A) (e : slice_get xs i ≡ Some x) where
  pub find_here : p x ≡ true → find p (drop i xs) ≡ Some x
  find_here h = ap (find p) (drop_get xs i x e) ∙ ap (λ b. cond b (Some x) (find p (drop (i + 1) xs))) h

  pub find_next : p x ≡ false → find p (drop i xs) ≡ find p (drop (i + 1) xs)
  find_next h = ap (find p) (drop_get xs i x e) ∙ ap (λ b. cond b (Some x) (find p (drop (i + 1) xs))) h

-- ---- the end

some_given : (n : ℕ) (ys : List Yielded) → false ≡ (length ys == 0) → nat_lt 0 (length (givens_from n ys)) ≡ true
some_given n [] e = absurd cc
some_given n (y ∷ ys) e = lt-ltb 0 (suc (length (givens_from (suc n) ys))) (omega arith)

module _ (f : Store) (v : Source) (t : Turn) (yields : v ≡ source.Yields) where
  pub ends_open : (b : Bool) → false ≡ (length (yields_in t) == 0) → b ≡ is_open (context_in f t) → b ≡ ends v (context_in f t)
  ends_open b e h =
      h ∙ sym (ap (λ w. ends w (context_in f t)) yields ∙ ap (λ k. k && is_open (context_in f t)) (some_given 0 (yields_in t) e))

pub end_is : (b d : Bool) (p q : Place) → true ≡ b → false ≡ d → p ≡ q → Some p ≡ cond (b && not d) (Some q) None
end_is b d p q e h k = ap Some k ∙ ap₂ (λ x y. cond (x && not y) (Some q) None) e h

pub returns_by : (body reached fit b : Bool) → body ≡ true → true ≡ reached → b ≡ fit → b ≡ (not (body && reached) || fit)
returns_by body reached fit b e h k = k ∙ ap₂ (λ x y. not (x && y) || fit) (sym e) h
