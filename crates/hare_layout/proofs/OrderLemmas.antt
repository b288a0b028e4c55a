-- Ids that ascend, and which of them are among others that ascend too.
use Rattle.std.proofs.Common.{◌≡◌, ℕ, zero, suc, ◌+◌, ◌<◌, ◌≤◌, Bool, true, false, ◌==◌, ◌||◌, ◌&&◌, nat_eq, List, [], ◌∷◌, length, refl, ap, sym, ◌∙◌, subst, arith, drop, get_or, true≢false, ◌⊎◌, inl, inr}
use Rattle.std.specs.List.{list_any}
use Rattle.std.specs.Cmp.{unsigned_Decides}
use Rattle.std.proofs.lemmas.Bool.{cases_order}
use Rattle.std.proofs.lemmas.List.{drop_more}
use Rattle.hare_types.specs.Rows.{AllAbove, Ascends}
use Rattle.hare_layout.specs.Members.{all_among}

differ : (i u : ℕ) → ¬ (i ≡ u) → nat_eq u i ≡ false
differ i u other = by (nat_eq u i) refl
  where
    by : (b : Bool) → nat_eq u i ≡ b → b ≡ false
    by true e = absurd (other (sym ((unsigned_Decides u i).0 e)))
    by false e = refl

AllAbove-less : (i j : ℕ) (js : List ℕ) → i < j → AllAbove j js → AllAbove i js
AllAbove-less i j [] l h = tt
AllAbove-less i j (k ∷ js) l h = (omega (arith, h.0), AllAbove-less i j js l h.1)

-- what stands below all of these is none of them
none_equal : (i : ℕ) (js : List ℕ) → AllAbove i js → list_any (λ j. j == i) js ≡ false
none_equal i [] h = refl
none_equal i (j ∷ js) h = ap (λ b. b || list_any (λ j. j == i) js) (differ i j (λ e. omega (arith, e, h.0))) ∙ none_equal i js h.1

-- what stands below all of these is not looked for
not_sought : (u : ℕ) (is js : List ℕ) → AllAbove u is → all_among is (u ∷ js) ≡ all_among is js
not_sought u [] js h = refl
not_sought u (i ∷ is) js h =
    ap (λ b. (b || list_any (λ j. j == i) js) && all_among is (u ∷ js)) (differ i u (λ e. omega (arith, e, h.0))) ∙ ap
    (λ b. list_any (λ j. j == i) js && b) (not_sought u is js h.1)

-- the next of the others is the next that is looked for
among-next : (i : ℕ) (is js : List ℕ) → Ascends (i ∷ is) → all_among (i ∷ is) (i ∷ js) ≡ all_among is js
among-next i is js h = ap (λ b. (b || list_any (λ j. j == i) js) && all_among is (i ∷ js)) ((unsigned_Decides i i).1 refl) ∙ not_sought i is
    js h.0

-- it is another one
among-other : (i u : ℕ) (is js : List ℕ) → Ascends (i ∷ is) → Ascends (u ∷ js) → ¬ (i ≡ u) →
    all_among (i ∷ is) (u ∷ js) ≡ all_among (i ∷ is) js
among-other i u is js h k other = by (cases_order i u)
  where
    by : (i ≡ u) ⊎ ((i < u) ⊎ (u < i)) → all_among (i ∷ is) (u ∷ js) ≡ all_among (i ∷ is) js
    by (inl e) = absurd (other e)
    by (inr (inl l)) =
        let far = none_equal i js (AllAbove-less i u js l k.0) in
        ap (λ b. (b || list_any (λ j. j == i) js) && all_among is (u ∷ js)) (differ i u other) ∙ ap (λ b. b && all_among is (u ∷ js)) far ∙
        sym (ap (λ b. b && all_among is js) far)
    by (inr (inr l)) = not_sought u (i ∷ is) js (l, AllAbove-less u i is l h.0)

pub Ascends-drop : (n : ℕ) (is : List ℕ) → Ascends is → Ascends (drop n is)
Ascends-drop zero is h = h
Ascends-drop (suc n) [] h = tt
Ascends-drop (suc n) (i ∷ is) h = Ascends-drop n is h.1

-- ---- one pass over the others

module _ (is : List ℕ) (found i u : ℕ) (first : Ascends is) (within : found < length is) (at : i ≡ get_or is found i) where
  here : drop found is ≡ i ∷ drop (found + 1) is
  here = drop_more is found i within ∙ ap (λ j. j ∷ drop (found + 1) is) (sym at)

  ascend : Ascends (i ∷ drop (found + 1) is)
  ascend = subst Ascends here (Ascends-drop found is first)

  pub pass-next : nat_eq i u ≡ true → (js : List ℕ) → all_among (drop found is) (u ∷ js) ≡ all_among (drop (found + 1) is) js
  pass-next e js = ap (λ l. all_among l (u ∷ js)) here ∙ ap (λ n. all_among (i ∷ drop (found + 1) is) (n ∷ js))
      (sym ((unsigned_Decides i u).0 e)) ∙ among-next i (drop (found + 1) is) js ascend

  pub pass-other : nat_eq i u ≡ false → (js : List ℕ) → Ascends (u ∷ js) → all_among (drop found is) (u ∷ js) ≡ all_among (drop found is) js
  pass-other e js second =
      ap (λ l. all_among l (u ∷ js)) here ∙ among-other i u (drop (found + 1) is) js ascend second other ∙ sym
      (ap (λ l. all_among l js) here)
    where
      other : ¬ (i ≡ u)
      other s = true≢false (sym ((unsigned_Decides i u).1 s) ∙ e)

-- nothing is left past the end
pub drop-past : (n : ℕ) (is : List ℕ) → length is ≤ n → drop n is ≡ []
drop-past zero [] l = refl
drop-past zero (i ∷ is) l = absurd (omega arith)
drop-past (suc n) [] l = refl
drop-past (suc n) (i ∷ is) l = drop-past n is (omega arith)

suc-equal : (m n : ℕ) → nat_eq (suc m) (suc n) ≡ nat_eq m n
suc-equal m n = by (nat_eq m n) refl
  where
    by : (b : Bool) → nat_eq m n ≡ b → nat_eq (suc m) (suc n) ≡ b
    by true e = (unsigned_Decides (suc m) (suc n)).1 (ap suc ((unsigned_Decides m n).0 e))
    by false e = differ (suc n) (suc m) (λ s. let same : m ≡ n = omega (arith, s) in true≢false (sym ((unsigned_Decides m n).1 same) ∙ e))

-- no other is left
pub pass-end : (is : List ℕ) (found : ℕ) → found ≤ length is → (found == length is) ≡ all_among (drop found is) []
pass-end [] zero l = refl
pass-end [] (suc n) l = absurd (omega arith)
pass-end (i ∷ is) zero l = differ (length (i ∷ is)) 0 (λ e. omega arith)
pass-end (i ∷ is) (suc n) l = suc-equal n (length is) ∙ pass-end is n (omega arith)

-- the others as a loop meets them
pub drop-next : (n u : ℕ) (js : List ℕ) → n < length js → u ≡ get_or js n u → drop n js ≡ u ∷ drop (n + 1) js
drop-next n u js l e = drop_more js n u l ∙ ap (λ j. j ∷ drop (n + 1) js) (sym e)
