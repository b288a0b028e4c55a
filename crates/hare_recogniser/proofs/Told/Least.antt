-- The least of the tokens that are told.
use Rattle.std.proofs.Common.{◌≡◌, ℕ, suc, ◌+◌, ◌-◌, ◌<◌, ◌≤◌, List, [], ◌∷◌, ◌++◌, min, Option, ◌⊎◌, inl, inr, refl, sym, ap, ◌∙◌, arith}
use Rattle.std.specs.Prelude.{Some, None}
use Rattle.std.proofs.lemmas.Bool.{cases_lt}
use Rattle.hare_tree.specs.Grammar.{IsOn}
use Rattle.std.specs.List.{AllByRecursion}
use Rattle.hare_recogniser.specs.Gauged.{IsLeastOf}
use Rattle.hare_recogniser.specs.Least.{lesser, least}

pub lesser_assoc : (a b c : Option ℕ) → lesser (lesser a b) c ≡ lesser a (lesser b c)
lesser_assoc None b c = refl
lesser_assoc (Some m) None c = refl
lesser_assoc (Some m) (Some n) None = refl
lesser_assoc (Some m) (Some n) (Some k) = let e : min (min m n) k ≡ min m (min n k) = omega arith in ap Some e

pub least_append : (ns ms : List ℕ) → least (ns ++ ms) ≡ lesser (least ns) (least ms)
least_append [] ms = refl
least_append (n ∷ ns) ms = ap (lesser (Some n)) (least_append ns ms) ∙ sym (lesser_assoc (Some n) (least ns) (least ms))

lesser_some : (m : ℕ) (o : Option ℕ) (n : ℕ) → lesser (Some m) o ≡ Some n → ((n ≡ m) ⊎ (o ≡ Some n)) × (n ≤ m)
lesser_some m None n e = let h : m ≡ n = cc in (inl (sym h), omega arith)
lesser_some m (Some k) n e =
    let h : min m k ≡ n = cc in (
      elim (cases_lt m k) [ inl l ↦ (let a : n ≡ m = omega arith in inl a) | inr l ↦ (let a : k ≡ n = omega arith in inr (ap Some a)) ],
      omega arith,
    )

least_is_on : (ns : List ℕ) (n : ℕ) → least ns ≡ Some n → IsOn n ns
least_is_on [] n e = cc
least_is_on (m ∷ ns) n e = elim (lesser_some m (least ns) n e).0 [ inl h ↦ inl h | inr h ↦ inr (least_is_on ns n h) ]

least_none : (ns : List ℕ) → least ns ≡ None → ns ≡ []
least_none [] e = refl
least_none (m ∷ ns) e = absurd (some_of (least ns) e) where
  some_of : (o : Option ℕ) → lesser (Some m) o ≡ None → ⊥
  some_of None h = cc
  some_of (Some k) h = cc

none_is_on : (ns : List ℕ) (k : ℕ) → ns ≡ [] → IsOn k ns → ⊥
none_is_on [] k e h = h
none_is_on (m ∷ ns) k e h = cc

least_below : (ns : List ℕ) (n k : ℕ) → least ns ≡ Some n → IsOn k ns → n ≤ k
least_below [] n k e h = absurd h
least_below (m ∷ ns) n k e (inl a) = let l = (lesser_some m (least ns) n e).1 in omega arith
least_below (m ∷ ns) n k e (inr a) = by (least ns) refl e (λ j f. least_below ns j k f a) where
  by : (o : Option ℕ) → least ns ≡ o → lesser (Some m) o ≡ Some n → ((j : ℕ) → least ns ≡ Some j → j ≤ k) → n ≤ k
  by None q f h = absurd (none_is_on ns k (least_none ns q) a)
  by (Some j) q f h = let g : min m j ≡ n = cc in let l = h j q in omega arith

-- ---- as places of a list, at which the token at `from` has the number 1

pub told_place : (ns : List ℕ) (from n m : ℕ) → least ns ≡ Some n → 0 < n → m ≡ from + n - 1 → IsLeastOf ns from (Some m)
told_place ns from n m e h i =
    let k : suc (m - from) ≡ n = omega arith in
    (omega arith, rw k (least_is_on ns n e), λ j a. rw k (least_below ns n j e a))

pub nothing_told : (ns : List ℕ) (from : ℕ) → least ns ≡ None → IsLeastOf ns from None
nothing_told ns from e = least_none ns e

-- a number that is told is that of a token of the list
pub least_within : (ns : List ℕ) (l n : ℕ) → AllByRecursion (λ k. (0 < k) × (k ≤ l)) ns → least ns ≡ Some n → (0 < n) × (n ≤ l)
least_within ns l n a e = of_each ns a (least_is_on ns n e) where
  of_each : (ms : List ℕ) → AllByRecursion (λ k. (0 < k) × (k ≤ l)) ms → IsOn n ms → (0 < n) × (n ≤ l)
  of_each [] b h = absurd h
  of_each (m ∷ ms) b (inl h) = rw h b.0
  of_each (m ∷ ms) b (inr h) = of_each ms b.1 h
