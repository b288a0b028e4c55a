-- Whether a number is on a list, as a test: lists with the same numbers answer alike.
use Rattle.std.proofs.Common.{◌≡◌, ℕ, List, [], ◌∷◌, ◌++◌, Bool, true, false, map, ap, ◌⊎◌, inl, inr, refl, sym, arith, ◌∙◌, if◌then◌else◌}
use Rattle.std.specs.Prelude.{◌||◌, ◌&&◌, ◌==◌}
use Rattle.std.proofs.lemmas.List.{map-append}
use Rattle.std.proofs.lemmas.Bool.{eq-eqb}
use Rattle.std.proofs.lemmas.Bool.Decides.{nat_tests}
use Rattle.hare_tree.specs.Grammar.{IsOn}
use Rattle.hare_nesting.proofs.UnderWay.Stacks.{Gains}

abbrev pub on : ℕ → List ℕ → Bool
on x [] = false
on x (n ∷ ns) = x == n || on x ns

either : (a b c d : Bool) → b ≡ (c || d) → (a || b) ≡ ((a || c) || d)
either true b c d e = refl
either false b c d e = e

pub on_append : (x : ℕ) (ns ms : List ℕ) → on x (ns ++ ms) ≡ (on x ns || on x ms)
on_append x [] ms = refl
on_append x (n ∷ ns) ms = either (x == n) _ _ _ (on_append x ns ms)

-- a list of a number that is there or not
pub on_one : (x n : ℕ) (b : Bool) → on x (if b then n ∷ [] else []) ≡ (b && x == n)
on_one x n true = by (x == n)
  where
    by : (b : Bool) → (b || false) ≡ b
    by true = refl
    by false = refl
on_one x n false = refl

same : (x n : ℕ) → (x == n) ≡ true → x ≡ n
same x n e = grind (arith, nat_tests)

or_true : (b : Bool) → (b || true) ≡ true
or_true true = refl
or_true false = refl

pub is_on : (x : ℕ) (ns : List ℕ) → on x ns ≡ true → IsOn x ns
is_on x [] e = cc
is_on x (n ∷ ns) e = by (x == n) refl e (is_on x ns)
  where
    by : (b : Bool) → (x == n) ≡ b → (b || on x ns) ≡ true → (on x ns ≡ true → IsOn x ns) → (x ≡ n) ⊎ IsOn x ns
    by true i e k = inl (same x n i)
    by false i e k = inr (k e)

pub on_is : (x : ℕ) (ns : List ℕ) → IsOn x ns → on x ns ≡ true
on_is x [] e = absurd e
on_is x (n ∷ ns) (inl e) = rw (eq-eqb x n e) refl
on_is x (n ∷ ns) (inr e) = rw (on_is x ns e) (or_true (x == n))

-- ---- lists of numbers, and of what stands for them

pub on_map : (f : ℕ → ℕ) (x : ℕ) (ns ms : List ℕ) → on x (map f (ns ++ ms)) ≡ (on x (map f ns) || on x (map f ms))
on_map f x ns ms = ap (on x) (map-append f ns ms) ∙ on_append x (map f ns) (map f ms)

pub map_one : (f : ℕ → ℕ) (x n : ℕ) (b : Bool) → on x (map f (if b then n ∷ [] else [])) ≡ (b && x == f n)
map_one f x n true = on_one x (f n) true
map_one f x n false = refl

pub alone : (x n : ℕ) (b : Bool) → on x ((if b then n ∷ [] else []) ++ []) ≡ (b && x == n)
alone x n true = on_one x n true
alone x n false = refl

pub map_alone : (f : ℕ → ℕ) (x n : ℕ) (b : Bool) → on x (map f ((if b then n ∷ [] else []) ++ [])) ≡ (b && x == f n)
map_alone f x n true = on_one x (f n) true
map_alone f x n false = refl

pub same_or : (a b c d : Bool) → a ≡ b → c ≡ d → (a || c) ≡ (b || d)
same_or a b c d e f = rw (e, f) refl

-- lists that answer alike have the same numbers
pub same_numbers : (ns ms : List ℕ) → ((x : ℕ) → on x ns ≡ on x ms) → Gains ns ms []
same_numbers ns ms e = record {
  kept = λ x k. is_on x ms (sym (e x) ∙ on_is x ns k);
  gained = λ x k. absurd k;
  only = λ x k. inl (is_on x ns (e x ∙ on_is x ms k));
}
