-- Paths of modules, name by name.
use Rattle.std.proofs.Common.{◌≡◌, ℕ, ◌+◌, ◌<◌, ◌≤◌, List, [], ◌∷◌, ◌++◌, Bool, true, false, cond, not, length, map, take, drop, position, Some, None, slice_get, nat_lt, refl, sym, ap, ◌∙◌, suc, append_assoc, append-nil, add-one, arith, ◌==◌}
use Rattle.std.specs.List.{position_or_len}
use Rattle.std.proofs.Math.Dec.{eqb-suc-zero}
use Rattle.std.proofs.lemmas.Bool.{ltb-true, ltb-false}
use Rattle.hare_modules.specs.Modules.{spelled, next_name, directories_behind}
use Rattle.hare_modules.proofs.ListLemmas.{drop-there}

-- names behind others of a path, of which the first is or is not the first of the path
abbrev pub more : Bool → List (List ℕ) → List ℕ
more b [] = []
more b (x ∷ xs) = next_name b x ++ more false xs

pub spelled-more : (xs : List (List ℕ)) → spelled xs ≡ more true xs
spelled-more [] = refl
spelled-more (x ∷ []) = sym (append-nil x)
spelled-more (x ∷ y ∷ xs) = ap (λ s. x ++ (58 ∷ 58 ∷ s)) (spelled-more (y ∷ xs))

-- what stands before the first `/` of a text is a directory
abbrev first : List ℕ → ℕ
first s = position_or_len (λ c. c == 47) s

step_false : (c : ℕ) (s part : List ℕ) → directories_behind (part ++ c ∷ []) s ≡
    ((part ++ c ∷ []) ++ take (first s) s) ∷ directories_behind [] (drop (first s + 1) s) →
    directories_behind (part ++ c ∷ []) s ≡ (part ++ take (1 + first s) (c ∷ s)) ∷ directories_behind [] (drop (1 + first s + 1) (c ∷ s))
step_false c s part h =
    let e : 1 + first s + 1 ≡ suc (first s + 1) = omega arith in
    let f : 1 + first s ≡ suc (first s) = omega arith in
    rw (e, f) (h ∙ ap (λ p. p ∷ directories_behind [] (drop (first s + 1) s)) (append_assoc part (c ∷ []) (take (first s) s)))

there : (s part : List ℕ) → first s < length s →
    directories_behind part s ≡ (part ++ take (first s) s) ∷ directories_behind [] (drop (first s + 1) s)
there [] part h = absurd (omega arith)
there (c ∷ s) part h = by (there s (part ++ c ∷ [])) (c == 47) h
  where
    by : (first s < length s → directories_behind (part ++ c ∷ []) s ≡
        ((part ++ c ∷ []) ++ take (first s) s) ∷ directories_behind [] (drop (first s + 1) s)) → (b : Bool) →
        cond (not b) (1 + first s) 0 < suc (length s) →
        cond b (part ∷ directories_behind [] s) (directories_behind (part ++ c ∷ []) s) ≡
        (part ++ take (cond (not b) (1 + first s) 0) (c ∷ s)) ∷ directories_behind [] (drop (cond (not b) (1 + first s) 0 + 1) (c ∷ s))
    by more true l = rw append-nil refl
    by more false l = step_false c s part (more (omega (arith, l)))

none : (s part : List ℕ) → length s ≤ first s → directories_behind part s ≡ []
none [] part h = refl
none (c ∷ s) part h = by (none s (part ++ c ∷ [])) (c == 47) h
  where
    by : (length s ≤ first s → directories_behind (part ++ c ∷ []) s ≡ []) → (b : Bool) → suc (length s) ≤ cond (not b) (1 + first s) 0 →
        cond b (part ∷ directories_behind [] s) (directories_behind (part ++ c ∷ []) s) ≡ []
    by more true l = absurd (omega (arith, l))
    by more false l = more (omega (arith, l))

pub directory-there : (s part : List ℕ) (n : ℕ) → Some n ≡ position (λ c. c == 47) s →
    directories_behind part s ≡ (part ++ take n s) ∷ directories_behind [] (drop (n + 1) s)
directory-there s part n e = by (nat_lt (first s) (length s)) refl e
  where
    by : (b : Bool) → nat_lt (first s) (length s) ≡ b → Some n ≡ cond b (Some (first s)) None →
        directories_behind part s ≡ (part ++ take n s) ∷ directories_behind [] (drop (n + 1) s)
    by true h k = let m : n ≡ first s = cc in rw m (there s part (ltb-true (first s) (length s) h))
    by false h k = absurd cc

pub directory-none : (s part : List ℕ) → None ≡ position (λ c. c == 47) s → directories_behind part s ≡ []
directory-none s part e = by (nat_lt (first s) (length s)) refl e
  where
    by : (b : Bool) → nat_lt (first s) (length s) ≡ b → None ≡ cond b (Some (first s)) None → directories_behind part s ≡ []
    by true h k = absurd cc
    by false h k = none s part (ltb-false (first s) (length s) h)

-- a directory more of a path
pub directory_more : (s s' : List ℕ) (n : ℕ) (is_first : Bool) (name old new all : List ℕ) → Some n ≡ position (λ c. c == 47) s →
    name ≡ take n s → s' ≡ drop (n + 1) s → new ≡ old ++ next_name is_first name → old ++ more is_first (directories_behind [] s) ≡ all →
    new ++ more false (directories_behind [] s') ≡ all
directory_more s s' n is_first name old new all e k d m h =
    rw (m, k, d) (append_assoc old (next_name is_first (take n s)) _ ∙ sym (ap (λ ds. old ++ more is_first ds) (directory-there s [] n e)) ∙
    h)

not-first : (i : ℕ) → ((i + 1) == 0) ≡ false
not-first i = rw add-one (eqb-suc-zero i)

-- a name more of a list of names
pub one_more : {A : Type 0} (f : A → List ℕ) (xs : List A) (i : ℕ) (x : A) (name old new all : List ℕ) → slice_get xs i ≡ Some x →
    name ≡ f x → new ≡ old ++ next_name (i == 0) name → old ++ more (i == 0) (map f (drop i xs)) ≡ all →
    new ++ more ((i + 1) == 0) (map f (drop (i + 1) xs)) ≡ all
one_more f xs i x name old new all e n m h =
    rw (m, n, not-first i) (append_assoc old (next_name (i == 0) (f x)) _ ∙ sym
    (ap (λ ys. old ++ more (i == 0) (map f ys)) (drop-there xs i x e)) ∙ h)
