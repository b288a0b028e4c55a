-- Facts of lists, of runs of bytes and of tables of words.
use Rattle.std.proofs.Common.{◌≡◌, ℕ, zero, suc, ◌+◌, ◌≤◌, List, [], ◌∷◌, ◌++◌, Bool, true, false, cond, ◌&&◌, ◌||◌, length, take, drop, refl, sym, ap, ◌∙◌, arith, subst, one-add}
use Rattle.std.proofs.Math.Seq.{take-append_seam, drop-append_seam}
use Rattle.std.specs.List.{prefix_len, list_all, AllByRecursion}
use Rattle.std.specs.Str.{bytes_eq}
use Rattle.std.proofs.lemmas.Slice.Eq.{bytes_eq-Decides}
use Rattle.hare_tree.specs.Words.{is_listed}

pub and_left : (a b : Bool) → (a && b) ≡ true → a ≡ true
and_left true b h = refl
and_left false b h = h

pub and_right : (a b : Bool) → (a && b) ≡ true → b ≡ true
and_right true b h = h
and_right false b h = absurd (cc)

pub and_both : (a b : Bool) → a ≡ true → b ≡ true → (a && b) ≡ true
and_both a b h k = rw h k

passes_step : (p : ℕ → Bool) (c : ℕ) (s : List ℕ) (n : ℕ) (b : Bool) → p c ≡ b → list_all p (take n s) ≡ true →
    list_all p (take (cond b (1 + n) 0) (c ∷ s)) ≡ true
passes_step p c s n false e h = refl
passes_step p c s n true e h = rw one-add (rw e h)

-- the run of bytes that pass, all of which pass
pub run_passes : (p : ℕ → Bool) (s : List ℕ) → list_all p (take (prefix_len p s) s) ≡ true
run_passes p [] = refl
run_passes p (c ∷ s) = passes_step p c s (prefix_len p s) (p c) refl (run_passes p s)

-- a front that passes is no longer than the run
pub run_most : (p : ℕ → Bool) (w more : List ℕ) → list_all p w ≡ true → length w ≤ prefix_len p (w ++ more)
run_most p [] more h = omega arith
run_most p (c ∷ w) more h =
    let first : p c ≡ true = and_left _ _ h in
    let rest = run_most p w more (and_right _ _ h) in
    rw first (omega (arith, rest))

within_step : (n m : ℕ) (b : Bool) → n ≤ m → cond b (1 + n) 0 ≤ suc m
within_step n m false h = omega arith
within_step n m true h = omega arith

pub run_within : (p : ℕ → Bool) (s : List ℕ) → prefix_len p s ≤ length s
run_within p [] = omega arith
run_within p (c ∷ s) = within_step (prefix_len p s) (length s) (p c) (run_within p s)

-- the front of a joined text is its first part
pub front_is : (s w more : List ℕ) → s ≡ w ++ more → take (length w) s ≡ w
front_is s w more e = ap (take (length w)) e ∙ take-append_seam w more

pub behind_is : (s w more : List ℕ) → s ≡ w ++ more → drop (length w) s ≡ more
behind_is s w more e = ap (drop (length w)) e ∙ drop-append_seam w more

-- two fronts of one length are one
pub same_front : (w w' more more' : List ℕ) → w ++ more ≡ w' ++ more' → length w ≡ length w' → w ≡ w'
same_front w w' more more' e n = sym (take-append_seam w more) ∙ ap (λ k. take k (w ++ more)) n ∙ front_is (w ++ more) w' more' e

pub take_take : (n : ℕ) (s : List ℕ) → take (length (take n s)) s ≡ take n s
take_take zero s = refl
take_take (suc n) [] = refl
take_take (suc n) (c ∷ s) = ap (λ l. c ∷ l) (take_take n s)

listed_step : (P : List ℕ → Type 0) (k w : List ℕ) (b m : Bool) → bytes_eq k w ≡ b → P k → (m ≡ true → P w) → (b || m) ≡ true → P w
listed_step P k w true m e here more h = subst P ((bytes_eq-Decides k w).0 e) here
listed_step P k w false m e here more h = more h

-- what holds of each word of a table holds of a listed word
pub listed_case : (P : List ℕ → Type 0) (words : List (List ℕ)) (w : List ℕ) → AllByRecursion P words → is_listed words w ≡ true → P w
listed_case P [] w all h = absurd (cc)
listed_case P (k ∷ words) w all h = listed_step P k w (bytes_eq k w) (is_listed words w) refl all.0 (listed_case P words w all.1) h
