-- Marks of one byte at the front of a text.
use Rattle.std.proofs.Common.{◌≡◌, ℕ, ◌≤◌, List, [], ◌∷◌, Bool, true, false, ◌||◌, take, length, refl, arith}
use Rattle.std.specs.Prelude.{◌==◌, slice_index}
use Rattle.std.specs.List.{list_all, AllByRecursion}
use Rattle.hare_tree.specs.Words.{is_listed, marks}
use Rattle.hare_lex.specs.Lexing.{longest}
use Rattle.hare_lex.proofs.Fronts.Lists.{and_left, and_right, listed_case}

one_at_end : (c : ℕ) → is_listed marks (c ∷ []) ≡ true → 1 ≡ longest marks (c ∷ [])
unfolding longest
one_at_end c one = rw one refl

one_of_more : (c b : ℕ) (s : List ℕ) → is_listed marks (c ∷ []) ≡ true → ((rest : List ℕ) → is_listed marks (c ∷ b ∷ rest) ≡ false) →
    1 ≡ longest marks (c ∷ b ∷ s)
unfolding longest
one_of_more c b s one more = rw (more (take 1 s), more [], one) refl

-- a mark with which no longer one begins
pub alone : (s : List ℕ) → 1 ≤ length s → is_listed marks (slice_index s 0 ∷ []) ≡ true →
    ((b : ℕ) (rest : List ℕ) → is_listed marks (slice_index s 0 ∷ b ∷ rest) ≡ false) → 1 ≡ longest marks s
alone [] h one more = absurd (omega arith)
alone (c ∷ []) h one more = one_at_end c one
alone (c ∷ b ∷ s) h one more = one_of_more c b s one (more b)

-- a mark in front of a byte that is the second of none
pub front_of_two : (s : List ℕ) → 2 ≤ length s → is_listed marks (slice_index s 0 ∷ []) ≡ true →
    ((c : ℕ) (rest : List ℕ) → is_listed marks (c ∷ slice_index s 1 ∷ rest) ≡ false) → 1 ≡ longest marks s
front_of_two [] h one more = absurd (omega arith)
front_of_two (c ∷ []) h one more = absurd (omega arith)
front_of_two (c ∷ b ∷ s) h one more = one_of_more c b s one (more c)

-- the second bytes of marks
abbrev pub is_second : ℕ → Bool
is_second b = b == 38 || b == 46 || b == 58 || b == 60 || b == 61 || b == 62 || b == 94 || b == 124

abbrev second_of : List ℕ → Bool
second_of [] = true
second_of (a ∷ []) = true
second_of (a ∷ b ∷ rest) = is_second b

seconds : AllByRecursion (λ w. second_of w ≡ true) marks
seconds = by marks refl
  where
    by : (ws : List (List ℕ)) → list_all second_of ws ≡ true → AllByRecursion (λ w. second_of w ≡ true) ws
    by [] h = tt
    by (w ∷ ws) h = (and_left _ _ h, by ws (and_right _ _ h))

not_listed : (b : Bool) (a second : ℕ) (rest : List ℕ) → is_listed marks (a ∷ second ∷ rest) ≡ b → is_second second ≡ false → b ≡ false
not_listed false a second rest e h = refl
not_listed true a second rest e h =
    let s : is_second second ≡ true = listed_case (λ w. second_of w ≡ true) marks (a ∷ second ∷ rest) seconds e in
    cc

pub no_second : (a second : ℕ) (rest : List ℕ) → is_second second ≡ false → is_listed marks (a ∷ second ∷ rest) ≡ false
no_second a second rest h = not_listed _ a second rest refl h
