-- The blanks or the comment at the front of a text.
use Rattle.std.proofs.Common.{◌≡◌, ℕ, suc, ◌+◌, ◌<◌, List, [], ◌∷◌, ◌++◌, Some, Bool, true, false, cond, ◌&&◌, ◌||◌, not, eqb, get_or, take, drop, refl, sym, ap, ◌∙◌, arith, subst, take-append-drop}
use Rattle.std.specs.List.{prefix_len, list_all}
use Rattle.std.proofs.lemmas.Bool.{eqb-true}
use Rattle.hare_tree.specs.Words.{is_blank, is_not_feed}
use Rattle.hare_tree.specs.Tokens.{IsComment, ends_line, no_gap}
use Rattle.hare_lex.specs.declared.gap.GapPart.{GapPart}
use Rattle.hare_lex.specs.Fronts.{IsPart, IsGapPart}
use Rattle.hare_lex.specs.Lexing.{begins_comment, skipped}
use Rattle.hare_lex.proofs.Fronts.Lists.{and_left, and_right, run_passes, run_within}
use Rattle.hare_lex.proofs.Turns.Gaps.{past_blank, past_body}

-- ---- blanks

stops_step : (c : ℕ) (r : List ℕ) (n : ℕ) (b : Bool) → is_blank c ≡ b → is_blank (get_or (drop n r) 0 0) ≡ false
    → is_blank (get_or (drop (cond b (1 + n) 0) (c ∷ r)) 0 0) ≡ false
stops_step c r n false e h = e
stops_step c r n true e h =
    let k : 1 + n ≡ suc n = omega arith in subst (λ m. is_blank (get_or (drop m (c ∷ r)) 0 0) ≡ false) (sym k) h

-- behind the run of blanks stands none
run_stops : (s : List ℕ) → is_blank (get_or (drop (prefix_len is_blank s) s) 0 0) ≡ false
run_stops [] = refl
run_stops (c ∷ r) = stops_step c r (prefix_len is_blank r) (is_blank c) refl (run_stops r)

pub blanks_part : (s : List ℕ) (n : ℕ) → n ≡ prefix_len is_blank s → 0 < n → IsGapPart s (Some (record { comment = false; len = n }))
blanks_part s n e h = (
  h,
  omega (arith, e, run_within is_blank s),
  (ap (λ k. list_all is_blank (take k s)) e ∙ run_passes is_blank s, ap (λ k. is_blank (get_or (drop k s) 0 0)) e ∙ run_stops s),
)

-- ---- comments

ends_step : (c : ℕ) (r : List ℕ) (n : ℕ) (b : Bool) → eqb c 10 ≡ b → ends_line (drop n r) ≡ true
    → ends_line (drop (cond (not b) (1 + n) 0) (c ∷ r)) ≡ true
ends_step c r n true e h = e
ends_step c r n false e h = let k : 1 + n ≡ suc n = omega arith in subst (λ m. ends_line (drop m (c ∷ r)) ≡ true) (sym k) h

-- a line ends behind what is no line feed
run_ends : (r : List ℕ) → ends_line (drop (prefix_len is_not_feed r) r) ≡ true
run_ends [] = refl
run_ends (c ∷ r) = ends_step c r (prefix_len is_not_feed r) (eqb c 10) refl (run_ends r)

abbrev CommentOf : List ℕ → ℕ → Type 0
CommentOf s n = (0 < n) × IsComment (take n s) (drop n s)

two_front : (r : List ℕ) → CommentOf (47 ∷ 47 ∷ r) (prefix_len is_not_feed (47 ∷ 47 ∷ r))
two_front r =
    let n = prefix_len is_not_feed r in
    let k : suc (suc n) ≡ 1 + (1 + n) = omega arith in
    subst (CommentOf (47 ∷ 47 ∷ r)) k (omega arith, (take n r, refl, run_passes is_not_feed r, run_ends r))

comment_run : (s : List ℕ) → begins_comment s ≡ true → CommentOf s (prefix_len is_not_feed s)
comment_run [] h = absurd (cc)
comment_run (x ∷ []) h = let k : eqb 0 47 ≡ true = and_right (eqb x 47) _ h in absurd (cc)
comment_run (x ∷ y ∷ r) h =
    let a = eqb-true x 47 (and_left _ _ h) in
    let b = eqb-true y 47 (and_right _ _ h) in
    subst (λ q. CommentOf (q ∷ y ∷ r) (prefix_len is_not_feed (q ∷ y ∷ r))) (sym a)
    (subst (λ q. CommentOf (47 ∷ q ∷ r) (prefix_len is_not_feed (47 ∷ q ∷ r))) (sym b) (two_front r))

pub comment_part : (s : List ℕ) (n : ℕ) → n ≡ prefix_len is_not_feed s → begins_comment s ≡ true
    → IsGapPart s (Some (record { comment = true; len = n }))
comment_part s n e h =
    let c = subst (CommentOf s) (sym e) (comment_run s h) in
    (c.0, omega (arith, e, run_within is_not_feed s), c.1)

-- ---- neither

pub no_part : (s : List ℕ) (n : ℕ) → n ≡ prefix_len is_blank s → n ≡ 0 → begins_comment s ≡ false → no_gap s ≡ true
no_part [] n e z h = refl
no_part (c ∷ r) n e z h = ap not (ap (λ b. b || (eqb c 47 && eqb (get_or r 0 0) 47)) (no_run (is_blank c) refl) ∙ h)
  where
    no_run : (b : Bool) → is_blank c ≡ b → is_blank c ≡ false
    no_run false k = k
    no_run true k = let one : n ≡ 1 + prefix_len is_blank r = e ∙ rw k refl in absurd (omega (arith, one, z))

-- ---- what is skipped

past_blanks : (w rest : List ℕ) → list_all is_blank w ≡ true
    → skipped false (w ++ rest) ≡ skipped false rest
past_blanks [] rest h = refl
past_blanks (c ∷ w) rest h = past_blank c (w ++ rest) (and_left _ _ h) ∙ past_blanks w rest (and_right (is_blank c) _ h)

past_comment : (w rest : List ℕ) → IsComment w rest → skipped false (w ++ rest) ≡ skipped false rest
past_comment w rest m = ap (λ l. skipped false (l ++ rest)) m.1 ∙ past_body m.0 rest m.2 m.3

past_parts : (b : Bool) (p rest : List ℕ) → IsPart b p rest → skipped false (p ++ rest) ≡ skipped false rest
past_parts true p rest h = past_comment p rest h
past_parts false p rest h = past_blanks p rest h.0

pub past_part : (s : List ℕ) (part : GapPart) → IsGapPart s (Some part) → skipped false (drop part.len s) ≡ skipped false s
past_part s part h =
    sym (ap (skipped false) (sym (take-append-drop part.len s)) ∙ past_parts part.comment (take part.len s) (drop part.len s) h.2)
