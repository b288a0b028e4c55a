-- The comments and blanks in front of a token, one after the other.
use Rattle.std.proofs.Common.{◌≡◌, ℕ, ◌+◌, ◌≤◌, List, [], ◌∷◌, ◌++◌, Bool, true, false, Some, cond, length, take, drop, refl, sym, ap, ◌∙◌}
use Rattle.std.proofs.Common.{subst, arith, inr, append_assoc, append-nil, take-append-drop, add-zero}
use Rattle.std.proofs.lemmas.List.{drop-drop}
use Rattle.std.specs.List.{list_all}
use Rattle.hare_tree.specs.Words.{is_blank}
use Rattle.hare_tree.specs.Tokens.{Gap, IsComment, no_gap}
use Rattle.hare_lex.specs.declared.gap.GapPart.{GapPart}
use Rattle.hare_lex.specs.Fronts.{IsPart, IsGapPart}
use Rattle.hare_lex.specs.Lexing.{skipped}
use Rattle.hare_lex.proofs.Fronts.Standing.{len_front}
use Rattle.hare_lex.proofs.Turns.Gaps.{gap_is}
use Rattle.hare_pieces.specs.declared.piece.Piece.{Piece}
use Rattle.hare_pieces.specs.Pieces.{ConsistsOf}
use Rattle.hare_pieces.specs.Walk.{Leads, with_part}
use Rattle.hare_pieces.proofs.OneList.Fronts.{blank_front, comment_front, blank_gap}

pub leads_start : (at : ℕ) (s : List ℕ) (old : List Piece) → Leads at s old old 0
leads_start at s old = record {
  found = [];
  new_is = sym (append-nil old);
  goes_on = λ b ts more c. subst (λ n. ConsistsOf n b s ts more) (add-zero at) c;
  gap = λ parts left g. (parts, g);
}

-- n bytes are passed, and k more, which are a part of the gap
record Passes (at : ℕ) (s : List ℕ) (old new : List Piece) (n k m : ℕ) : Type 0 where
  leads : Leads at s old new n
  within : k ≤ length (drop n s)
  m_is : m ≡ n + k

-- the text behind
behind_part : (s : List ℕ) (n k m : ℕ) → m ≡ n + k → drop m s ≡ drop k (drop n s)
behind_part s n k m e = ap (λ i. drop i s) e ∙ sym (drop-drop k n s)

-- blanks are passed
leads_blank : (at : ℕ) (s : List ℕ) (old new : List Piece) (n k m : ℕ) → Passes at s old new n k m
    → list_all is_blank (take k (drop n s)) ≡ true → Leads at s old new m
leads_blank at s old new n k m p h =
    let d = drop n s in
    let behind = behind_part s n k m p.m_is in
    let at_is : at + m ≡ (at + n) + length (take k d) = omega (arith, p.m_is, len_front k d p.within) in
    record {
      found = p.leads.found;
      new_is = p.leads.new_is;
      goes_on = λ b ts more c.
          let here = subst (λ l. ConsistsOf (at + m) b l ts more) behind c in
          let moved = subst (λ i. ConsistsOf i b (drop k d) ts more) at_is here in
          p.leads.goes_on b ts more (subst (λ l. ConsistsOf (at + n) b l ts more) (take-append-drop k d)
          (blank_front (at + n) b (take k d) (drop k d) ts more h moved));
      gap = λ parts left g.
          let w = blank_gap (take k d) (drop k d) left parts h (subst (λ l. Gap parts l left) behind g) in
          p.leads.gap w.0 left (subst (λ l. Gap w.0 l left) (take-append-drop k d) w.1);
    }

-- a comment is put
leads_comment : (at : ℕ) (s : List ℕ) (old new : List Piece) (n k m : ℕ) → Passes at s old new n k m
    → IsComment (take k (drop n s)) (drop k (drop n s))
    → Leads at s old (new ++ record { from = at + n; to = (at + n) + k; comment = true } ∷ []) m
leads_comment at s old new n k m p h =
    let d = drop n s in
    let to = (at + n) + k in
    let piece : Piece = record { from = at + n; to = to; comment = true } in
    let behind = behind_part s n k m p.m_is in
    let to_is : to ≡ (at + n) + length (take k d) = omega (arith, len_front k d p.within) in
    let at_is : at + m ≡ to = omega (arith, p.m_is) in
    record {
      found = p.leads.found ++ piece ∷ [];
      new_is = ap (λ l. l ++ piece ∷ []) p.leads.new_is ∙ append_assoc old p.leads.found (piece ∷ []);
      goes_on = λ b ts more c.
          let here = subst (λ l. ConsistsOf to b l ts more) behind (subst (λ i. ConsistsOf i b (drop m s) ts more) at_is c) in
          let one = comment_front (at + n) to b (take k d) (drop k d) ts more h to_is here in
          subst (λ l. ConsistsOf at b s ts l) (sym (append_assoc p.leads.found (piece ∷ []) more))
          (p.leads.goes_on b ts (piece ∷ more) (subst (λ l. ConsistsOf (at + n) b l ts (piece ∷ more)) (take-append-drop k d) one));
      gap = λ parts left g.
          p.leads.gap (take k d ∷ parts) left (drop k d, sym (take-append-drop k d), inr h, subst (λ l. Gap parts l left) behind g);
    }

-- a part of the gap is passed
pub leads_part : (at : ℕ) (s : List ℕ) (old new next : List Piece) (n m : ℕ) (part : GapPart) → Leads at s old new n
    → IsGapPart (drop n s) (Some part) → m ≡ n + part.len → next ≡ with_part (at + n) part new → Leads at s old next m
leads_part at s old new next n m part r h e w = subst (λ l. Leads at s old l m) (sym w) (by_sort part.comment h.2)
  where
    passes : Passes at s old new n part.len m
    passes = record { leads = r; within = h.1; m_is = e }

    by_sort : (b : Bool) → IsPart b (take part.len (drop n s)) (drop part.len (drop n s))
        → Leads at s old (cond b (new ++ record { from = at + n; to = (at + n) + part.len; comment = true } ∷ []) new) m
    by_sort true i = leads_comment at s old new n part.len m passes i
    by_sort false i = leads_blank at s old new n part.len m passes i.0

-- what has been passed is what a lexer skips
pub leads_skip : (at : ℕ) (s : List ℕ) (old new : List Piece) (n : ℕ) → Leads at s old new n → no_gap (drop n s) ≡ true
    → skipped false s ≡ drop n s
leads_skip at s old new n r h = let g = r.gap [] (drop n s) (refl, h) in gap_is g.0 s (drop n s) g.1
