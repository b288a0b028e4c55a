-- What stands in front of a text that consists of pieces.
use Rattle.std.proofs.Common.{◌≡◌, ℕ, ◌+◌, List, [], ◌∷◌, ◌++◌, Bool, true, false, length, refl, sym, ap, ◌∙◌, arith, inl, inr}
use Rattle.std.proofs.Common.{append_assoc, length-append}
use Rattle.std.proofs.lemmas.List.Folds.{list_all-append}
use Rattle.hare_tree.specs.declared.token.Token.{Token}
use Rattle.hare_tree.specs.Words.{is_blank}
use Rattle.hare_tree.specs.Tokens.{IsComment, Stands, Gap, is_path_mark, no_gap}
use Rattle.hare_pieces.specs.declared.piece.Piece.{Piece}
use Rattle.hare_pieces.specs.Pieces.{ConsistsOf, are_blank}
use Rattle.hare_lex.proofs.Fronts.Lists.{and_left, and_right, and_both}

all_both : (a b : List ℕ) → are_blank a ≡ true → are_blank b ≡ true → are_blank (a ++ b) ≡ true
all_both a b h k = list_all-append is_blank a b ∙ and_both _ _ h k

-- blanks
pub blank_front : (at : ℕ) (b : Bool) (blank text : List ℕ) (ts : List Token) (ps : List Piece) → are_blank blank ≡ true
    → ConsistsOf (at + length blank) b text ts ps → ConsistsOf at b (blank ++ text) ts ps
blank_front at b blank text ts [] h c = (c.0, all_both blank text h c.1)
blank_front at b blank text ts (p ∷ ps) h c =
    let from : p.from ≡ at + length (blank ++ c.0) = omega (arith, c.5, length-append blank c.0) in
    (blank ++ c.0, c.1, c.2, ap (λ l. blank ++ l) c.3 ∙ sym (append_assoc blank c.0 (c.1 ++ c.2)), all_both blank c.0 h c.4, from, c.6, c.7)

-- a comment
pub comment_front : (at to : ℕ) (b : Bool) (s rest : List ℕ) (ts : List Token) (ps : List Piece) → IsComment s rest → to ≡ at + length s
    → ConsistsOf to b rest ts ps → ConsistsOf at b (s ++ rest) ts (record { from = at; to = to; comment = true } ∷ ps)
comment_front at to b s rest ts ps k e c =
    let from : at ≡ at + length {A = ℕ} [] = omega arith in
    ([], s, rest, refl, refl, from, e, inl (refl, k, c))

-- a token
pub token_front : (at to : ℕ) (b : Bool) (t : Token) (s rest : List ℕ) (ts : List Token) (ps : List Piece) → no_gap (s ++ rest) ≡ true
    → Stands b t s rest → to ≡ at + length s → ConsistsOf to (is_path_mark t.kind t.text) rest ts ps
    → ConsistsOf at b (s ++ rest) (t ∷ ts) (record { from = at; to = to; comment = false } ∷ ps)
token_front at to b t s rest ts ps k st e c =
    let from : at ≡ at + length {A = ℕ} [] = omega arith in
    ([], s, rest, refl, refl, from, e, inr (t, ts, refl, refl, k, st, c))

-- blanks in front of a gap
pub blank_gap : (blank text left : List ℕ) (parts : List (List ℕ)) → are_blank blank ≡ true → Gap parts text left
    → (whole : List (List ℕ)) × Gap whole (blank ++ text) left
blank_gap [] text left parts h g = (parts, g)
blank_gap (c ∷ blank) text left parts h g =
    let w = blank_gap blank text left parts (and_right _ _ h) g in
    ((c ∷ []) ∷ w.0, (blank ++ text, refl, inl (c, refl, and_left _ _ h), w.1))
