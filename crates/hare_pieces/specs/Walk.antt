-- What the private functions of the walk over a text speak of. No public clause cites it.
use Rattle.std.specs.Prelude.{◌≡◌, ℕ, ◌+◌, List, [], ◌∷◌, ◌++◌, Bool, true, drop, if◌then◌else◌}
use Rattle.hare_tree.specs.declared.token.Token.{Token}
use Rattle.hare_tree.specs.Tokens.{Gap}
use Rattle.hare_lex.specs.declared.gap.GapPart.{GapPart}
use Rattle.hare_pieces.specs.declared.piece.Piece.{Piece}
use Rattle.hare_pieces.specs.Pieces.{ConsistsOf}

-- the pieces with this part of a gap, if it is a comment
abbrev pub with_part : ℕ → GapPart → List Piece → List Piece
with_part at part old = if part.comment then old ++ record { from = at; to = at + part.len; comment = true } ∷ [] else old

-- The pieces found at the front of a text, which begins behind `at` bytes of the file, are put behind the old ones: the first n bytes are
-- these pieces and blanks, and a gap.
pub record Leads (at : ℕ) (s : List ℕ) (old new : List Piece) (n : ℕ) : Type 0 where
  pub found : List Piece
  pub new_is : new ≡ old ++ found
  pub goes_on : (b : Bool) (ts : List Token) (more : List Piece) → ConsistsOf (at + n) b (drop n s) ts more
      → ConsistsOf at b s ts (found ++ more)
  pub gap : (parts : List (List ℕ)) (left : List ℕ) → Gap parts (drop n s) left → (whole : List (List ℕ)) × Gap whole s left
