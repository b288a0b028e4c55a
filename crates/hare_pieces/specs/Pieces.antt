-- The pieces of a text: its tokens and comments, in order, by their bytes.
--
-- Blanks stand between pieces. A piece is a comment, from `//` to before the end of its line, or it spells the next token of the text:
-- the longest that fits, at a place where neither a blank nor a comment begins. So there is one piece for each token, also for strings side
-- by side, and one for each comment.
use Rattle.std.specs.Prelude.{◌≡◌, ℕ, ◌+◌, List, [], ◌∷◌, ◌++◌, Bool, true, false, length, ◌⊎◌}
use Rattle.std.specs.List.{list_all}
use Rattle.hare_tree.specs.declared.token.Token.{Token}
use Rattle.hare_tree.specs.Words.{is_blank}
use Rattle.hare_tree.specs.Tokens.{IsTokens, IsComment, Stands, is_path_mark, no_gap}
use Rattle.hare_tree.specs.Grammar.{before_end}
use Rattle.hare_pieces.specs.declared.piece.Piece.{Piece}

-- all bytes are blanks
abbrev pub are_blank : List ℕ → Bool
are_blank s = list_all is_blank s

-- Behind so many bytes of the file stands this text, which consists of these pieces and of blanks around them: those that are no comments
-- spell these tokens, one each, and the token before the first is `::` or not.
abbrev pub ConsistsOf : ℕ → Bool → List ℕ → List Token → List Piece → Type 0
ConsistsOf at behind_path text ts [] = (ts ≡ []) × (are_blank text ≡ true)
ConsistsOf at behind_path text ts (p ∷ ps) =
    (blank s rest : List ℕ) × (text ≡ blank ++ (s ++ rest)) × (are_blank blank ≡ true) × (p.from ≡ at + length blank)
    × (p.to ≡ p.from + length s)
    × (((p.comment ≡ true) × IsComment s rest × ConsistsOf p.to behind_path rest ts ps)
    ⊎ ((t : Token) × (more : List Token) × (p.comment ≡ false) × (ts ≡ t ∷ more) × (no_gap (s ++ rest) ≡ true) × Stands behind_path t s rest
    × ConsistsOf p.to (is_path_mark t.kind t.text) rest more ps))

-- the text has tokens without a fault
abbrev pub HasTokens : List ℕ → Type 0
HasTokens text = (ts : List Token) × IsTokens 0 text ts

-- these are the pieces of the text: they spell its tokens, but for End, and are its comments
pub record ArePieces (text : List ℕ) (ps : List Piece) : Type 0 where
  pub tokens : List Token
  pub are : IsTokens 0 text tokens
  pub consists : ConsistsOf 0 false text (before_end tokens) ps

-- a text has one list of pieces
abbrev pub OneListOfPieces : Type 0
OneListOfPieces = (text : List ℕ) (ps qs : List Piece) → ArePieces text ps → ArePieces text qs → ps ≡ qs
