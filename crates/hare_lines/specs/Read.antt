-- What is read of a file's text: its pieces with the line ends in front of them. Nothing else of the text has a part in its layout.
use Rattle.std.specs.Prelude.{ℕ, zero, suc, ◌+◌, List, [], ◌∷◌, Bool, true, ◌&&◌, ◌||◌, not, ◌==◌, count_by, slice_index, slice_range, if◌then◌else◌}
use Rattle.hare_tree.specs.Words.{is_blank}
use Rattle.hare_pieces.specs.declared.piece.Piece.{Piece}
use Rattle.hare_lines.specs.declared.way.Feeds.{Feeds}
use Rattle.hare_lines.specs.declared.way.Feeds.TheVariants.{Same, Next, Empty}

-- ---- line ends

-- no line end, one, or more of them
abbrev pub feeds_of : ℕ → Feeds
feeds_of zero = Same
feeds_of (suc zero) = Next
feeds_of (suc (suc n)) = Empty

-- the line ends among these bytes
abbrev pub feeds_in : List ℕ → Feeds
feeds_in between = feeds_of (count_by (λ c. c == 10) between)

-- ---- pieces

-- a byte in front of bytes, or nothing where it is a blank and they are none
abbrev pub before_blanks : ℕ → List ℕ → List ℕ
before_blanks c [] = if is_blank c then [] else c ∷ []
before_blanks c (d ∷ s) = c ∷ d ∷ s

-- without the blanks at the end
abbrev pub trimmed : List ℕ → List ℕ
trimmed [] = []
trimmed (c ∷ s) = before_blanks c (trimmed s)

-- a piece as it is read: the line ends in front of it, and its bytes, those of a comment without the blanks at its end
pub record Seen : Type 0 where
  pub feeds : Feeds
  pub body : List ℕ
  pub comment : Bool

-- the bytes of a piece as they are read
abbrev pub body_of : List ℕ → Piece → List ℕ
body_of text p = if p.comment then trimmed (slice_range text p.from p.to) else slice_range text p.from p.to

-- the piece behind these bytes of the text
abbrev pub seen_piece : List ℕ → ℕ → Piece → Seen
seen_piece text at p = record { feeds = feeds_in (slice_range text at p.from); body = body_of text p; comment = p.comment }

abbrev pub seen_from : List ℕ → ℕ → List Piece → List Seen
seen_from text at [] = []
seen_from text at (p ∷ ps) = seen_piece text at p ∷ seen_from text p.to ps

-- the pieces of a text
abbrev pub seen : List ℕ → List Piece → List Seen
seen text ps = seen_from text 0 ps

-- ---- tokens as the tree counts them: strings side by side are one

-- bytes that begin with a quote of a string
abbrev pub is_quoted : List ℕ → Bool
is_quoted body = slice_index body 0 == 34 || slice_index body 0 == 96

-- a token that is a string
abbrev pub is_string : Seen → Bool
is_string x = not x.comment && is_quoted x.body

-- How many comments stand in front of each of the tree's tokens, and in front of the end of the file. `n` stand in front of these pieces,
-- and the token before them is a string or not.
abbrev pub comments_before : ℕ → Bool → List Seen → List ℕ
comments_before n behind_string [] = n ∷ []
comments_before n behind_string (x ∷ xs) =
    if x.comment then comments_before (n + 1) behind_string xs
    else if behind_string && is_string x then comments_before n true xs
    else n ∷ comments_before n (is_string x) xs
