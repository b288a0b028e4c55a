-- Texts made of blanks, comments and tokens, and what is read of them.
use Rattle.std.specs.Prelude.{◌≡◌, ℕ, ◌+◌, List, [], ◌∷◌, ◌++◌, ◌⊎◌, Bool, true, false, map, length, if◌then◌else◌}
use Rattle.hare_tree.specs.declared.token.Token.{Token}
use Rattle.hare_tree.specs.Tokens.{IsComment, Stands, is_path_mark, no_gap}
use Rattle.hare_pieces.specs.declared.piece.Piece.{Piece}
use Rattle.hare_pieces.specs.Pieces.{are_blank, ConsistsOf}
use Rattle.hare_lines.specs.Read.{Seen, seen_from, feeds_in, trimmed}

-- ---- texts

-- blanks, and a token or a comment behind them
pub record Part : Type 0 where
  pub blank : List ℕ
  pub body : List ℕ
  pub comment : Bool

-- the parts one behind the other, and what stands at the end
abbrev pub text_of : List Part → List ℕ → List ℕ
text_of [] end = end
text_of (x ∷ xs) end = x.blank ++ (x.body ++ text_of xs end)

-- Behind a `::` or not, each part is blanks and a comment there, or blanks and the next of these tokens, which stands in front of all that
-- is behind it.
abbrev pub AreParts : Bool → List Part → List ℕ → List Token → Type 0
AreParts behind_path [] end ts = (ts ≡ []) × (are_blank end ≡ true)
AreParts behind_path (x ∷ xs) end ts =
    (are_blank x.blank ≡ true)
    × (((x.comment ≡ true) × IsComment x.body (text_of xs end) × AreParts behind_path xs end ts)
    ⊎ ((t : Token) × (more : List Token) × (x.comment ≡ false) × (ts ≡ t ∷ more) × (no_gap (x.body ++ text_of xs end) ≡ true)
    × Stands behind_path t x.body (text_of xs end) × AreParts (is_path_mark t.kind t.text) xs end more))

-- ---- what is read

-- where the parts stand behind `at` bytes
abbrev pub places : ℕ → List Part → List Piece
places at [] = []
places at (x ∷ xs) =
    record { from = at + length x.blank; to = at + length x.blank + length x.body; comment = x.comment }
    ∷ places (at + length x.blank + length x.body) xs

-- a part as it is read
abbrev pub read_of : Part → Seen
read_of x = record { feeds = feeds_in x.blank; body = if x.comment then trimmed x.body else x.body; comment = x.comment }

-- A text of such parts consists of just these pieces, and they are read as the parts are.
pub record PartsAreRead (behind_path : Bool) (before : List ℕ) (xs : List Part) (end : List ℕ) (ts : List Token) : Type 0 where
  pub consists : ConsistsOf (length before) behind_path (text_of xs end) ts (places (length before) xs)
  pub seen : seen_from (before ++ text_of xs end) (length before) (places (length before) xs) ≡ map read_of xs

abbrev pub TextsAreRead : Type 0
TextsAreRead =
    (behind_path : Bool) (before : List ℕ) (xs : List Part) (end : List ℕ) (ts : List Token) → AreParts behind_path xs end ts
    → PartsAreRead behind_path before xs end ts
