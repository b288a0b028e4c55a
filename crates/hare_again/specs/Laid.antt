-- The layout of a layout: that it is laid out itself, and what it keeps of its source.
use Rattle.std.specs.Prelude.{◌≡◌, List, ℕ, map, false}
use Rattle.hare_tree.specs.declared.token.Token.{Token}
use Rattle.hare_tree.specs.Spell.{spell_file}
use Rattle.hare_commas.specs.Commas.{file_without}
use Rattle.hare_lines.specs.Read.{seen}
use Rattle.hare_lines.specs.Layout.{IsLaidOut}
use Rattle.hare_again.specs.Again.{layout_seen, comments_of}
use Rattle.hare_again.specs.Reading.{Part, text_of, AreParts, read_of}

-- A layout consists of blanks, comments and tokens, each of which stands in front of all that is behind it; and they are read as the pieces
-- of the layout.
pub record HasParts (src text : List ℕ) (l : IsLaidOut src text) : Type 0 where
  pub parts : List Part
  pub end : List ℕ
  pub tokens : List Token
  pub text_is : text ≡ text_of parts end
  pub are : AreParts false parts end tokens
  pub read : map read_of parts ≡ layout_seen l.tree (seen src l.pieces)

abbrev pub LayoutsHaveParts : Type 0
LayoutsHaveParts = (src text : List ℕ) (l : IsLaidOut src text) → HasParts src text l

-- A layout is the layout of itself: so it has tokens and a tree. Its tokens are those of the source, with the commas behind last items of
-- lists left out on both sides; and its comments are those of the source, in order, without the blanks and the CR at their ends.
pub record IsKept (src text : List ℕ) (l : IsLaidOut src text) : Type 0 where
  pub again : IsLaidOut text text
  pub tokens : spell_file (file_without again.tree) ≡ spell_file (file_without l.tree)
  pub comments : comments_of (seen text again.pieces) ≡ comments_of (seen src l.pieces)

-- the text is the layout of the source, and keeps so much of it
abbrev pub Keeps : List ℕ → List ℕ → Type 0
Keeps src text = (l : IsLaidOut src text) × IsKept src text l

abbrev pub LayoutsAreLaidOut : Type 0
LayoutsAreLaidOut = (src text : List ℕ) (l : IsLaidOut src text) → IsKept src text l
