-- The commas that a layout adds: among ways, and behind the last items of trees.
use Rattle.std.specs.Prelude.{◌≡◌, ℕ, List, [], ◌∷◌, ◌++◌, Bool, true, false, ◌||◌, ◌==◌, map, drop, slice_index}
use Rattle.hare_ways.specs.declared.way.Start.TheVariants.{Within}
use Rattle.hare_ways.specs.declared.way.Way.{Way}
use Rattle.hare_tree.specs.declared.token.TokenKind.TheVariants as tk
use Rattle.hare_tree.specs.declared.token.Token.{Token}
use Rattle.hare_tree.specs.declared.form.Sign.TheVariants as si
use Rattle.hare_tree.specs.declared.kind.Kind.{Kind}
use Rattle.hare_tree.specs.declared.kind.Kind.TheVariants as ki
use Rattle.hare_tree.specs.declared.tree.FileTree.{FileTree}
use Rattle.hare_tree.specs.Node.{Head, Node, Nodes, branch, none, more}
use Rattle.hare_tree.specs.Shape.{is_shaped_file}
use Rattle.hare_tree.specs.Spell.{sign_token, spell_file}
use Rattle.hare_tree.specs.Depth.{fits_file}
use Rattle.hare_ways.specs.Ways.{file_ways}

-- ---- ways

-- the way of a comma in front of a closing bracket with this depth
abbrev pub comma_way : ℕ → Way
comma_way depth = record { start = Within; depth = depth; joins_before = true; joins_behind = false; comma = false }

-- the same way, but that no comma is added
abbrev pub settled : Way → Way
settled w = record { start = w.start; depth = w.depth; joins_before = w.joins_before; joins_behind = w.joins_behind; comma = false }

abbrev pub comma_ways : Bool → ℕ → List Way
comma_ways true depth = comma_way depth ∷ []
comma_ways false depth = []

-- the ways of tokens among which each comma that is added stands as a token
abbrev pub with_commas : List Way → List Way
with_commas [] = []
with_commas (w ∷ ws) = comma_ways w.comma w.depth ++ settled w ∷ with_commas ws

-- ---- tokens

abbrev pub comma_tokens : Bool → List Token
comma_tokens true = sign_token 0 si.Comma ∷ []
comma_tokens false = []

-- the tokens that have these ways, with each comma that is added among them
abbrev pub tokens_with : List Way → List Token → List Token
tokens_with [] ts = ts
tokens_with (w ∷ ws) [] = []
tokens_with (w ∷ ws) (t ∷ ts) = comma_tokens w.comma ++ t ∷ tokens_with ws ts

-- ---- marks

-- a mark that is no slash, so that it begins no comment
abbrev pub IsPlainMark : Token → Type 0
IsPlainMark t = (t.kind ≡ tk.Mark) × ((slice_index t.text 0 == 47) ≡ false)

-- a comma is added in front of the token, or on one of its sides no blank is to stand
abbrev pub asks : Way → Bool
asks w = w.comma || w.joins_before || w.joins_behind

-- each of these ways that asks so is that of such a mark
abbrev pub AreMarks : List Way → List Token → Type 0
AreMarks [] ts = Unit {0}
AreMarks (w ∷ ws) [] = Unit {0}
AreMarks (w ∷ ws) (t ∷ ts) = (asks w ≡ true → IsPlainMark t) × AreMarks ws ts

-- No blank is left out but beside a mark, and no comma is added but in front of one.
abbrev pub WaysAskAtMarks : Type 0
WaysAskAtMarks = (cs : List ℕ) (tree : FileTree) → tree.file ≡ 0 → AreMarks (file_ways cs tree) (spell_file tree)

-- ---- comments

-- how many tokens a comma is that is added or not
abbrev pub comma_count : Bool → ℕ
comma_count true = 1
comma_count false = 0

-- So many comments stand in front of each token with these ways, and so many in front of the same tokens where each comma that is added
-- is a token too. How many stand in front of such a comma is left open.
abbrev pub AreSpread : List Way → List ℕ → List ℕ → Type 0
AreSpread [] cs ds = Unit {0}
AreSpread (w ∷ ws) [] ds = ds ≡ []
AreSpread (w ∷ ws) (c ∷ cs) ds = (es : List ℕ) × (drop (comma_count w.comma) ds ≡ c ∷ es) × AreSpread ws cs es

-- ---- trees

-- nothing in the place of a comma behind the last item of a list
abbrev pub without_comma : Kind → Kind
without_comma ki.TrailingComma = ki.None
without_comma k = k

abbrev pub head_without : Head → Head
head_without h = record { kind = without_comma h.kind; place = h.place; text = h.text; number = h.number; suffix = h.suffix }

abbrev mutual
  -- the tree without the commas behind the last items of its lists
  pub without_commas : Node → Node
  without_commas (branch h ts) = branch (head_without h) (kids_without ts)

  pub kids_without : Nodes → Nodes
  kids_without none = none
  kids_without (more t ts) = more (without_commas t) (kids_without ts)

-- the same of a file
abbrev pub file_without : FileTree → FileTree
file_without t = record { file = t.file; uses = map without_commas t.uses; decls = map without_commas t.decls }

-- A file again: its tree is the same but for commas behind last items. It is spelled by the same tokens, with each comma that was added
-- among them, and their ways are the same, but that none is added any more. It is in the language where the file was.
pub record IsAgain (cs ds : List ℕ) (tree : FileTree) : Type 0 where
  pub again : FileTree
  pub same : file_without again ≡ file_without tree
  pub fits : fits_file tree ≡ true → fits_file again ≡ true
  pub ways_are : file_ways ds again ≡ with_commas (file_ways cs tree)
  pub spelled : tree.file ≡ 0 → spell_file again ≡ tokens_with (file_ways cs tree) (spell_file tree)

-- the commas that are added to a file may stand in its tree
abbrev pub CommasStandInTrees : Type 0
CommasStandInTrees =
    (cs ds : List ℕ) (tree : FileTree) → is_shaped_file tree ≡ true → AreSpread (file_ways cs tree) cs ds → IsAgain cs ds tree
