-- That the grammar has one tree for a list of tokens.
use Rattle.std.specs.Prelude.{◌≡◌, ℕ, List, [], ◌∷◌, map, Bool, true, false, nat_le}
use Rattle.hare_tree.specs.declared.token.Token.{Token}
use Rattle.hare_tree.specs.declared.form.Sort.{Sort}
use Rattle.hare_tree.specs.declared.form.Sort.TheVariants as so
use Rattle.hare_tree.specs.Node.{Head, Node, Nodes, branch, none, more}
use Rattle.hare_tree.specs.Spell.{start_of, spell, spell_file}
use Rattle.hare_tree.specs.Shape.{is_shaped, is_shaped_file}
use Rattle.hare_tree.specs.Grammar.{HasPlaces, IsTreeOf, IsFileTree}
use Rattle.hare_tree.specs.declared.tree.FileTree.{FileTree}
use Rattle.hare_automaton.specs.declared.rule.Rule.TheVariants as ru
use Rattle.hare_automaton.specs.declared.rule.Symbol.{Symbol}
use Rattle.hare_automaton.specs.Rows.{part}

-- The tree with all its places at the start of a file: what its tokens say of it. Two trees are equal but for places where this makes them
-- one.
abbrev pub plain_head : ℕ → Head → Head
plain_head f h = record { kind = h.kind; place = start_of f; text = h.text; number = h.number; suffix = h.suffix }

abbrev mutual
  pub plain : ℕ → Node → Node
  plain f (branch h ts) = branch (plain_head f h) (plains f ts)

  pub plains : ℕ → Nodes → Nodes
  plains f none = none
  plains f (more t ts) = more (plain f t) (plains f ts)

-- types, and the parts of types
abbrev pub is_sort_of_types : Sort → Bool
is_sort_of_types so.Type = true
is_sort_of_types so.BareType = true
is_sort_of_types so.Member = true
is_sort_of_types so.TypePath = true
is_sort_of_types so.Length = true
is_sort_of_types so.StructField = true
is_sort_of_types _ = false

-- All sorts but Left and Right, which say nothing by themselves, and level 0, which stands for what is no expression and admits every kind.
abbrev pub is_sort : Sort → Bool
is_sort (so.Level l) = nat_le 1 l
is_sort so.Left = false
is_sort so.Right = false
is_sort _ = true

-- two shaped trees of such a sort with the same tokens are equal but for places
abbrev pub SortsHaveOneTree : Type 0
SortsHaveOneTree =
    (f : ℕ) (s : Sort) → is_sort s ≡ true → (t t' : Node) → is_shaped s t ≡ true → is_shaped s t' ≡ true → spell f t ≡ spell f t' →
    plain f t ≡ plain f t'

-- Trees that are equal but for places are equal where both have the places of the same tokens.
abbrev pub PlacesDecideTrees : Type 0
PlacesDecideTrees =
    (f : ℕ) (ts : List Token) (n : ℕ) (t t' : Node) → plain 0 t ≡ plain 0 t' → HasPlaces f ts n t → HasPlaces f ts n t' → t ≡ t'

-- the tokens of a file are those of at most one tree of such a sort, places and all
abbrev pub TokensHaveOneTree : Type 0
TokensHaveOneTree =
    (s : Sort) → is_sort s ≡ true → (file : ℕ) (ts : List Token) (t t' : Node) → IsTreeOf s file ts t → IsTreeOf s file ts t' → t ≡ t'

-- ---- files

-- what a parser of files waits for: imports, and then declarations
abbrev pub file_symbols : List Symbol
file_symbols = part (ru.Each so.Use) ∷ part (ru.Each so.Decl) ∷ []

-- the file with all places at its start
abbrev pub plain_file : FileTree → FileTree
plain_file t = record { file = t.file; uses = map (plain t.file) t.uses; decls = map (plain t.file) t.decls }

-- two shaped files with the same number and the same tokens are equal but for places
abbrev pub FilesHaveOneTree : Type 0
FilesHaveOneTree =
    (t t' : FileTree) → t.file ≡ t'.file → is_shaped_file t ≡ true → is_shaped_file t' ≡ true → spell_file t ≡ spell_file t' →
    plain_file t ≡ plain_file t'

-- the tokens of a file are those of at most one tree of a file, places and all
abbrev pub TokensHaveOneFile : Type 0
TokensHaveOneFile =
    (file : ℕ) (ts : List Token) (t t' : FileTree) → IsFileTree file ts t → IsFileTree file ts t' → t ≡ t'
