-- Which lists of tokens go on to a tree, and what a run says of that. A token that no tree is spelled by goes on to none.
use Rattle.std.specs.Prelude.{◌≡◌, ℕ, List, [], ◌∷◌, ◌++◌, Bool, true, false, ◌&&◌, nat_le, map}
use Rattle.hare_tree.specs.declared.token.Token.{Token}
use Rattle.hare_tree.specs.declared.form.Sort.{Sort}
use Rattle.hare_tree.specs.declared.form.Sort.TheVariants as so
use Rattle.hare_tree.specs.Node.{Node}
use Rattle.hare_tree.specs.declared.token.TokenKind.TheVariants as tk
use Rattle.hare_tree.specs.declared.tree.FileTree.{FileTree}
use Rattle.hare_tree.specs.Spell.{word_token, spell, spell_file}
use Rattle.hare_tree.specs.Shape.{is_shaped, is_shaped_file}
use Rattle.hare_tree.specs.Grammar.{unplaced}
use Rattle.hare_automaton.specs.Rows.{of}
use Rattle.hare_automaton.specs.Engine.{Group, Done, Fails, run, bottom}
use Rattle.hare_automaton.specs.OneTree.{file_symbols}

-- the tokens of some shaped tree of the sort begin with these, but for places
pub record BeginsTree (s : Sort) (front : List Token) : Type 0 where
  pub tree : Node
  pub behind : List Token
  pub shaped : is_shaped s tree ≡ true
  pub spelled : spell 0 tree ≡ map unplaced (front ++ behind)

-- the tokens up to the token `t` begin a tree of the sort, and with it they begin none
pub record BreaksAt (s : Sort) (ts : List Token) (t : Token) (rest : List Token) : Type 0 where
  pub before : List Token
  pub split : ts ≡ before ++ t ∷ rest
  pub begins : BeginsTree s before
  pub ends : BeginsTree s (before ++ t ∷ []) → ⊥

-- the sorts of which there are trees: no expression binds more tightly than 16
abbrev pub has_trees : Sort → Bool
has_trees (so.Level l) = nat_le 1 l && nat_le l 16
has_trees so.Left = false
has_trees so.Right = false
has_trees _ = true

-- where a run fails at a token, the tokens before it begin a tree, and with it they begin none
abbrev pub RunsBreak : Type 0
RunsBreak =
    (s : Sort) → has_trees s ≡ true → (file : ℕ) (ts : List Token) (t : Token) (rest : List Token) →
    run file ts (of s ∷ []) bottom ≡ Fails (t ∷ rest) → BreaksAt s ts t rest

-- Where a run is done in front of a token, the tokens with it begin no tree: those of the tree are the longest front of the tokens that
-- begins one.
abbrev pub RunsAreLongest : Type 0
RunsAreLongest =
    (s : Sort) → has_trees s ≡ true → (file : ℕ) (ts : List Token) (t : Token) (rest : List Token) (made : List Group) →
    run file ts (of s ∷ []) bottom ≡ Done (t ∷ rest) made → BreaksAt s ts t rest

-- where the tokens are used up, they begin a tree
abbrev pub RunsGoOn : Type 0
RunsGoOn =
    (s : Sort) → has_trees s ≡ true → (file : ℕ) (ts : List Token) → run file ts (of s ∷ []) bottom ≡ Fails [] → BeginsTree s ts

-- ---- files

-- the tokens of some shaped file begin with these, but for places
pub record BeginsFile (front : List Token) : Type 0 where
  pub tree : FileTree
  pub behind : List Token
  pub shaped : is_shaped_file tree ≡ true
  pub spelled : map unplaced (spell_file tree) ≡ map unplaced (front ++ behind)

-- the tokens up to the token `t` begin a file, and with it they begin none
pub record FileBreaksAt (ts : List Token) (t : Token) (rest : List Token) : Type 0 where
  pub before : List Token
  pub split : ts ≡ before ++ t ∷ rest
  pub begins : BeginsFile before
  pub ends : BeginsFile (before ++ t ∷ []) → ⊥

-- Imports and declarations are over at the token `t`: nothing but End goes on with them, and nothing stands behind End.
pub record FileEndsAt (ts : List Token) (t : Token) (rest : List Token) : Type 0 where
  pub before : List Token
  pub split : ts ≡ before ++ t ∷ rest
  pub begins : BeginsFile before
  pub is_end : BeginsFile (before ++ t ∷ []) → unplaced t ≡ word_token 0 tk.End []
  pub whole : unplaced t ≡ word_token 0 tk.End [] → BeginsFile (before ++ t ∷ [])
  pub nothing_behind : (u : Token) → BeginsFile (before ++ t ∷ u ∷ []) → ⊥

abbrev pub FileRunsBreak : Type 0
FileRunsBreak =
    (file : ℕ) (ts : List Token) (t : Token) (rest : List Token) → run file ts file_symbols bottom ≡ Fails (t ∷ rest) →
    FileBreaksAt ts t rest

abbrev pub FileRunsEnd : Type 0
FileRunsEnd =
    (file : ℕ) (ts : List Token) (t : Token) (rest : List Token) (made : List Group) →
    run file ts file_symbols bottom ≡ Done (t ∷ rest) made → FileEndsAt ts t rest

abbrev pub FileRunsGoOn : Type 0
FileRunsGoOn =
    (file : ℕ) (ts : List Token) → run file ts file_symbols bottom ≡ Fails [] → BeginsFile ts
