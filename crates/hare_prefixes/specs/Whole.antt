-- Whole files: the run over a file's tokens, of which strings side by side are one, is done in front of End alone exactly where the tokens
-- are those of a shaped file.
use Rattle.std.specs.Prelude.{◌≡◌, ℕ, List, [], ◌∷◌, ◌++◌, true}
use Rattle.hare_tree.specs.declared.token.TokenKind.TheVariants as tk
use Rattle.hare_tree.specs.declared.token.Token.{Token}
use Rattle.hare_tree.specs.declared.tree.FileTree.{FileTree}
use Rattle.hare_tree.specs.Spell.{start_of, word_token, spell_file}
use Rattle.hare_tree.specs.Shape.{is_shaped_file}
use Rattle.hare_tree.specs.Grammar.{Spells, FileHasPlaces, unplaced, joined}
use Rattle.hare_automaton.specs.Engine.{Group, begun, Done, run, bottom}
use Rattle.hare_automaton.specs.OneTree.{file_symbols}

-- the shaped tree that spells the tokens of the file and has their places, whatever its depth
pub record SpellsFile (file : ℕ) (ts : List Token) (tree : FileTree) : Type 0 where
  pub file_is : tree.file ≡ file
  pub shaped : is_shaped_file tree ≡ true
  pub spelled : Spells (spell_file tree) ts
  pub placed : FileHasPlaces ts tree

-- the run is done in front of one token, which is End
pub record IsWhole (file : ℕ) (ts : List Token) (made : List Group) : Type 0 where
  pub end : Token
  pub done : run file (joined ts) file_symbols bottom ≡ Done (end ∷ []) made
  pub is_end : unplaced end ≡ word_token 0 tk.End []

-- there is such a run
pub record HasWholeRun (file : ℕ) (ts : List Token) : Type 0 where
  pub made : List Group
  pub whole : IsWhole file ts made

-- the tree that such a run has made
pub record MakesFile (file : ℕ) (ts : List Token) (made : List Group) : Type 0 where
  pub tree : FileTree
  pub spells : SpellsFile file ts tree
  pub is_made : made ≡ begun (start_of 0) (tree.uses ++ tree.decls) ∷ []

abbrev pub WholeRunsMakeFiles : Type 0
WholeRunsMakeFiles =
    (file : ℕ) (ts : List Token) (made : List Group) → IsWhole file ts made → MakesFile file ts made

abbrev pub FilesHaveWholeRuns : Type 0
FilesHaveWholeRuns =
    (file : ℕ) (ts : List Token) (tree : FileTree) → is_shaped_file tree ≡ true → Spells (spell_file tree) ts → HasWholeRun file ts
