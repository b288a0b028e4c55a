-- The places of tokens: they are of the file, and stand in the order of the tokens.
use Rattle.std.specs.Prelude.{◌≡◌, ℕ, ◌≤◌, List, length, Bool, true, ◌&&◌, ◌||◌, ◌==◌, nat_lt, AllPairs}
use Rattle.std.specs.List.{list_all}
use Rattle.hare_tree.specs.declared.place.Place.{Place}
use Rattle.hare_tree.specs.declared.place.Fault.{Fault}
use Rattle.hare_tree.specs.declared.token.Token.{Token}
use Rattle.hare_tree.specs.declared.tree.FileTree.{FileTree}
use Rattle.hare_tree.specs.Tokens.{IsTokens, IsFirstBreak}
use Rattle.hare_tree.specs.Spell.{spell_file}
use Rattle.hare_tree.specs.Grammar.{joined, FileHasPlaces}

-- the first place stands before the second: in an earlier file, or there on an earlier line, or there in an earlier column
abbrev pub is_before : Place → Place → Bool
is_before p q =
    nat_lt p.file q.file || (p.file == q.file && (nat_lt p.line q.line || (p.line == q.line && nat_lt p.column q.column)))

-- all tokens are of the file
abbrev pub AreOfFile : ℕ → List Token → Type 0
AreOfFile file ts = list_all (λ t. t.place.file == file) ts ≡ true

-- each token stands before those behind it
abbrev pub Ascend : List Token → Type 0
Ascend ts = AllPairs (λ t u. is_before t.place u.place ≡ true) ts

-- the tokens are of the file, and stand in their order
pub record AreInOrder (file : ℕ) (ts : List Token) : Type 0 where
  pub of_file : AreOfFile file ts
  pub ascend : Ascend ts

-- the tokens of a file, and those that are kept before its first break
abbrev pub TokensAreInOrder : Type 0
TokensAreInOrder = (file : ℕ) (text : List ℕ) (ts : List Token) → IsTokens file text ts → AreInOrder file ts

abbrev pub KeptAreInOrder : Type 0
KeptAreInOrder =
    (file : ℕ) (text : List ℕ) (fault : Fault) (kept : List Token) → IsFirstBreak file text fault kept → AreInOrder file kept

-- The tree of a file stands over these tokens: they are the file's, in their order, and the tree has its places there. The tokens, joined,
-- are at least as many as those that the tree spells, since past the last of them there is no place to stand at.
pub record StandsOver (ts : List Token) (tree : FileTree) : Type 0 where
  pub in_order : AreInOrder tree.file ts
  pub placed : FileHasPlaces ts tree
  pub enough : length (spell_file tree) ≤ length (joined ts)
