-- The first syntax fault at the tokens of the file themselves, of which the machine sees strings side by side as one.
use Rattle.std.specs.Prelude.{◌≡◌, ℕ, suc, ◌<◌, List, [], ◌∷◌, ◌++◌, true, take, length}
use Rattle.hare_tree.specs.declared.token.TokenKind.TheVariants as tk
use Rattle.hare_tree.specs.declared.token.Token.{Token}
use Rattle.hare_tree.specs.declared.form.Sort.{Sort}
use Rattle.hare_tree.specs.Node.{Node}
use Rattle.hare_tree.specs.Spell.{word_token, spell}
use Rattle.hare_tree.specs.Shape.{is_shaped}
use Rattle.hare_tree.specs.Grammar.{joined, StandsAt, unplaced, Spells, place_of, HasPlaces, trees_of, files, IsViable, IsSyntaxFault, IsRun}
use Rattle.hare_automaton.specs.Rows.{of}
use Rattle.hare_automaton.specs.Engine.{Group, add, Done, Fails, run, bottom}
use Rattle.hare_automaton.specs.OneTree.{file_symbols}
use Rattle.hare_prefixes.specs.Viable.{has_trees}

-- ---- where the joined tokens stand in the file

-- what is left of the joined tokens stands somewhere in the file
pub record Stands (ts us : List Token) : Type 0 where
  pub at : ℕ
  pub stands : StandsAt ts at us

abbrev pub AllStand : Type 0
AllStand = (ts before us : List Token) → joined ts ≡ before ++ us → Stands ts us

-- a joined token has the place of the file's token at which it stands
abbrev pub PlacesStand : Type 0
PlacesStand = (ts : List Token) (n : ℕ) (t : Token) (rest : List Token) → StandsAt ts n (t ∷ rest) → place_of ts n ≡ t.place

-- ---- sorts

-- where the run fails at a token, the first syntax fault of the file's tokens is there
abbrev pub RunsFault : Type 0
RunsFault =
    (s : Sort) → has_trees s ≡ true → (file : ℕ) (ts : List Token) (n : ℕ) (t : Token) (rest : List Token) →
    run file (joined ts) (of s ∷ []) bottom ≡ Fails (t ∷ rest) → StandsAt ts n (t ∷ rest) → IsSyntaxFault (trees_of s) ts n

-- and the tokens before it are those of no tree
abbrev pub RunsFaultInTrees : Type 0
RunsFaultInTrees =
    (s : Sort) → has_trees s ≡ true → (file : ℕ) (ts : List Token) (n : ℕ) (t : Token) (rest : List Token) →
    run file (joined ts) (of s ∷ []) bottom ≡ Fails (t ∷ rest) → StandsAt ts n (t ∷ rest) → (tree : Node) → is_shaped s tree ≡ true →
    Spells (spell 0 tree) (take n ts) → ⊥

-- a shaped tree of the sort spells the first `n` tokens of the file and has their places, and with the next they begin none
pub record ReadsFront (s : Sort) (file : ℕ) (ts : List Token) (n : ℕ) (made : List Group) : Type 0 where
  pub tree : Node
  pub shaped : is_shaped s tree ≡ true
  pub spelled : Spells (spell 0 tree) (take n ts)
  pub placed : HasPlaces file (joined (take n ts)) 0 tree
  pub is_made : made ≡ add tree bottom
  pub ends : IsSyntaxFault (trees_of s) ts n

-- where the run is done in front of a token, it has read the tokens before it, which are the longest front that begins a tree
abbrev pub RunsReadFronts : Type 0
RunsReadFronts =
    (s : Sort) → has_trees s ≡ true → (file : ℕ) (ts : List Token) (n : ℕ) (t : Token) (rest : List Token) (made : List Group) →
    run file (joined ts) (of s ∷ []) bottom ≡ Done (t ∷ rest) made → StandsAt ts n (t ∷ rest) → ReadsFront s file ts n made

-- where the tokens are used up, they begin a tree
abbrev pub RunsUseAll : Type 0
RunsUseAll =
    (s : Sort) → has_trees s ≡ true → (file : ℕ) (ts : List Token) → run file (joined ts) (of s ∷ []) bottom ≡ Fails [] →
    IsViable (trees_of s) ts

-- the first syntax fault ends the longest front that begins a tree
abbrev pub FaultsEndRuns : Type 0
FaultsEndRuns = (s : Sort) (ts : List Token) (n : ℕ) → IsSyntaxFault (trees_of s) ts n → IsRun (trees_of s) ts n

-- ---- files

abbrev pub FileRunsFault : Type 0
FileRunsFault =
    (file : ℕ) (ts : List Token) (n : ℕ) (t : Token) (rest : List Token) → run file (joined ts) file_symbols bottom ≡ Fails (t ∷ rest) →
    StandsAt ts n (t ∷ rest) → IsSyntaxFault files ts n

-- Imports and declarations are over at the token `t`. If it is not End, the fault is there; if it is, it makes the file whole, and the
-- fault is at the next token, where there is one.
pub record FileIsOver (ts : List Token) (n : ℕ) (t : Token) : Type 0 where
  pub no_end : (unplaced t ≡ word_token 0 tk.End [] → ⊥) → IsSyntaxFault files ts n
  pub whole : unplaced t ≡ word_token 0 tk.End [] → IsViable files (take (suc n) ts)
  pub more : unplaced t ≡ word_token 0 tk.End [] → suc n < length ts → IsSyntaxFault files ts (suc n)

abbrev pub FileRunsAreOver : Type 0
FileRunsAreOver =
    (file : ℕ) (ts : List Token) (n : ℕ) (t : Token) (rest : List Token) (made : List Group) →
    run file (joined ts) file_symbols bottom ≡ Done (t ∷ rest) made → StandsAt ts n (t ∷ rest) → FileIsOver ts n t

abbrev pub FileRunsUseAll : Type 0
FileRunsUseAll = (file : ℕ) (ts : List Token) → run file (joined ts) file_symbols bottom ≡ Fails [] → IsViable files ts

-- End is never used: a run over tokens that have one stops at a token
abbrev pub FileRunsUseNoEnd : Type 0
FileRunsUseNoEnd =
    (file : ℕ) (before : List Token) (t : Token) (rest : List Token) → unplaced t ≡ word_token 0 tk.End [] →
    run file (joined (before ++ t ∷ rest)) file_symbols bottom ≡ Fails [] → ⊥
