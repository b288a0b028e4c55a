-- The tokens of a file that a run has used, of which strings side by side are one.
use Rattle.std.specs.Prelude.{◌≡◌, ℕ, ◌<◌, List, [], ◌∷◌, true, take, length}
use Rattle.hare_tree.specs.declared.token.Token.{Token}
use Rattle.hare_tree.specs.declared.form.Sort.{Sort}
use Rattle.hare_tree.specs.Node.{Node}
use Rattle.hare_tree.specs.Spell.{spell}
use Rattle.hare_tree.specs.Shape.{is_shaped}
use Rattle.hare_tree.specs.Grammar.{Spells, HasPlaces, place_of, joined}
use Rattle.hare_automaton.specs.Rows.{of}
use Rattle.hare_automaton.specs.Engine.{Group, add, Done, run, bottom}

-- a shaped tree of the sort spells the first `count` tokens of the file and has their places, and the token `t` stands behind them
pub record UsesTokens (s : Sort) (file : ℕ) (ts : List Token) (t : Token) (made : List Group) : Type 0 where
  pub tree : Node
  pub count : ℕ
  pub within : count < length ts
  pub shaped : is_shaped s tree ≡ true
  pub spelled : Spells (spell 0 tree) (take count ts)
  pub placed : HasPlaces file (joined ts) 0 tree
  pub place : place_of ts count ≡ t.place
  pub is_made : made ≡ add tree bottom

abbrev pub RunsUseTokens : Type 0
RunsUseTokens =
    (s : Sort) (file : ℕ) (ts : List Token) (t : Token) (rest : List Token) (made : List Group) →
    run file (joined ts) (of s ∷ []) bottom ≡ Done (t ∷ rest) made → UsesTokens s file ts t made
