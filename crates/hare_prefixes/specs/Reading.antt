-- What a run that ends says: the tree that it has made is shaped, has the tokens that were used and their places.
use Rattle.std.specs.Prelude.{◌≡◌, ℕ, List, [], ◌∷◌, ◌++◌, true, map, length}
use Rattle.std.specs.List.{list_all}
use Rattle.hare_tree.specs.declared.token.Token.{Token}
use Rattle.hare_tree.specs.declared.form.Sort.{Sort}
use Rattle.hare_tree.specs.declared.form.Sort.TheVariants as so
use Rattle.hare_tree.specs.declared.form.Lead.TheVariants as le
use Rattle.hare_tree.specs.Node.{Node, nodes_of}
use Rattle.hare_tree.specs.Spell.{start_of, spell, spells, spell_all}
use Rattle.hare_tree.specs.Shape.{is_shaped}
use Rattle.hare_tree.specs.Depth.{begins_led}
use Rattle.hare_tree.specs.Grammar.{HasPlaces, HavePlaces, unplaced}
use Rattle.hare_automaton.specs.Rows.{of}
use Rattle.hare_automaton.specs.Engine.{Group, begun, add, Done, run, bottom}
use Rattle.hare_automaton.specs.OneTree.{file_symbols}

-- a shaped tree of the sort was read from the tokens in front of `rest`, with their places, and nothing else is under way
pub record ReadsTree (s : Sort) (file : ℕ) (ts rest : List Token) (made : List Group) : Type 0 where
  pub tree : Node
  pub used : List Token
  pub split : ts ≡ used ++ rest
  pub shaped : is_shaped s tree ≡ true
  pub spelled : spell 0 tree ≡ map unplaced used
  pub placed : HasPlaces file ts 0 tree
  pub is_made : made ≡ add tree bottom

-- imports, and behind them declarations, were read from the tokens in front of `rest`, with their places
pub record ReadsFile (file : ℕ) (ts rest : List Token) (made : List Group) : Type 0 where
  pub uses : List Node
  pub decls : List Node
  pub used : List Token
  pub split : ts ≡ used ++ rest
  pub uses_shaped : list_all (is_shaped so.Use) uses ≡ true
  pub decls_shaped : list_all (is_shaped so.Decl) decls ≡ true
  pub spelled : spell_all 0 uses ++ spell_all 0 decls ≡ map unplaced used
  pub uses_placed : HavePlaces file ts (begins_led le.Nothing 0 (spells 0 (nodes_of uses))) (nodes_of uses)
  pub decls_placed : HavePlaces file ts (begins_led le.Nothing (length (spell_all 0 uses)) (spells 0 (nodes_of decls))) (nodes_of decls)
  pub is_made : made ≡ begun (start_of 0) (uses ++ decls) ∷ []

-- where a run for a sort is done, it has read a tree of the sort
abbrev pub RunsReadTrees : Type 0
RunsReadTrees =
    (s : Sort) (file : ℕ) (ts rest : List Token) (made : List Group) → run file ts (of s ∷ []) bottom ≡ Done rest made →
    ReadsTree s file ts rest made

-- where a run for a file is done, it has read imports and declarations
abbrev pub RunsReadFiles : Type 0
RunsReadFiles =
    (file : ℕ) (ts rest : List Token) (made : List Group) → run file ts file_symbols bottom ≡ Done rest made → ReadsFile file ts rest made
