-- What the gauge says of a list of tokens: where the limits on depth are passed in every tree that goes on with what is read.
use Rattle.std.specs.Prelude.{◌≡◌, ℕ, suc, ◌≤◌, List, [], ◌∷◌, ◌++◌, true}
use Rattle.hare_tree.specs.declared.token.Token.{Token}
use Rattle.hare_tree.specs.declared.form.Sort.{Sort}
use Rattle.hare_tree.specs.Node.{Node}
use Rattle.hare_tree.specs.declared.token.TokenKind.TheVariants as tk
use Rattle.hare_tree.specs.Spell.{start_of, word_token}
use Rattle.hare_tree.specs.Depth.{deep_root}
use Rattle.hare_tree.specs.Grammar.{Language, trees_of, files, IsOn, IsDepthFault, joined}
use Rattle.hare_automaton.specs.Rows.{of}
use Rattle.hare_automaton.specs.Engine.{add, Done, run, bottom, begun}
use Rattle.hare_automaton.specs.OneTree.{file_symbols}
use Rattle.hare_prefixes.specs.Viable.{has_trees}
use Rattle.hare_nesting.specs.Gauge.{Gauged, gauge, seen, start}

-- tokens with End behind them
abbrev pub closed : List Token → List Token
closed ts = ts ++ word_token 0 tk.End [] ∷ []

-- Each token that is told is one at which a limit is passed, and the least such token of the list is told. Tokens are told by numbers from
-- 1.
pub record TellsDepth {T : Type 0} (l : Language T) (ts : List Token) (g : Gauged) : Type 0 where
  pub told : (n : ℕ) → IsOn (suc n) g.faults → IsDepthFault l ts n
  pub least : (n : ℕ) → IsDepthFault l ts n → (m : ℕ) × (m ≤ n) × IsOn (suc m) g.faults

abbrev pub gauged : Sort → List Token → Gauged
gauged s ts = gauge (seen ts) (of s ∷ []) start

abbrev pub gauged_file : List Token → Gauged
gauged_file ts = gauge (seen ts) file_symbols start

abbrev pub GaugesTell : Type 0
GaugesTell = (s : Sort) → has_trees s ≡ true → (ts : List Token) → TellsDepth (trees_of s) ts (gauged s ts)

abbrev pub FileGaugesTell : Type 0
FileGaugesTell = (ts : List Token) → TellsDepth files ts (gauged_file ts)

-- a tree that was read while nothing was told keeps the limits
abbrev pub GaugedTreesFit : Type 0
GaugedTreesFit =
    (s : Sort) → has_trees s ≡ true → (file : ℕ) (ts rest : List Token) (tree : Node) →
    run file (joined ts) (of s ∷ []) bottom ≡ Done rest (add tree bottom) → (gauged s ts).faults ≡ [] → deep_root tree ≡ []

abbrev pub GaugedFilesFit : Type 0
GaugedFilesFit =
    (file : ℕ) (ts rest : List Token) (uses decls : List Node) →
    run file (joined ts) file_symbols bottom ≡ Done rest (begun (start_of 0) (uses ++ decls) ∷ []) → (gauged_file ts).faults ≡ [] →
    files.deep_of (record { file = file; uses = uses; decls = decls }) ≡ []
