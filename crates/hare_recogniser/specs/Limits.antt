-- What is answered of the limits on depth in the tokens of a list, and what it says of the trees that are read of them.
use Rattle.std.specs.Prelude.{◌≡◌, ℕ, ◌-◌, ◌<◌, ◌≤◌, List, [], ◌∷◌, ◌++◌, Option, Some, None}
use Rattle.hare_tree.specs.declared.token.Token.{Token}
use Rattle.hare_tree.specs.declared.form.Sort.{Sort}
use Rattle.hare_tree.specs.Node.{Node}
use Rattle.hare_tree.specs.Spell.{start_of}
use Rattle.hare_tree.specs.Depth.{deep_root}
use Rattle.hare_tree.specs.Grammar.{Language, files, IsDepthFault, joined}
use Rattle.hare_automaton.specs.Rows.{of}
use Rattle.hare_automaton.specs.Engine.{add, begun, Done, run, bottom}
use Rattle.hare_automaton.specs.OneTree.{file_symbols}
use Rattle.hare_nesting.specs.Depth.{closed}

-- The place in the list, which begins at `at`, of the first token at which a limit is passed; none where no limit is passed.
abbrev pub IsFirstDepth : {T : Type 0} → Language T → List Token → ℕ → Option ℕ → Type 0
IsFirstDepth l ts at None = (m : ℕ) → IsDepthFault l ts m → ⊥
IsFirstDepth l ts at (Some n) = (at ≤ n) × IsDepthFault l ts (n - at) × ((m : ℕ) → m < n - at → IsDepthFault l ts m → ⊥)

-- a tree that the machine has read, with End behind the tokens, keeps the limits
abbrev pub TreesFit : Sort → List Token → Type 0
TreesFit s ts =
    (file : ℕ) (rest : List Token) (tree : Node) → run file (joined (closed ts)) (of s ∷ []) bottom ≡ Done rest (add tree bottom) →
    deep_root tree ≡ []

-- and so does a file
abbrev pub FilesFit : List Token → Type 0
FilesFit ts =
    (file : ℕ) (rest : List Token) (uses decls : List Node) →
    run file (joined ts) file_symbols bottom ≡ Done rest (begun (start_of 0) (uses ++ decls) ∷ []) →
    files.deep_of (record { file = file; uses = uses; decls = decls }) ≡ []
