-- Local names: which trees bind one, where it is visible, and which of them a name means.
--
-- A local is visible from behind its whole binding to the end of its scope: a `let` or `const` behind its value, a parameter behind its
-- type, the binding of a `for` over items behind what it goes over, a `let` pattern in the statements of its case. Functions, blocks,
-- cases and whole `for`s are scopes.
use Rattle.std.specs.Prelude.{ℕ, ◌+◌, List, [], ◌∷◌, ◌++◌, Bool, true, false, Option, if◌then◌else◌}
use Rattle.hare_tree.specs.declared.kind.Kind.{Kind}
use Rattle.hare_tree.specs.declared.kind.Kind.TheVariants as ki
use Rattle.hare_tree.specs.Node.{Node, Nodes, branch, none, more}
use Rattle.hare_blocks.specs.Scopes.{number_of}

-- ---- scopes

-- a local: its name, and its number, which is how many bindings of its declaration stand before it
abbrev pub Local : Type 0
Local = List ℕ × ℕ

-- the locals of a scope, the newest first
abbrev pub Scope : Type 0
Scope = List Local

-- scopes within one another, the innermost first
abbrev pub Scopes : Type 0
Scopes = List Scope

abbrev pub entered : Scopes → Scopes
entered ss = [] ∷ ss

-- the innermost scope has these too, which are newer than its others
abbrev pub with_locals : List Local → Scopes → Scopes
with_locals ls [] = ls ∷ []
with_locals ls (s ∷ ss) = (ls ++ s) ∷ ss

-- all that is visible, from the innermost outwards
abbrev pub visible : Scopes → List Local
visible [] = []
visible (s ∷ ss) = s ++ visible ss

-- the number of the innermost local of a name, and of the newest where a scope has several
abbrev pub local_named : Scopes → List ℕ → Option ℕ
local_named ss x = number_of x (visible ss)

-- ---- kinds

-- trees that bind their name
abbrev pub is_binding : Kind → Bool
is_binding ki.Param = true
is_binding ki.Let = true
is_binding ki.Const = true
is_binding ki.Binding = true
is_binding ki.PatternLet = true
is_binding _ = false

abbrev pub is_params : Kind → Bool
is_params ki.Params = true
is_params _ = false

abbrev pub is_scope : Kind → Bool
is_scope ki.Fn = true
is_scope ki.Block = true
is_scope ki.Case = true
is_scope ki.SwitchCase = true
is_scope ki.For = true
is_scope ki.ForEach = true
is_scope _ = false

-- a `for` over items, whose binding is not visible in what it goes over
abbrev pub is_for_each : Kind → Bool
is_for_each ki.ForEach = true
is_for_each _ = false

-- ---- bindings

-- how many bindings a tree has in it, itself included
abbrev mutual
  pub bindings_in : Node → ℕ
  bindings_in (branch h ts) = (if is_binding h.kind then 1 else 0) + bindings_among ts

  pub bindings_among : Nodes → ℕ
  bindings_among none = 0
  bindings_among (more t ts) = bindings_in t + bindings_among ts

-- the local that a tree itself binds
abbrev pub bound_itself : ℕ → Node → List Local
bound_itself n (branch h ts) = if is_binding h.kind then (h.text, n) ∷ [] else []

-- The locals that a tree makes visible behind it, in the scope in which it stands; `n` bindings of the declaration stand before it. What
-- is bound deeper in it ends with a scope of its own.
abbrev mutual
  pub bound_by : ℕ → Node → List Local
  bound_by n (branch h ts) = if is_binding h.kind then (h.text, n) ∷ [] else if is_params h.kind then bound_among n ts else []

  pub bound_among : ℕ → Nodes → List Local
  bound_among n none = []
  bound_among n (more t ts) = bound_among (n + bindings_in t) ts ++ bound_by n t
