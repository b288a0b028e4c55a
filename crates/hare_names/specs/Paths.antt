-- The paths of types and expressions, each with the scopes in which it stands.
use Rattle.std.specs.Prelude.{ℕ, ◌+◌, List, [], ◌∷◌, ◌++◌, Bool, true, false, ◌||◌, if◌then◌else◌}
use Rattle.std.specs.List.{flat_map}
use Rattle.hare_tree.specs.declared.kind.Kind.{Kind}
use Rattle.hare_tree.specs.declared.kind.Kind.TheVariants as ki
use Rattle.hare_tree.specs.declared.place.Place.{Place}
use Rattle.hare_tree.specs.declared.tree.FileTree.{FileTree}
use Rattle.hare_tree.specs.Node.{Head, Node, Nodes, branch, none, more}
use Rattle.hare_tree.specs.Spell.{parts}
use Rattle.hare_names.specs.Scopes.{Scopes, entered, with_locals, is_binding, is_scope, is_for_each, bindings_in, bound_by, bound_itself}

-- a path at the position of a type: a type itself, and that of a struct literal
abbrev pub is_type_path : Kind → Bool
is_type_path ki.TypePath = true
is_type_path _ = false

-- a path in an expression, and the length of an array
abbrev pub is_value_path : Kind → Bool
is_value_path ki.Path = true
is_value_path _ = false

-- a path: its names, where it stands, and the scopes round it, the innermost first
pub record Path : Type 0 where
  pub place : Place
  pub names : List (List ℕ)
  pub is_type : Bool
  pub scopes : Scopes

abbrev pub path_of : Head → Scopes → Path
path_of h ss = record { place = h.place; names = parts h.text; is_type = is_type_path h.kind; scopes = ss }

abbrev pub path_at : Head → Scopes → List Path
path_at h ss = if is_type_path h.kind || is_value_path h.kind then path_of h ss ∷ [] else []

-- how many bindings stand before the kids of a tree
abbrev pub before_kids : ℕ → Kind → ℕ
before_kids n k = if is_binding k then n + 1 else n

abbrev pub scopes_within : Kind → Scopes → Scopes
scopes_within k ss = if is_scope k then entered ss else ss

-- The paths of a tree that stands in these scopes, and before which `n` bindings of its declaration stand. Each kid stands behind those
-- before it, and sees what they bind; but a `for` over items binds its name behind what it goes over.
abbrev mutual
  pub paths_in : ℕ → Scopes → Node → List Path
  paths_in n ss (branch h ts) =
      path_at h ss
      ++ (if is_for_each h.kind then paths_of_loop (before_kids n h.kind) (scopes_within h.kind ss) ts else paths_among
      (before_kids n h.kind) (scopes_within h.kind ss) ts)

  pub paths_among : ℕ → Scopes → Nodes → List Path
  paths_among n ss none = []
  paths_among n ss (more t ts) = paths_in n ss t ++ paths_among (n + bindings_in t) (with_locals (bound_by n t) ss) ts

  -- a binding, what is gone over, and the body
  pub paths_of_loop : ℕ → Scopes → Nodes → List Path
  paths_of_loop n ss none = []
  paths_of_loop n ss (more b none) = paths_in n ss b
  paths_of_loop n ss (more b (more over ts)) =
      paths_in n ss b ++ paths_in (n + bindings_in b) ss over
      ++ paths_among (n + bindings_in b + bindings_in over) (with_locals (bound_itself n b) ss) ts

-- the paths of a declaration
abbrev pub paths_of : Node → List Path
paths_of t = paths_in 0 [] t

-- the paths of a file, in the order of the source
abbrev pub paths_of_file : FileTree → List Path
paths_of_file t = flat_map paths_of t.decls
