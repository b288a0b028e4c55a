-- The bindings of a declaration: that the locals of paths are bindings in scope, and that bindings count by their places.
use Rattle.std.specs.Prelude.{◌≡◌, ℕ, List, [], ◌∷◌, ◌++◌, true, slice_get, map, Some, Contains, if◌then◌else◌}
use Rattle.hare_tree.specs.declared.place.Place.{Place}
use Rattle.hare_tree.specs.declared.tree.FileTree.{FileTree}
use Rattle.hare_tree.specs.Node.{Node, Nodes, branch, none, more}
use Rattle.hare_lex.specs.Order.{is_before}
use Rattle.hare_modules.specs.Uses.{text_of, place_of}
use Rattle.hare_names.specs.Scopes.{is_binding, visible}
use Rattle.hare_names.specs.Paths.{Path, paths_of}
use Rattle.hare_names.specs.Meanings.{local_of}
use Rattle.hare_names.specs.Answers.{IsFileOf}

-- the trees that bind a name, in the order in which they begin
abbrev mutual
  pub bindings_of : Node → List Node
  bindings_of (branch h ts) = (if is_binding h.kind then branch h ts ∷ [] else []) ++ bindings_of_all ts

  pub bindings_of_all : Nodes → List Node
  bindings_of_all none = []
  bindings_of_all (more t ts) = bindings_of t ++ bindings_of_all ts

-- ---- locals

-- The local with this number is a binding of the declaration in scope at the path: it has so many bindings before it, and the path's one
-- name; and it is visible in the scopes of the path.
pub record IsInScope (t : Node) (p : Path) (n : ℕ) : Type 0 where
  pub name : List ℕ
  pub path_is : p.names ≡ name ∷ []
  pub binding : Node
  pub is_there : slice_get (bindings_of t) n ≡ Some binding
  pub name_is : text_of binding ≡ name
  pub in_scope : Contains (visible p.scopes) (name, n)

-- each local of a path is a binding in scope
abbrev pub LocalsAreInScope : Type 0
LocalsAreInScope = (t : Node) (p : Path) (n : ℕ) → Contains (paths_of t) p → local_of p.scopes p.names ≡ Some n → IsInScope t p n

-- ---- places

-- each place stands before those behind it
abbrev pub Ascend : List Place → Type 0
Ascend [] = Unit {0}
Ascend (p ∷ ps) = ((q : Place) → Contains ps q → is_before p q ≡ true) × Ascend ps

-- the bindings of a declaration of a file stand in their order, so that a binding's number is how many stand before its place
abbrev pub BindingsAscend : Type 0
BindingsAscend = (number : ℕ) (tree : FileTree) (t : Node) → IsFileOf number tree → Contains tree.decls t → Ascend
    (map place_of (bindings_of t))
