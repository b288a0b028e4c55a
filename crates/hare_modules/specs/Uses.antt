-- What the imports of a file name: `use a::b;` the module `a::b` under the name `b`, `use n = a::b;` the same under the name `n`, and
-- `use a::{x, y};` the members `x` and `y` of `a`.
use Rattle.std.specs.Prelude.{ℕ, List, [], ◌∷◌, Bool, true, false, not, map, slice_index_or, filter, if◌then◌else◌}
use Rattle.std.specs.List.{flat_map}
use Rattle.hare_tree.specs.declared.place.Place.{Place}
use Rattle.hare_tree.specs.declared.kind.Kind.{Kind}
use Rattle.hare_tree.specs.declared.kind.Kind.TheVariants as ki
use Rattle.hare_tree.specs.declared.tree.FileTree.{FileTree}
use Rattle.hare_tree.specs.Node.{Node, Nodes, branch, none, more, head}
use Rattle.hare_modules.specs.Modules.{Module, spelled}

-- ---- trees

-- the kids of a tree
abbrev pub listed : Nodes → List Node
listed none = []
listed (more t ts) = t ∷ listed ts

abbrev pub kids : Node → List Node
kids (branch h ts) = listed ts

-- the kid with so many kids before it; a tree that has no such kid stands for it
abbrev pub kid : Node → ℕ → Node
kid t i = slice_index_or (kids t) i t

abbrev pub text_of : Node → List ℕ
text_of t = (head t).text

abbrev pub place_of : Node → Place
place_of t = (head t).place

abbrev pub is_name_kind : Kind → Bool
is_name_kind ki.Name = true
is_name_kind _ = false

abbrev pub is_name_tree : Node → Bool
is_name_tree t = is_name_kind (head t).kind

-- ---- imports

-- the three forms of imports: `use a::b;`, `use n = a::b;` and `use a::{x, y};`
abbrev pub is_plain : Kind → Bool
is_plain ki.Use = true
is_plain _ = false

abbrev pub is_alias : Kind → Bool
is_alias ki.UseAlias = true
is_alias _ = false

abbrev pub is_braced : Kind → Bool
is_braced ki.UseNames = true
is_braced _ = false

-- the tree of the path of an import
abbrev pub path_in : Node → Node
path_in u = if is_alias (head u).kind then kid u 1 else kid u 0

-- the module that an import names
abbrev pub module_used : Node → Module
module_used u = spelled (map text_of (kids (path_in u)))

-- One name that a file imports. It stands for a module, whose members it admits behind it, or for one member of the module.
pub record Import : Type 0 where
  pub name : List ℕ
  pub place : Place
  pub from : Module
  pub whole : Bool

abbrev pub import_as : Module → Bool → Node → Import
import_as m whole t = record { name = text_of t; place = place_of t; from = m; whole = whole }

-- the last tree of a list
abbrev pub last_of : List Node → List Node
last_of [] = []
last_of (t ∷ []) = t ∷ []
last_of (t ∷ u ∷ us) = last_of (u ∷ us)

-- the trees of the names that an import brings in: the last of the path, the new name, or those between the braces
abbrev pub names_brought : Node → List Node
names_brought u =
    if is_plain (head u).kind then last_of (kids (path_in u))
    else if is_alias (head u).kind then kid u 0 ∷ []
    else if is_braced (head u).kind then filter is_name_tree (kids u)
    else []

-- the names stand for the module, and not for members of it
abbrev pub imports_of : Node → List Import
imports_of u = map (import_as (module_used u) (not (is_braced (head u).kind))) (names_brought u)

-- the names that a file imports, in the order of the source
abbrev pub imports : FileTree → List Import
imports t = flat_map imports_of t.uses
