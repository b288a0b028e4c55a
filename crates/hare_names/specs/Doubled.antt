-- Equal names among the parameters of a function, and among the fields of a struct type, wherever it stands.
use Rattle.std.specs.Prelude.{List, [], ◌++◌, Bool, true, false, ◌||◌, map, filter, bytes_eq, if◌then◌else◌}
use Rattle.std.specs.List.{flat_map}
use Rattle.hare_tree.specs.declared.kind.Kind.{Kind}
use Rattle.hare_tree.specs.declared.kind.Kind.TheVariants as ki
use Rattle.hare_tree.specs.declared.place.Fault.{Fault}
use Rattle.hare_tree.specs.declared.tree.FileTree.{FileTree}
use Rattle.hare_tree.specs.Node.{Node, Nodes, branch, none, more, head}
use Rattle.hare_modules.specs.Order.{fault}
use Rattle.hare_modules.specs.Uses.{listed, text_of, place_of}
use Rattle.hare_modules.specs.Repeated.{repeated}
use Rattle.hare_names.specs.Scopes.{is_params}

abbrev pub is_struct_type : Kind → Bool
is_struct_type ki.TypeStruct = true
is_struct_type _ = false

-- trees whose kids have names that have to differ
abbrev pub has_names : Kind → Bool
has_names k = is_params k || is_struct_type k

-- a parameter, or a field of a struct type
abbrev pub is_named : Kind → Bool
is_named ki.Param = true
is_named ki.StructField = true
is_named _ = false

-- the parameters or fields of a list of kids
abbrev pub named_kids : Nodes → List Node
named_kids ts = filter (λ t. is_named (head t).kind) (listed ts)

abbrev pub same_text : Node → Node → Bool
same_text a b = bytes_eq (text_of a) (text_of b)

abbrev pub doubled_fault : Node → Fault
doubled_fault t = fault 12 (place_of t)

-- E12, at each that has the name of one before it
abbrev pub doubled_kids : Nodes → List Fault
doubled_kids ts = map doubled_fault (repeated same_text (named_kids ts))

-- in a tree, at any depth
abbrev mutual
  pub doubled_in : Node → List Fault
  doubled_in (branch h ts) = (if has_names h.kind then doubled_kids ts else []) ++ doubled_among ts

  pub doubled_among : Nodes → List Fault
  doubled_among none = []
  doubled_among (more t ts) = doubled_in t ++ doubled_among ts

abbrev pub doubled_names : FileTree → List Fault
doubled_names t = flat_map doubled_in t.decls
