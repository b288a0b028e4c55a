-- What declarations are to those that depend on them, and what stands where in their trees.
use Rattle.std.specs.Prelude.{Bool, true, false, not}
use Rattle.hare_tree.specs.declared.kind.Kind.{Kind}
use Rattle.hare_tree.specs.declared.kind.Kind.TheVariants as ki
use Rattle.hare_tree.specs.Node.{Node, head}
use Rattle.hare_tree.specs.Shape.{is_none}
use Rattle.hare_modules.specs.Uses.{kid}
use Rattle.hare_depends.specs.declared.said.Sort.{Sort}
use Rattle.hare_depends.specs.declared.said.Sort.TheVariants as so

-- ---- by trees

-- a def and a global have their written type behind `export` and the name, and their value behind that
abbrev pub has_type : Node → Bool
has_type t = not (is_none (head (kid t 2)).kind)

abbrev pub sort_of_global : Bool → Sort
sort_of_global true = so.Global
sort_of_global false = so.Constant

abbrev pub sort_by : Kind → Node → Sort
sort_by ki.TypeDecl t = so.Type
sort_by ki.Fn t = so.Function
sort_by ki.GlobalLet t = sort_of_global (has_type t)
sort_by ki.GlobalConst t = sort_of_global (has_type t)
sort_by _ t = so.Constant

abbrev pub sort_of : Node → Sort
sort_of t = sort_by (head t).kind t

-- ---- sorts

abbrev pub is_type : Sort → Bool
is_type so.Type = true
is_type so.Function = false
is_type so.Constant = false
is_type so.Global = false

abbrev pub is_constant : Sort → Bool
is_constant so.Type = false
is_constant so.Function = false
is_constant so.Constant = true
is_constant so.Global = false

abbrev pub is_global : Sort → Bool
is_global so.Type = false
is_global so.Function = false
is_global so.Constant = false
is_global so.Global = true

-- it has a value, which is looked at before bodies are
abbrev pub has_value : Sort → Bool
has_value so.Type = false
has_value so.Function = false
has_value so.Constant = true
has_value so.Global = true
