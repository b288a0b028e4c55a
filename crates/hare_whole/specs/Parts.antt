-- The parts of a declaration, typed and untyped, and what is known of it once they have been judged.
use Rattle.std.specs.Prelude.{ℕ, List, [], Bool, true, false, cond, map, sum_by, Option}
use Rattle.std.specs.Option.{unwrap_or}
use Rattle.std.specs.List.{enumerate_from}
use Rattle.hare_tree.specs.declared.kind.Kind.{Kind}
use Rattle.hare_tree.specs.declared.kind.Kind.TheVariants as ki
use Rattle.hare_tree.specs.Node.{Node}
use Rattle.hare_types.specs.declared.row.Row.TheVariants as row
use Rattle.hare_types.specs.Store.{Store}
use Rattle.hare_types.specs.Unions.{id_of}
use Rattle.hare_typed.specs.declared.constant.Const.{Const}
use Rattle.hare_typed.specs.declared.constant.Const.TheVariants as constant
use Rattle.hare_typed.specs.Typed.{TypedNode, mark_of}
use Rattle.hare_typed.specs.Erased.{heads}
use Rattle.hare_typed.specs.Order.{kid_from_front}
use Rattle.hare_typed.specs.Bindings.{own_bindings}
use Rattle.hare_typed.specs.Numbers.{kind_of, parameters_of}
use Rattle.hare_rules.specs.declared.declared.DeclType.{DeclType}
use Rattle.hare_rules.specs.Words.{id_in, default_in}
use Rattle.hare_rules.specs.Context.{is_there, own_type}

-- ---- parts

-- What a def or a global is written to be, or what stands where that is left out; of a type the type itself.
abbrev pub type_part : TypedNode → TypedNode
type_part d = kid_from_front 2 d

-- the value of a def or a global
abbrev pub value_part : TypedNode → TypedNode
value_part d = kid_from_front 3 d

-- what a function gives
abbrev pub result_part : TypedNode → TypedNode
result_part d = kid_from_front 3 d

abbrev pub type_of_param : TypedNode → TypedNode
type_of_param p = kid_from_front 0 p

-- how many bindings begin in a tree
abbrev pub bindings_of : Node → ℕ
bindings_of t = sum_by (λ h. own_bindings h.kind) (heads t)

-- ---- what is known

-- the id of a type that is written, or 0 where the store lacks it
abbrev pub id_or_zero : Option ℕ → ℕ
id_or_zero o = unwrap_or o 0

abbrev pub written_id : TypedNode → ℕ
written_id t = id_or_zero (id_in (own_type t))

-- the type of a def or a global: the one that is written, or else the default of its value's
abbrev pub declared_id : Store → (type value : TypedNode) → ℕ
declared_id s t v = cond (is_there t) (written_id t) (id_or_zero (default_in s (own_type v)))

abbrev pub known_as : ℕ → Kind → ℕ → List ℕ → Bool → Const → DeclType
known_as n k t ps is_mutable v = record { decl = n; kind = k; ty = t; params = ps; mutable = is_mutable; value = v }

-- of a type
abbrev pub type_known : Store → ℕ → DeclType
type_known s n = known_as n ki.TypeDecl (id_or_zero (id_of s (row.Named n))) [] false constant.Absent

-- of a function, by its parameters' types and its result's
abbrev pub function_known : ℕ → List TypedNode → TypedNode → DeclType
function_known n ps r = known_as n ki.Fn (written_id r) (map written_id ps) false constant.Absent

-- of a def with this value, and of a global
abbrev pub def_known : Store → ℕ → (type value : TypedNode) → DeclType
def_known s n t v = known_as n ki.Def (declared_id s t v) [] false (mark_of v).value

abbrev pub is_mutable : Kind → Bool
is_mutable ki.GlobalLet = true
is_mutable _ = false

abbrev pub global_known : Store → ℕ → Kind → (type value : TypedNode) → DeclType
global_known s n k t v = known_as n k (declared_id s t v) [] (is_mutable k) constant.Absent

-- of a finished declaration
abbrev pub known_by : Store → ℕ → Kind → TypedNode → DeclType
known_by s n ki.TypeDecl d = type_known s n
known_by s n ki.Fn d = function_known n (map type_of_param (parameters_of d)) (result_part d)
known_by s n ki.Def d = def_known s n (type_part d) (value_part d)
known_by s n k d = global_known s n k (type_part d) (value_part d)

-- what is known of the declarations of a finished program, by their numbers
abbrev pub known : Store → List TypedNode → List DeclType
known s ds = map (λ e. known_by s e.0 (kind_of e.1) e.1) (enumerate_from 0 ds)
