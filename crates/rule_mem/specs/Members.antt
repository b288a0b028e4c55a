-- Members by the node that names them.
use Rattle.std.specs.Prelude.{ℕ, cond, slice_get, Option, Some, None}
use Rattle.hare_tree.specs.Node.{Head}
use Rattle.hare_types.specs.declared.row.Row.{Row}
use Rattle.hare_types.specs.declared.row.Row.TheVariants as row
use Rattle.hare_types.specs.Store.{Store}
use Rattle.hare_rules.specs.Aggregates.{is_component_number, field_type}

-- the type of the member that a node with this head names: a field of a struct, or a component of a tuple
abbrev pub member_of : Store → Head → Option Row → Option ℕ
member_of s h (Some (row.Tuple ts)) = cond (is_component_number h.text h.suffix) (slice_get ts h.number) None
member_of s h r = field_type s r h.text
