-- What may stand as the length of an array.
use Rattle.std.specs.Prelude.{ℕ, ℤ, pos, negsuc, Bool, true, false, nat_le, Option, Some, None, is_some, option_and_then, if◌then◌else◌}
use Rattle.hare_tree.specs.declared.kind.Kind.{Kind}
use Rattle.hare_tree.specs.declared.kind.Kind.TheVariants as kind
use Rattle.hare_tree.specs.declared.place.Fault.{Fault}
use Rattle.hare_tree.specs.declared.token.Suffix.{Suffix}
use Rattle.hare_tree.specs.declared.token.Suffix.TheVariants as suffix
use Rattle.hare_types.specs.declared.row.Row.{Row}
use Rattle.hare_types.specs.declared.row.Row.TheVariants as row
use Rattle.hare_types.specs.Assign.{signed}
use Rattle.hare_types.specs.Store.{Store}
use Rattle.hare_typed.specs.Typed.{TypedNode, head_of, mark_of}
use Rattle.hare_typed.specs.Constants.{own_kind}
use Rattle.hare_typed.specs.Given.{base_row}
use Rattle.hare_const.specs.Numbers.{number_in}

abbrev pub most : ℕ
most = 67108864

abbrev pub unless_long : ℕ → Option ℕ
unless_long n = if nat_le n most then Some n else None

abbrev pub natural : ℤ → Option ℕ
natural (pos n) = Some n
natural (negsuc n) = None

-- a literal has no suffix, or that of size
abbrev pub is_length_suffix : Suffix → Bool
is_length_suffix suffix.None = true
is_length_suffix suffix.Z = true
is_length_suffix _ = false

abbrev pub is_integer_row : Option Row → Bool
is_integer_row (Some (row.Scalar k)) = is_some (signed k)
is_integer_row _ = false

-- The constant of a path, where its type is an integer type. Of all paths only those that name a def have one.
abbrev pub constant_length : Store → TypedNode → Option ℕ
constant_length s t =
    let m = mark_of t in
    if is_integer_row (base_row s m.ty) then option_and_then natural (number_in s m.ty m.value) else None

abbrev pub length_by : Store → Kind → TypedNode → Option ℕ
length_by s kind.Number t = if is_length_suffix (head_of t).suffix then Some (head_of t).number else None
length_by s kind.Path t = constant_length s t
length_by s _ t = None

-- The length that the node is: a literal without a suffix or with that of size, or the name of a def of integer base, with a value from 0
-- to
-- 67,108,864.
abbrev pub length_of : Store → TypedNode → Option ℕ
length_of s t = option_and_then unless_long (length_by s (own_kind t) t)

-- at a node that is no length
abbrev pub bad_length : TypedNode → Fault
bad_length t = record { number = 24; place = (head_of t).place }
