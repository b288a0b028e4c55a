-- The texts that constants are, read cell by cell.
use Rattle.std.specs.Prelude.{ℕ, Bool, true, false, ◌&&◌, nat_eq, List, [], Option, Some, None}
use Rattle.hare_typed.specs.declared.cell.Cell.{Cell}
use Rattle.hare_typed.specs.declared.cell.Cell.TheVariants as cell
use Rattle.hare_typed.specs.declared.constant.ConstObject.{ConstObject}
use Rattle.hare_typed.specs.Scalars as scalars
use Rattle.hare_rules.specs.Constants.{bytes_at}
use Rattle.rule_switch.specs.declared.texts.Pointer.{Pointer}
use Rattle.rule_switch.specs.declared.texts.Pointer.TheVariants as pointer
use Rattle.rule_switch.specs.declared.texts.Text.{Text}

-- the cell is the fragment with this place of the pointer to offset d of object o
abbrev pub is_fragment : (o d k : ℕ) → Cell → Bool
is_fragment o d k (cell.Fragment p e l) = nat_eq o p && (nat_eq d e && nat_eq k l)
is_fragment o d k (cell.Byte b) = false
is_fragment o d k cell.Undef = false

abbrev pub pointer_told : Pointer → scalars.Pointer
pointer_told pointer.Null = scalars.Null
pointer_told (pointer.Address o d) = scalars.Address o d

abbrev pub pointing_told : Pointer → scalars.Scalar
pointing_told p = scalars.Pointing (pointer_told p)

-- the bytes that the text has among these objects
abbrev pub bytes_in : List ConstObject → Option Text → Option (List ℕ)
bytes_in os None = None
bytes_in os (Some x) = bytes_at os (pointer_told x.at) x.length
