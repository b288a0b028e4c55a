-- To which objects cells lead.
use Rattle.std.specs.Prelude.{ℕ, ◌^◌, nat_le, List, [], ◌∷◌, flat_map, if◌then◌else◌}
use Rattle.hare_typed.specs.declared.cell.Cell.{Cell}
use Rattle.hare_typed.specs.declared.cell.Cell.TheVariants as cell

-- the objects of strings, and of arrays that became slices, have the numbers from here on; those below are globals
abbrev pub first_object : ℕ
first_object = 2 ^ 32

abbrev pub led_to : Cell → List ℕ
led_to (cell.Byte b) = []
led_to (cell.Fragment o d k) = if nat_le first_object o then o ∷ [] else []
led_to cell.Undef = []

abbrev pub leads : List Cell → List ℕ
leads cs = flat_map led_to cs
