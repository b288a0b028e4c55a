-- What is known of the parts of a type, as they are looked at one after another.
use Rattle.std.specs.Prelude.{◌≤◌, ◌+◌, max, List}
use Rattle.hare_types.specs.declared.extent.Extent.{Extent}
use Rattle.hare_types.specs.declared.bytes.Run.{Run}
use Rattle.hare_types.specs.Layout.{round_up, fields_end, greatest_size, greatest_align}
use Rattle.hare_types.specs.Kept.{told}

-- numbers that no sum overflows
pub record IsRun (r : Run) : Type 0 where
  pub size : r.size ≤ 1099511627777
  pub low : 1 ≤ r.align
  pub high : r.align ≤ 8

abbrev pub no_parts : Run
no_parts = record { end = 0; size = 0; align = 1 }

abbrev pub with_part : Run → Extent → Run
with_part r x = record { end = round_up r.end x.align + x.size; size = max r.size x.size; align = max r.align x.align }

-- what is known once these parts follow
abbrev pub with_parts : Run → List Extent → Run
with_parts r xs = record { end = fields_end r.end xs; size = max r.size (greatest_size xs); align = max r.align (greatest_align xs) }

-- what is told of a struct or tuple of which this is known
abbrev pub fields_of : Run → Extent
fields_of r = told (record { size = round_up r.end r.align; align = r.align })

-- what is told of a union of which this is known
abbrev pub members_of : Run → Extent
members_of r = told (record { size = round_up (round_up 4 r.align + r.size) (max 4 r.align); align = max 4 r.align })
