-- That a pointer leads into the object that it names, or to its end. Evaluation makes no other, and that addresses are compared in the
-- place of pointers rests on it.
use Rattle.std.specs.Prelude.{ℕ, ◌≤◌, List, slice_get, Option, Some, None}
use Rattle.hare_typed.specs.declared.cell.Cell.{Cell}
use Rattle.hare_typed.specs.declared.cell.Cell.TheVariants as cell
use Rattle.hare_typed.specs.Objects.{Object, extent_of}
use Rattle.hare_meaning.specs.Each.{Each}

-- the offset is within an object, or its end
abbrev pub LeadsInto : (offset : ℕ) → Option Object → Type 0
LeadsInto d None = ⊥
LeadsInto d (Some x) = d ≤ extent_of x

-- so it is of the pointer of which the cell is a part, if it is part of one
abbrev pub LeadsWithin : List Object → Cell → Type 0
LeadsWithin xs (cell.Byte b) = Unit {0}
LeadsWithin xs (cell.Fragment o d k) = LeadsInto d (slice_get xs o)
LeadsWithin xs cell.Undef = Unit {0}

-- and of each cell of the objects
abbrev pub PointersLeadWithin : List Object → Type 0
PointersLeadWithin xs = Each (λ x. Each (LeadsWithin xs) x.cells) xs
