-- Values of unions: a tag in the first four cells, and the payload behind it.
use Rattle.std.specs.Prelude.{ℕ, pos, Bool, false, nat_eq, List, [], find, Option, Some, None, Some, None, unwrap_or}
use Rattle.hare_types.specs.Store.{Store}
use Rattle.hare_types.specs.ByIds.{size_at, members_at, payload_at, tag_at}
use Rattle.hare_typed.specs.declared.cell.Cell.{Cell}
use Rattle.hare_typed.specs.Cells.{cells_within, with_cells, undefined_cells}
use Rattle.hare_typed.specs.Scalars.{Shape, Whole, Number, cells}
use Rattle.hare_typed.specs.Shapes.{shape_at}
use Rattle.hare_typed.specs.Objects.{scalar_of}
use Rattle.hare_typed.specs.Words.{number_in, natural_of}
use Rattle.hare_typed.specs.Answers.{Answer, Gives, or_undefined, ◌then◌}

abbrev pub tag_shape : Shape
tag_shape = Whole 4 false

abbrev pub union_members : Store → ℕ → List ℕ
union_members s t = unwrap_or (members_at s t) []

abbrev pub payload_of : Store → ℕ → ℕ
payload_of s t = unwrap_or (payload_at s t) 0

-- a type that is not listed has no tag; in a whole program each member of a union has one
abbrev pub tag_of : Store → ℕ → ℕ
tag_of s t = unwrap_or (tag_at s t) 0

abbrev pub is_number : ℕ → Option ℕ → Bool
is_number n None = false
is_number n (Some k) = nat_eq k n

abbrev pub has_tag : Store → ℕ → ℕ → Bool
has_tag s n t = is_number n (tag_at s t)

-- the type of the first that has this tag, and U8 where none has
abbrev pub member_tagged : Store → List ℕ → ℕ → Answer ℕ
member_tagged s ms n = or_undefined 8 (find (has_tag s n) ms)

-- Which member a value of the union is: U3 where its tag is undefined or no number, U8 where it is that of no member.
abbrev pub member_by_tag : Store → (of_union : ℕ) → List Cell → Answer ℕ
member_by_tag s u cs = scalar_of tag_shape (cells_within 0 4 cs) then λ v. member_tagged s (union_members s u) (natural_of (number_in v))

abbrev pub checked_by : Option Shape → List Cell → Answer (List Cell)
checked_by None cs = Gives cs
checked_by (Some shape) cs = scalar_of shape cs then λ v. Gives cs

-- the cells as they are, but U3 where the type is scalar and they spell none of it
abbrev pub checked : Store → ℕ → List Cell → Answer (List Cell)
checked s t cs = checked_by (shape_at s t) cs

-- the payload of a value of the union, as a value of the member
abbrev pub payload : Store → (of_union member : ℕ) → List Cell → Answer (List Cell)
payload s u m cs = checked s m (cells_within (payload_of s u) (size_at s m) cs)

-- a value of the union: the member's tag and its cells; all other cells are undefined
abbrev pub union_cells : Store → (of_union member : ℕ) → List Cell → List Cell
union_cells s u m cs =
    with_cells 0 (cells tag_shape (Number (pos (tag_of s m)))) (with_cells (payload_of s u) cs (undefined_cells (size_at s u)))
