-- What becomes of a value at its site, by the row of the table of assignability that its node carries.
use Rattle.std.specs.Prelude.{ℕ, pos, ℤ, ◌||◌, nat_eq, List, [], find, Option, Some, None, option_map, option_and_then, unwrap_or, if◌then◌else◌}
use Rattle.std.specs.Option.{option_or}
use Rattle.hare_types.specs.declared.row.Row.{Row}
use Rattle.hare_types.specs.declared.row.Row.TheVariants as row
use Rattle.hare_types.specs.declared.coercion.Ty.{Ty}
use Rattle.hare_types.specs.declared.coercion.Ty.TheVariants as kept
use Rattle.hare_types.specs.declared.coercion.Coercion.{Coercion}
use Rattle.hare_types.specs.Trees.{Scalar as ScalarType}
use Rattle.hare_types.specs.Store.{Store}
use Rattle.hare_types.specs.Assign.{value_at, type_at, holds_of, same, is_same, is_const, is_lone, default_word, Value, Of, Iconst, Null as NullValue, Empty, first_row}
use Rattle.hare_types.specs.ByIds.{row_at}
use Rattle.hare_typed.specs.declared.cell.Cell.{Cell}
use Rattle.hare_typed.specs.Scalars.{Pointer, Null, Scalar, Number, Pointing, Nullable, cells, spelled}
use Rattle.hare_typed.specs.Given.{base_row}
use Rattle.hare_typed.specs.Shapes.{shape_at}
use Rattle.hare_typed.specs.Words.{number_in, pointer_in}
use Rattle.hare_typed.specs.Unions.{union_members, member_by_tag, payload, union_cells}
use Rattle.hare_typed.specs.Answers.{Answer, Gives, ◌then◌}

-- ---- scalars of a type

abbrev pub scalar_at : Store → ℕ → List Cell → Scalar
scalar_at s t cs = unwrap_or (option_and_then (λ shape. spelled shape cs) (shape_at s t)) (Number (pos 0))

-- The number that a value of the type is. A whole number without a suffix has no cells: its type says which it is.
abbrev pub number_of_value : Store → Ty → List Cell → ℤ
number_of_value s (kept.Of t) cs = number_in (scalar_at s t cs)
number_of_value s (kept.Iconst v) cs = v
number_of_value s kept.Null cs = pos 0
number_of_value s kept.Empty cs = pos 0

-- a number as a value of the type
abbrev pub number_cells_at : Store → ℕ → ℤ → List Cell
number_cells_at s t v = unwrap_or (option_map (λ shape. cells shape (Number v)) (shape_at s t)) []

abbrev pub number_cells : Store → Ty → ℤ → List Cell
number_cells s (kept.Of t) v = number_cells_at s t v
number_cells s (kept.Iconst w) v = []
number_cells s kept.Null v = []
number_cells s kept.Empty v = []

-- The pointer that a value is, of a pointer type or a nullable one: a `*t` may be null where a place was null of which it is the address.
abbrev pub pointer_of : List Cell → Pointer
pointer_of cs = unwrap_or (option_map pointer_in (spelled Nullable cs)) Null

-- ---- members of unions

-- the value's own type
abbrev pub own_member : Store → Value → List ℕ → Option ℕ
own_member s f ms = find (λ m. is_same f (type_at s m)) ms

-- the default type of a whole number without a suffix
abbrev pub default_member : Store → Value → List ℕ → Option ℕ
default_member s (Iconst v) ms = find (λ m. holds_of (λ k. same (ScalarType k) (type_at s m)) (default_word v)) ms
default_member s (Of t) ms = None
default_member s NullValue ms = None
default_member s Empty ms = None

-- the one integer type that holds it
abbrev pub holding_member : Store → Value → List ℕ → Option ℕ
holding_member s f ms = find (λ m. is_const s f (type_at s m)) ms

-- the one that is admitted as a pointer, for `null`, or as a slice
abbrev pub lone_member : Store → Value → List ℕ → Option ℕ
lone_member s f ms = find (λ m. is_lone s f (type_at s m)) ms

-- The member as which a value is joined to a union. None where the value is itself of a union whose members all are members.
abbrev pub chosen_member : Store → Ty → List ℕ → Option ℕ
chosen_member s f ms =
    let v = value_at s f in
    option_or (own_member s v ms) (option_or (default_member s v ms) (option_or (holding_member s v ms) (lone_member s v ms)))

-- the first row that admits the value to the type, which a coercion that was judged has
abbrev pub row_to : Store → Ty → ℕ → ℕ
row_to s f t = unwrap_or (first_row s (value_at s f) (type_at s t)) 1

abbrev pub inner_as : Store → Ty → ℕ → Option ℕ → Coercion
inner_as s f u None = record { row = 9; to = kept.Of u }
inner_as s f u (Some m) = record { row = row_to s f m; to = kept.Of m }

-- The coercion that reaches the value itself: for a value that is joined to a union as a member, the one to the member.
abbrev pub inner_to : Store → Ty → ℕ → Coercion
inner_to s f u = inner_as s f u (chosen_member s f (union_members s u))

abbrev pub inner_by : Store → Ty → ℕ → Ty → Coercion
inner_by s f r (kept.Of t) = if nat_eq r 9 then inner_to s f t else record { row = r; to = kept.Of t }
inner_by s f r (kept.Iconst v) = record { row = r; to = kept.Iconst v }
inner_by s f r kept.Null = record { row = r; to = kept.Null }
inner_by s f r kept.Empty = record { row = r; to = kept.Empty }

abbrev pub inner : Store → Ty → Coercion → Coercion
inner s f c = inner_by s f c.row c.to

-- ---- arrays that become slices

-- the items of the array, where the value is one
abbrev pub length_of_row : Option Row → ℕ
length_of_row (Some (row.Array n x)) = n
length_of_row _ = 0

abbrev pub length_of_value : Store → Ty → ℕ
length_of_value s (kept.Of t) = length_of_row (row_at s t)
length_of_value s (kept.Iconst v) = 0
length_of_value s kept.Null = 0
length_of_value s kept.Empty = 0

-- what the type is a slice of, where it is one
abbrev pub element_of_slice : Option Row → Option ℕ
element_of_slice (Some (row.Slice x)) = Some x
element_of_slice _ = None

abbrev pub element_by : Store → ℕ → Ty → Option ℕ
element_by s r (kept.Of t) = if nat_eq r 7 then element_of_slice (base_row s (kept.Of t)) else None
element_by s r (kept.Iconst v) = None
element_by s r kept.Null = None
element_by s r kept.Empty = None

-- What the items are of an array that the coercion makes a slice, alone or as a member of a union; None where it makes none.
abbrev pub sliced_element : Store → Ty → Coercion → Option ℕ
sliced_element s f c = let i = inner s f c in element_by s i.row i.to

-- ---- the cells of the value at its site

-- by each row but the one to unions: a number at the type, null, or the value as it is; an array that becomes a slice is its three words
-- already
abbrev pub coerced_by : Store → Ty → ℕ → ℕ → List Cell → List Cell
coerced_by s f r t cs =
    if nat_eq r 3 || nat_eq r 4 then number_cells_at s t (number_of_value s f cs)
    else (if nat_eq r 6 then cells Nullable (Pointing Null)
    else cs)

-- a value of one union as one of another: its own member is looked up by its tag, and its payload is read
abbrev pub union_to_union : Store → Ty → ℕ → List Cell → Answer (List Cell)
union_to_union s (kept.Of f) u cs = member_by_tag s f cs then λ m. payload s f m cs then λ d. Gives (union_cells s u m d)
union_to_union s (kept.Iconst v) u cs = Gives cs
union_to_union s kept.Null u cs = Gives cs
union_to_union s kept.Empty u cs = Gives cs

abbrev pub coerced_as : Store → Ty → ℕ → List Cell → Option ℕ → Answer (List Cell)
coerced_as s f u cs None = union_to_union s f u cs
coerced_as s f u cs (Some m) = Gives (union_cells s u m (coerced_by s f (row_to s f m) m cs))

abbrev pub coerced_to_union : Store → Ty → ℕ → List Cell → Answer (List Cell)
coerced_to_union s f u cs = coerced_as s f u cs (chosen_member s f (union_members s u))

abbrev pub coerced_into : Store → Ty → ℕ → Ty → List Cell → Answer (List Cell)
coerced_into s f r (kept.Of t) cs = if nat_eq r 9 then coerced_to_union s f t cs else Gives (coerced_by s f r t cs)
coerced_into s f r (kept.Iconst v) cs = Gives cs
coerced_into s f r kept.Null cs = Gives cs
coerced_into s f r kept.Empty cs = Gives cs

-- A value of type f as one of the type that its coercion gives. Where an array becomes a slice, the cells are those of the slice.
abbrev pub coerced : Store → Ty → Coercion → List Cell → Answer (List Cell)
coerced s f c cs = coerced_into s f c.row c.to cs

-- A value of type f as one of the type with this id, by the first row that admits it: of a value whose node carries no coercion to it.
abbrev pub assigned : Store → Ty → ℕ → List Cell → Answer (List Cell)
assigned s f t cs = coerced_into s f (row_to s f t) (kept.Of t) cs
