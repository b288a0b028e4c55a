-- Slices and strings: three words of eight cells each, the pointer to their elements, their length, and their capacity.
use Rattle.std.specs.Prelude.{ℕ, ◌-◌, ◌*◌, ◌^◌, pos, negsuc, ℤ, ◌-ℤ◌, Bool, false, ◌&&◌, nat_eq, nat_le, nat_lt, bytes_eq, List, ◌++◌, if◌then◌else◌}
use Rattle.hx_base.specs.Numbers.{residue}
use Rattle.hare_typed.specs.declared.cell.Cell.{Cell}
use Rattle.hare_typed.specs.Cells.{cells_within}
use Rattle.hare_typed.specs.Scalars.{Pointer, Null, Scalar, Number, Pointing, Shape, Whole, Nullable, cells}
use Rattle.hare_typed.specs.Objects.{Reading, read_cells, scalar_of, bytes_within}
use Rattle.hare_typed.specs.Pointers.{move}
use Rattle.hare_typed.specs.Answers.{Answer, Gives, Aborts, ◌then◌}

-- what three words say
pub record Words : Type 0 where
  pub data_at : Pointer  -- where the elements or bytes begin; it may be null
  pub length : ℕ
  pub capacity : ℕ

abbrev pub size_shape : Shape
size_shape = Whole 8 false

abbrev pub size_cells : ℕ → List Cell
size_cells n = cells size_shape (Number (pos n))

-- the cells of three words
abbrev pub three : Words → List Cell
three w = cells Nullable (Pointing w.data_at) ++ size_cells w.length ++ size_cells w.capacity

-- a scalar as a number, and as a pointer; each is asked only of a scalar that is one
abbrev pub number_in : Scalar → ℤ
number_in (Number v) = v
number_in (Pointing p) = pos 0

abbrev pub natural_of : ℤ → ℕ
natural_of (pos n) = n
natural_of (negsuc n) = 0

abbrev pub pointer_in : Scalar → Pointer
pointer_in (Number v) = Null
pointer_in (Pointing p) = p

abbrev pub size_in : List Cell → Answer ℕ
size_in cs = scalar_of size_shape cs then λ v. Gives (natural_of (number_in v))

-- The words that 24 cells are. All three are read together: U3 where one of them spells nothing, also one that is not used then.
abbrev pub words : List Cell → Answer Words
words cs =
    scalar_of Nullable (cells_within 0 8 cs) then λ p.
    size_in (cells_within 8 8 cs) then λ n.
    size_in (cells_within 16 8 cs) then λ c.
    Gives (record { data_at = pointer_in p; length = n; capacity = c })

-- ---- indexes and slices

-- element i of so many is looked for: abort 0 unless there is one
abbrev pub within_length : (i length : ℕ) → Answer ℕ
within_length i n = if nat_lt i n then Gives i else Aborts 0

-- where element i stands, elements having so many bytes
abbrev pub element_at : Reading → Words → (bytes i : ℕ) → Answer Pointer
element_at r w n i = within_length i w.length then λ k. move r w.data_at (k * n)

-- the words of the elements from x on up to y, which begin at a place; the capacity is what is left behind x, modulo 2^64
abbrev pub part_of : Words → (x y : ℕ) → Pointer → Words
part_of w x y p = record { data_at = p; length = y - x; capacity = residue (2 ^ 64) (pos w.capacity -ℤ pos x) }

-- The elements from x on up to y, elements having so many bytes: abort 0 unless x ≤ y ≤ length. No element is accessed.
abbrev pub sliced : Reading → Words → (bytes x y : ℕ) → Answer Words
sliced r w n x y =
    if nat_le x y && nat_le y w.length then (move r w.data_at (x * n) then λ p. Gives (part_of w x y p)) else Aborts 0

-- ---- strings

-- whether two lists of so many bytes are equal, which the cells of both are: first both are accessed, and then U3 where a cell of either
-- is no byte
abbrev pub same_bytes : Reading → Pointer → Pointer → ℕ → Answer Bool
same_bytes r p q n =
    read_cells r p n 1 then λ cs.
    read_cells r q n 1 then λ ds.
    bytes_within cs then λ bs.
    bytes_within ds then λ es.
    Gives (bytes_eq bs es)

-- Whether two strings are equal. Where their lengths differ, nothing else is looked at; where they are equal, all bytes of both are.
abbrev pub same_text : Reading → Words → Words → Answer Bool
same_text r v w = if nat_eq v.length w.length then same_bytes r v.data_at w.data_at v.length else Gives false
