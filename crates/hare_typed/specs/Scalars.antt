-- Scalars: the values of integer types, runes, bools, pointers and void, and the cells that spell them.
use Rattle.std.specs.Prelude.{◌≡◌, ℕ, ◌*◌, ◌^◌, ◌<◌, pos, ℤ, Bool, false, nat_eq, List, [], ◌∷◌, length, All, Option, Some, None, option_map, option_and_then, if◌then◌else◌}
use Rattle.std.specs.Option.{option_or}
use Rattle.hx_base.specs.Memory.{le_bytes, le_number}
use Rattle.hx_base.specs.Numbers.{residue, wrap}
use Rattle.hare_typed.specs.declared.cell.Cell.{Cell}
use Rattle.hare_typed.specs.declared.cell.Cell.TheVariants as cell
use Rattle.hare_typed.specs.Cells.{byte_cells, bytes_of, fragments, are_fragments}

-- where a pointer leads: to an offset of an object, or nowhere
pub data Pointer : Type 0 where
  Null : Pointer
  Address : (object offset : ℕ) → Pointer

pub data Scalar : Type 0 where
  Number : ℤ → Scalar  -- of an integer type or a rune; a bool as 0 or 1; the one void as 0
  Pointing : Pointer → Scalar

-- what is needed of a scalar type
pub data Shape : Type 0 where
  Whole : (bytes : ℕ) (signed : Bool) → Shape  -- an integer type, a rune, and void with no bytes
  Truth : Shape  -- a bool
  Reference : Shape  -- `*t`, of which null is no value
  Nullable : Shape  -- `nullable *t`

-- how many cells a scalar of the shape has
abbrev pub width : Shape → ℕ
width (Whole n signed) = n
width Truth = 1
width Reference = 8
width Nullable = 8

-- ---- the cells of a scalar

abbrev pub pointer_cells : Pointer → List Cell
pointer_cells Null = byte_cells (le_bytes 8 0)
pointer_cells (Address o d) = fragments o d 0 8

-- the low bytes of a number in two's complement, the lowest first; a pointer's eight fragments; eight zero bytes of null
abbrev pub cells : Shape → Scalar → List Cell
cells shape (Number v) = byte_cells (le_bytes (width shape) (residue (2 ^ (8 * width shape)) v))
cells shape (Pointing p) = pointer_cells p

-- ---- what cells spell

-- so many bytes, as a number with or without a sign
abbrev pub number_spelled : (n : ℕ) (signed : Bool) → List Cell → Option Scalar
number_spelled n signed cs =
    if nat_eq (length cs) n then option_map (λ bs. Number (wrap (pos (le_number bs)) (8 * n) signed)) (bytes_of cs) else None

-- one byte that is 0 or 1
abbrev pub bool_spelled : List Cell → Option Scalar
bool_spelled (cell.Byte b ∷ []) = if nat_eq b 0 then Some (Number (pos 0)) else (if nat_eq b 1 then Some (Number (pos 1)) else None)
bool_spelled _ = None

-- the eight fragments of one pointer, in order
abbrev pub address_spelled : List Cell → Option Scalar
address_spelled (cell.Fragment o d k ∷ cs) =
    if nat_eq (length cs) 7 then (if are_fragments o d 0 (cell.Fragment o d k ∷ cs) then Some (Pointing (Address o d)) else None) else None
address_spelled _ = None

-- eight zero bytes
abbrev pub null_spelled : List Cell → Option Scalar
null_spelled cs =
    if nat_eq (length cs) 8 then option_and_then (λ bs. if nat_eq (le_number bs) 0 then Some (Pointing Null) else None) (bytes_of cs)
    else None

-- the scalar that the cells spell at the shape, if one
abbrev pub spelled : Shape → List Cell → Option Scalar
spelled (Whole n signed) cs = number_spelled n signed cs
spelled Truth cs = bool_spelled cs
spelled Reference cs = address_spelled cs
spelled Nullable cs = option_or (address_spelled cs) (null_spelled cs)

-- ---- which scalars a shape has

-- the scalar is a value of the shape
abbrev pub IsOfShape : Shape → Scalar → Type 0
IsOfShape (Whole n signed) (Number v) = wrap v (8 * n) signed ≡ v
IsOfShape Truth (Number v) = wrap v 1 false ≡ v
IsOfShape Reference (Pointing Null) = ⊥
IsOfShape Reference (Pointing (Address o d)) = Unit {0}
IsOfShape Nullable (Pointing p) = Unit {0}
IsOfShape _ _ = ⊥

abbrev pub IsByte : Cell → Type 0
IsByte (cell.Byte b) = b < 256
IsByte (cell.Fragment o d k) = Unit {0}
IsByte cell.Undef = Unit {0}

-- a byte among the cells has eight bits
abbrev pub AreCells : List Cell → Type 0
AreCells cs = All IsByte cs

-- ---- the law of cells and scalars

-- The cells of a scalar spell it and no other at its shape, and no other cells spell it.
pub record CellsSpell : Type 0 where
  pub spells : (shape : Shape) (v : Scalar) → IsOfShape shape v → spelled shape (cells shape v) ≡ Some v
  pub only : (shape : Shape) (cs : List Cell) (v : Scalar) → AreCells cs → spelled shape cs ≡ Some v →
      IsOfShape shape v × (cs ≡ cells shape v)
