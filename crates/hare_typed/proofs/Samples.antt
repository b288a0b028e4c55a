-- A store of types, and cells, of which rows are worked out.
use Rattle.std.proofs.Common.{ℕ, true, List, [], ◌∷◌, Some}
use Rattle.hare_types.specs.declared.row.Row.TheVariants as row
use Rattle.hare_types.specs.declared.row.Scalar.TheVariants as keyword
use Rattle.hare_types.specs.Store.{Store}
use Rattle.hare_typed.specs.declared.cell.Cell.{Cell}
use Rattle.hare_typed.specs.declared.cell.Cell.TheVariants as cell

-- ---- types by their ids

abbrev pub void : ℕ
void = 0

abbrev pub never : ℕ
never = 1

abbrev pub opaque : ℕ
opaque = 2

abbrev pub bool : ℕ
bool = 3

abbrev pub rune : ℕ
rune = 4

abbrev pub str : ℕ
str = 5

abbrev pub i8 : ℕ
i8 = 6

abbrev pub u8 : ℕ
u8 = 7

abbrev pub i16 : ℕ
i16 = 8

abbrev pub u16 : ℕ
u16 = 9

abbrev pub i32 : ℕ
i32 = 10

abbrev pub u32 : ℕ
u32 = 11

abbrev pub i64 : ℕ
i64 = 12

abbrev pub u64 : ℕ
u64 = 13

abbrev pub int : ℕ
int = 14

abbrev pub uint : ℕ
uint = 15

abbrev pub size : ℕ
size = 16

-- `*int`, `nullable *int`, `[]int`, `[3]int` and `[0]int`
abbrev pub pointer : ℕ
pointer = 17

abbrev pub nullable : ℕ
nullable = 18

abbrev pub slice : ℕ
slice = 19

abbrev pub three_ints : ℕ
three_ints = 20

abbrev pub no_ints : ℕ
no_ints = 21

-- `struct { a: u8, b: int }`, `(u8, int, size)`
abbrev pub pair : ℕ
pair = 22

abbrev pub tuple : ℕ
tuple = 23

-- `(void | int)`, `(void | str | int)`, `(void | nullable *int)`, `(void | []int)`, `(u8 | size)`
abbrev pub void_or_int : ℕ
void_or_int = 24

abbrev pub void_str_or_int : ℕ
void_str_or_int = 25

abbrev pub void_or_nullable : ℕ
void_or_nullable = 26

abbrev pub void_or_slice : ℕ
void_or_slice = 27

abbrev pub u8_or_size : ℕ
u8_or_size = 28

-- `type n = int`, and `!void`
abbrev pub named_int : ℕ
named_int = 29

abbrev pub failure : ℕ
failure = 30

-- `*opaque`
abbrev pub anywhere : ℕ
anywhere = 31

-- the field names `a` and `b` have the numbers 0 and 1; tags from 1 on: int, void, str, nullable *int, []int, size, u8
abbrev pub types : Store
types = record {
  names = (97 ∷ []) ∷ (98 ∷ []) ∷ [];
  rows =
      row.Scalar keyword.Void
      ∷ row.Scalar keyword.Never
      ∷ row.Scalar keyword.Opaque
      ∷ row.Scalar keyword.Bool
      ∷ row.Scalar keyword.Rune
      ∷ row.Scalar keyword.Str
      ∷ row.Scalar keyword.I8
      ∷ row.Scalar keyword.U8
      ∷ row.Scalar keyword.I16
      ∷ row.Scalar keyword.U16
      ∷ row.Scalar keyword.I32
      ∷ row.Scalar keyword.U32
      ∷ row.Scalar keyword.I64
      ∷ row.Scalar keyword.U64
      ∷ row.Scalar keyword.Int
      ∷ row.Scalar keyword.Uint
      ∷ row.Scalar keyword.Size
      ∷ row.Pointer 14
      ∷ row.Nullable 14
      ∷ row.Slice 14
      ∷ row.Array 3 14
      ∷ row.Array 0 14
      ∷ row.Struct (record { name = 0; ty = 7 } ∷ record { name = 1; ty = 14 } ∷ [])
      ∷ row.Tuple (7 ∷ 14 ∷ 16 ∷ [])
      ∷ row.Union (0 ∷ 14 ∷ [])
      ∷ row.Union (0 ∷ 5 ∷ 14 ∷ [])
      ∷ row.Union (0 ∷ 18 ∷ [])
      ∷ row.Union (0 ∷ 19 ∷ [])
      ∷ row.Union (7 ∷ 16 ∷ [])
      ∷ row.Named 0
      ∷ row.Error 0
      ∷ row.Pointer 2
      ∷ [];
  declared = (0, record { sized = true; definition = Some 14 }) ∷ [];
  listed = 14 ∷ 0 ∷ 5 ∷ 18 ∷ 19 ∷ 16 ∷ 7 ∷ [];
}

-- ---- cells

abbrev pub bytes : List ℕ → List Cell
bytes [] = []
bytes (b ∷ bs) = cell.Byte b ∷ bytes bs

abbrev pub no_cells : ℕ → List Cell
no_cells ℕ.zero = []
no_cells (ℕ.suc n) = cell.Undef ∷ no_cells n
