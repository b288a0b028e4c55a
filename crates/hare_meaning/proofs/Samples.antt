-- A store of types for worked programs.
use Rattle.std.proofs.Common.{ℕ, true, [], ◌∷◌, Some}
use Rattle.hare_types.specs.declared.row.Row.TheVariants as row
use Rattle.hare_types.specs.declared.row.Scalar.TheVariants as keyword
use Rattle.hare_types.specs.Store.{Store}

-- ---- types by their ids

abbrev pub void : ℕ
void = 0

abbrev pub never : ℕ
never = 1

abbrev pub bool : ℕ
bool = 2

abbrev pub str : ℕ
str = 3

abbrev pub u8 : ℕ
u8 = 4

abbrev pub int : ℕ
int = 5

abbrev pub size : ℕ
size = 6

-- `rt::nomem`, and `!void`, which it is
abbrev pub nomem : ℕ
nomem = 7

abbrev pub failure : ℕ
failure = 8

-- `*int`, `nullable *int`, `**int`, `*u8`
abbrev pub pointer : ℕ
pointer = 9

abbrev pub nullable : ℕ
nullable = 10

abbrev pub pointer_to_pointer : ℕ
pointer_to_pointer = 11

abbrev pub byte_pointer : ℕ
byte_pointer = 12

-- `[]int`, `[3]int`, `[]u8`, `*[]int`, `[4]u8`
abbrev pub slice : ℕ
slice = 13

abbrev pub three_ints : ℕ
three_ints = 14

abbrev pub bytes : ℕ
bytes = 15

abbrev pub slice_pointer : ℕ
slice_pointer = 16

abbrev pub four_bytes : ℕ
four_bytes = 17

-- `struct { a: u8, b: int }`, a pointer to it, and `(u8, int)`
abbrev pub pair : ℕ
pair = 18

abbrev pub pair_pointer : ℕ
pair_pointer = 19

abbrev pub tuple : ℕ
tuple = 20

-- `(int | bool)`, `(int | !void)`, `(int | bool | !void)`, `(void | !void)`
abbrev pub int_or_bool : ℕ
int_or_bool = 21

abbrev pub int_or_failure : ℕ
int_or_failure = 22

abbrev pub int_bool_or_failure : ℕ
int_bool_or_failure = 23

abbrev pub void_or_failure : ℕ
void_or_failure = 24

-- what allocations of an int, of ints and of bytes give, and what an append gives
abbrev pub new_int : ℕ
new_int = 25

abbrev pub new_ints : ℕ
new_ints = 26

abbrev pub new_bytes : ℕ
new_bytes = 27

abbrev pub added : ℕ
added = 28

-- `rune`, `*never`
abbrev pub rune : ℕ
rune = 29

abbrev pub never_pointer : ℕ
never_pointer = 30

-- `**struct { a: u8, b: int }`, `*str`
abbrev pub pair_pointer_pointer : ℕ
pair_pointer_pointer = 31

abbrev pub str_pointer : ℕ
str_pointer = 32

-- `!int`, `(bool | !int)`
abbrev pub bad : ℕ
bad = 33

abbrev pub bool_or_bad : ℕ
bool_or_bad = 34

-- the field names `a` and `b` have the numbers 0 and 1; tags from 1 on: int, bool, `!void`, void, *int, []int, []u8, nomem, `!int`
abbrev pub types : Store
types = record {
  names = (97 ∷ []) ∷ (98 ∷ []) ∷ [];
  rows =
      row.Scalar keyword.Void
      ∷ row.Scalar keyword.Never
      ∷ row.Scalar keyword.Bool
      ∷ row.Scalar keyword.Str
      ∷ row.Scalar keyword.U8
      ∷ row.Scalar keyword.Int
      ∷ row.Scalar keyword.Size
      ∷ row.Named 4294967295
      ∷ row.Error 0
      ∷ row.Pointer 5
      ∷ row.Nullable 5
      ∷ row.Pointer 9
      ∷ row.Pointer 4
      ∷ row.Slice 5
      ∷ row.Array 3 5
      ∷ row.Slice 4
      ∷ row.Pointer 13
      ∷ row.Array 4 4
      ∷ row.Struct (record { name = 0; ty = 4 } ∷ record { name = 1; ty = 5 } ∷ [])
      ∷ row.Pointer 18
      ∷ row.Tuple (4 ∷ 5 ∷ [])
      ∷ row.Union (2 ∷ 5 ∷ [])
      ∷ row.Union (5 ∷ 8 ∷ [])
      ∷ row.Union (2 ∷ 5 ∷ 8 ∷ [])
      ∷ row.Union (0 ∷ 8 ∷ [])
      ∷ row.Union (7 ∷ 9 ∷ [])
      ∷ row.Union (7 ∷ 13 ∷ [])
      ∷ row.Union (7 ∷ 15 ∷ [])
      ∷ row.Union (0 ∷ 7 ∷ [])
      ∷ row.Scalar keyword.Rune
      ∷ row.Pointer 1
      ∷ row.Pointer 19
      ∷ row.Pointer 3
      ∷ row.Error 5
      ∷ row.Union (2 ∷ 33 ∷ [])
      ∷ [];
  declared = (4294967295, record { sized = true; definition = Some 8 }) ∷ [];
  listed = 5 ∷ 2 ∷ 8 ∷ 0 ∷ 9 ∷ 13 ∷ 15 ∷ 7 ∷ 33 ∷ [];
}
