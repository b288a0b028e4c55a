-- Rows of the table of assignability, worked out: each admitted once and refused once, the order of rows, and casts.
use Rattle.std.proofs.Common.{◌≡◌, true, false, [], ◌∷◌, Some, None, refl, pos}
use Rattle.std.specs.Prelude.{negsuc}
use Rattle.hare_types.specs.declared.row.Row.TheVariants as row
use Rattle.hare_types.specs.declared.row.Scalar.TheVariants as keyword
use Rattle.hare_types.specs.Store.{Store}
use Rattle.hare_types.specs.Trees.{Tree, Scalar, Pointer, Nullable, Slice, Array, Union, Error, Named, none, more}
use Rattle.hare_types.specs.Assign.{Of, Iconst, Null, Empty, first_row, is_castable}

-- a store in which the names 0 and 1 are int, 2 is u8, 3 is `nullable *u8`, 4 is `[]u8` and 5 is `(int | u8)`
abbrev named : Store
named = record {
  names = [];
  rows = row.Scalar keyword.Int ∷ row.Scalar keyword.U8 ∷ row.Nullable 1 ∷ row.Slice 1 ∷ row.Union (0 ∷ 1 ∷ []) ∷ [];
  declared = (0, record { sized = true; definition = Some 0 }) ∷ (1, record { sized = true; definition = Some 0 }) ∷
      (2, record { sized = true; definition = Some 1 }) ∷
      (3, record { sized = true; definition = Some 2 }) ∷ (4, record { sized = true; definition = Some 3 }) ∷
      (5, record { sized = true; definition = Some 4 }) ∷ [];
  listed = [];
}

abbrev void : Tree
void = Scalar keyword.Void

abbrev never : Tree
never = Scalar keyword.Never

abbrev opaque : Tree
opaque = Scalar keyword.Opaque

abbrev rune : Tree
rune = Scalar keyword.Rune

abbrev str : Tree
str = Scalar keyword.Str

abbrev int : Tree
int = Scalar keyword.Int

abbrev i32 : Tree
i32 = Scalar keyword.I32

abbrev i64 : Tree
i64 = Scalar keyword.I64

abbrev u8 : Tree
u8 = Scalar keyword.U8

abbrev u16 : Tree
u16 = Scalar keyword.U16

abbrev size : Tree
size = Scalar keyword.Size

abbrev pair : Tree → Tree → Tree
pair t u = Union (more t (more u none))

abbrev triple : Tree → Tree → Tree → Tree
triple t u v = Union (more t (more u (more v none)))

-- ---- one type

same-self : first_row named (Of str) str ≡ Some 1
same-self = refl

-- a union is the set of its members
same-union : first_row named (Of (pair int str)) (pair str int) ≡ Some 1
same-union = refl

-- `int` is not `i32`
same-not : first_row named (Of int) i32 ≡ None
same-not = refl

-- an error mark makes another type, but with one base
same-error : first_row named (Of (Error void)) void ≡ Some 8
same-error = refl

-- ---- never

never-any : first_row named (Of never) str ≡ Some 2
never-any = refl

-- of two rows the first counts
never-first : first_row named (Of never) never ≡ Some 1
never-first = refl

never-not : first_row named (Of void) str ≡ None
never-not = refl

-- ---- whole numbers without a suffix

const-greatest : first_row named (Iconst (pos 255)) u8 ≡ Some 3
const-greatest = refl

const-past : first_row named (Iconst (pos 256)) u8 ≡ None
const-past = refl

const-below : first_row named (Iconst (negsuc 0)) u8 ≡ None
const-below = refl

const-least : first_row named (Iconst (negsuc 2147483647)) int ≡ Some 3
const-least = refl

const-less : first_row named (Iconst (negsuc 2147483648)) int ≡ None
const-less = refl

const-widest : first_row named (Iconst (pos 18446744073709551615)) size ≡ Some 3
const-widest = refl

-- through names and error marks
const-named : first_row named (Iconst (pos 255)) (Error (Named 2)) ≡ Some 3
const-named = refl

const-rune : first_row named (Iconst (pos 1)) rune ≡ None
const-rune = refl

-- ---- wider integers

wider-unsigned : first_row named (Of u8) u16 ≡ Some 4
wider-unsigned = refl

wider-signed : first_row named (Of int) i64 ≡ Some 4
wider-signed = refl

wider-equal : first_row named (Of i32) int ≡ None
wider-equal = refl

wider-narrow : first_row named (Of u16) u8 ≡ None
wider-narrow = refl

wider-signs : first_row named (Of u8) i64 ≡ None
wider-signs = refl

-- no names are looked through
wider-named : first_row named (Of (Named 2)) u16 ≡ None
wider-named = refl

-- ---- pointers

pointer-nullable : first_row named (Of (Pointer int)) (Nullable int) ≡ Some 5
pointer-nullable = refl

pointer-opaque : first_row named (Of (Pointer int)) (Pointer opaque) ≡ Some 5
pointer-opaque = refl

pointer-any : first_row named (Of (Pointer int)) (Nullable opaque) ≡ Some 5
pointer-any = refl

pointer-null : first_row named (Of (Nullable int)) (Nullable opaque) ≡ Some 5
pointer-null = refl

pointer-back : first_row named (Of (Nullable int)) (Pointer int) ≡ None
pointer-back = refl

pointer-away : first_row named (Of (Nullable int)) (Pointer opaque) ≡ None
pointer-away = refl

pointer-from : first_row named (Of (Pointer opaque)) (Pointer int) ≡ None
pointer-from = refl

pointer-other : first_row named (Of (Pointer int)) (Nullable u8) ≡ None
pointer-other = refl

-- no names are looked through
pointer-named : first_row named (Of (Pointer u8)) (Named 3) ≡ None
pointer-named = refl

-- ---- null

null-nullable : first_row named Null (Nullable int) ≡ Some 6
null-nullable = refl

null-named : first_row named Null (Named 3) ≡ Some 6
null-named = refl

null-pointer : first_row named Null (Pointer int) ≡ None
null-pointer = refl

-- ---- slices

slice-array : first_row named (Of (Array 3 u8)) (Slice u8) ≡ Some 7
slice-array = refl

slice-named : first_row named (Of (Array 3 u8)) (Named 4) ≡ Some 7
slice-named = refl

slice-other : first_row named (Of (Array 3 u8)) (Slice int) ≡ None
slice-other = refl

slice-back : first_row named (Of (Slice u8)) (Array 3 u8) ≡ None
slice-back = refl

slice-empty : first_row named Empty (Slice str) ≡ Some 7
slice-empty = refl

slice-none : first_row named Empty (Array 0 str) ≡ Some 7
slice-none = refl

slice-one : first_row named Empty (Array 1 str) ≡ None
slice-one = refl

-- ---- names

name-in : first_row named (Of int) (Named 0) ≡ Some 8
name-in = refl

name-out : first_row named (Of (Named 0)) int ≡ Some 8
name-out = refl

-- two names of one base, both ways
name-both : first_row named (Of (Named 0)) (Named 1) ≡ Some 8
name-both = refl

name-again : first_row named (Of (Named 1)) (Named 0) ≡ Some 8
name-again = refl

name-other : first_row named (Of (Named 0)) (Named 2) ≡ None
name-other = refl

-- a name without a definition has no base
name-unknown : first_row named (Of (Error (Named 9))) (Named 9) ≡ None
name-unknown = refl

-- ---- unions

-- a member
union-member : first_row named (Of str) (pair int str) ≡ Some 9
union-member = refl

union-stranger : first_row named (Of i32) (pair int str) ≡ None
union-stranger = refl

-- members are not looked through for it
union-name : first_row named (Of int) (pair (Named 0) str) ≡ None
union-name = refl

-- a union of members
union-part : first_row named (Of (pair str int)) (triple int u8 str) ≡ Some 9
union-part = refl

-- through names on both sides
union-named : first_row named (Of (Error (Named 5))) (triple int u8 str) ≡ Some 9
union-named = refl

union-whole : first_row named (Of (triple int u8 str)) (pair int str) ≡ None
union-whole = refl

-- the default type of a whole number
union-default : first_row named (Iconst (pos 7)) (triple u8 int i64) ≡ Some 9
union-default = refl

-- the one member that holds it
union-alone : first_row named (Iconst (pos 7)) (pair u8 str) ≡ Some 9
union-alone = refl

-- a number past one of them
union-large : first_row named (Iconst (pos 256)) (triple u8 u16 str) ≡ Some 9
union-large = refl

union-several : first_row named (Iconst (pos 7)) (triple u8 u16 str) ≡ None
union-several = refl

-- one member is admitted
union-null : first_row named Null (pair (Nullable int) void) ≡ Some 9
union-null = refl

-- two are
union-nulls : first_row named Null (pair (Nullable int) (Nullable u8)) ≡ None
union-nulls = refl

union-pointer : first_row named (Of (Pointer int)) (pair (Nullable int) void) ≡ Some 9
union-pointer = refl

union-pointers : first_row named (Of (Pointer int)) (pair (Nullable int) (Pointer opaque)) ≡ None
union-pointers = refl

union-slice : first_row named (Of (Array 2 int)) (pair (Slice int) void) ≡ Some 9
union-slice = refl

union-empty : first_row named Empty (pair (Slice int) (Slice str)) ≡ None
union-empty = refl

-- ---- casts

-- what is assignable
cast-assignable : is_castable named (Of str) (pair int str) ≡ true
cast-assignable = refl

-- numbers, names and error marks removed
cast-numbers : is_castable named (Of (Named 2)) (Error rune) ≡ true
cast-numbers = refl

cast-const : is_castable named (Iconst (pos 256)) u8 ≡ true
cast-const = refl

cast-bool : is_castable named (Iconst (pos 1)) (Scalar keyword.Bool) ≡ false
cast-bool = refl

-- pointers
cast-pointers : is_castable named (Of (Pointer int)) (Pointer u8) ≡ true
cast-pointers = refl

cast-nullables : is_castable named (Of (Nullable int)) (Nullable u8) ≡ true
cast-nullables = refl

cast-null : is_castable named (Of (Nullable int)) (Pointer int) ≡ false
cast-null = refl

-- no names are looked through for them
cast-named : is_castable named (Of (Pointer int)) (Named 3) ≡ false
cast-named = refl

-- no pointer becomes a number
cast-number : is_castable named (Of (Pointer int)) size ≡ false
cast-number = refl
