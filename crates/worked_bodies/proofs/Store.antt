-- The types and the declarations that the worked bodies speak of.
use Rattle.std.specs.Prelude.{ℕ, true, false, List, [], ◌∷◌, codes, Some}
use Rattle.hare_tree.specs.declared.kind.Kind.{Kind}
use Rattle.hare_tree.specs.declared.kind.Kind.TheVariants as ki
use Rattle.hare_types.specs.declared.row.Row.TheVariants as row
use Rattle.hare_types.specs.declared.row.Scalar.TheVariants as keyword
use Rattle.hare_types.specs.Store.{Store}
use Rattle.hare_typed.specs.declared.constant.Const.TheVariants as constant
use Rattle.hare_rules.specs.declared.declared.DeclType.{DeclType}

-- ---- types, by id

abbrev pub void : ℕ
void = 0

abbrev pub never : ℕ
never = 1

abbrev pub opaque : ℕ
opaque = 2

abbrev pub bool : ℕ
bool = 3

abbrev pub rune : ℕ
rune = 4

abbrev pub str : ℕ
str = 5

abbrev pub int : ℕ
int = 6

abbrev pub u8 : ℕ
u8 = 7

abbrev pub u64 : ℕ
u64 = 8

abbrev pub size : ℕ
size = 9

-- `*int`
abbrev pub pointer : ℕ
pointer = 10

-- `nullable *int`
abbrev pub nullable : ℕ
nullable = 11

-- `[]int`
abbrev pub ints : ℕ
ints = 12

-- `[3]int`
abbrev pub three : ℕ
three = 13

-- `rt::nomem`, which is `!void`
abbrev pub nomem : ℕ
nomem = 15

-- `(int | str)`
abbrev pub either : ℕ
either = 16

-- `(int | rt::nomem)`
abbrev pub fallible : ℕ
fallible = 17

-- `(int, str)`
abbrev pub tuple : ℕ
tuple = 18

-- `struct { x: int, y: str }`
abbrev pub struct : ℕ
struct = 19

-- `pair`, which is `struct { x: int, y: str }`
abbrev pub pair : ℕ
pair = 20

-- `*opaque`
abbrev pub to_opaque : ℕ
to_opaque = 21

-- `(*int | rt::nomem)`
abbrev pub new_int : ℕ
new_int = 22

-- `(void | rt::nomem)`
abbrev pub done : ℕ
done = 23

-- `!int`
abbrev pub error_int : ℕ
error_int = 24

-- `hidden`, which is `opaque`
abbrev pub hidden : ℕ
hidden = 25

-- `!opaque`
abbrev pub error_opaque : ℕ
error_opaque = 26

-- `choice`, which is `(int | str)`
abbrev pub choice : ℕ
choice = 27

abbrev pub store : Store
store = record {
  names = codes "x" ∷ codes "y" ∷ [];
  rows =
      row.Scalar keyword.Void ∷ row.Scalar keyword.Never ∷ row.Scalar keyword.Opaque ∷ row.Scalar keyword.Bool ∷ row.Scalar keyword.Rune
      ∷ row.Scalar keyword.Str ∷ row.Scalar keyword.Int ∷ row.Scalar keyword.U8 ∷ row.Scalar keyword.U64 ∷ row.Scalar keyword.Size
      ∷ row.Pointer int ∷ row.Nullable int ∷ row.Slice int ∷ row.Array 3 int ∷ row.Error void ∷ row.Named 4294967295
      ∷ row.Union (str ∷ int ∷ []) ∷ row.Union (int ∷ nomem ∷ []) ∷ row.Tuple (int ∷ str ∷ [])
      ∷ row.Struct (record { name = 0; ty = int } ∷ record { name = 1; ty = str } ∷ []) ∷ row.Named 7 ∷ row.Pointer opaque
      ∷ row.Union (pointer ∷ nomem ∷ []) ∷ row.Union (void ∷ nomem ∷ []) ∷ row.Error int ∷ row.Named 8
      ∷ row.Error opaque ∷ row.Named 9 ∷ [];
  declared =
      (4294967295, record { sized = true; definition = Some 14 }) ∷ (7, record { sized = true; definition = Some struct })
      ∷ (8, record { sized = false; definition = Some opaque }) ∷ (9, record { sized = true; definition = Some either }) ∷ [];
  listed = [];
}

-- ---- declarations, by number: `fn f(a: int) int`, `fn g() !int`, and the types `pair`, `hidden` and `choice`

abbrev declared_as : ℕ → Kind → ℕ → List ℕ → DeclType
declared_as n k t ps = record { decl = n; kind = k; ty = t; params = ps; mutable = false; value = constant.Absent }

abbrev pub decls : List DeclType
decls = declared_as 1 ki.Fn int (int ∷ []) ∷ declared_as 2 ki.Fn error_int [] ∷ declared_as 7 ki.TypeDecl pair []
    ∷ declared_as 8 ki.TypeDecl hidden [] ∷ declared_as 9 ki.TypeDecl choice [] ∷ []
