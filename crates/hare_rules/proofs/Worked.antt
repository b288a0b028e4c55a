-- A store and small trees for worked rows.
use Rattle.std.specs.Prelude.{ℕ, pos, Bool, true, false, List, [], ◌∷◌, ◌++◌, codes, length, Option, Some, None, option_map}
use Rattle.hare_tree.specs.declared.kind.Kind.{Kind}
use Rattle.hare_tree.specs.declared.kind.Kind.TheVariants as ki
use Rattle.hare_tree.specs.declared.place.Place.{Place}
use Rattle.hare_tree.specs.declared.token.Meaning.{Meaning}
use Rattle.hare_tree.specs.declared.token.Meaning.TheVariants as means
use Rattle.hare_tree.specs.declared.token.Suffix.{Suffix}
use Rattle.hare_tree.specs.declared.token.Suffix.TheVariants as suffix
use Rattle.hare_tree.specs.Node.{Head}
use Rattle.hare_types.specs.declared.coercion.Ty.{Ty}
use Rattle.hare_types.specs.declared.coercion.Ty.TheVariants as ty
use Rattle.hare_types.specs.declared.row.Row.TheVariants as row
use Rattle.hare_types.specs.declared.row.Scalar.TheVariants as keyword
use Rattle.hare_types.specs.Store.{Store}
use Rattle.hare_typed.specs.declared.cell.Cell.TheVariants as cell
use Rattle.hare_typed.specs.declared.constant.Const.{Const}
use Rattle.hare_typed.specs.declared.constant.Const.TheVariants as constant
use Rattle.hare_typed.specs.Typed.{TypedNode, marked, typed_nodes}
use Rattle.hare_typed.specs.Cells.{byte_cells}
use Rattle.hare_typed.specs.Scalars.{Address}
use Rattle.hare_typed.specs.Words.{three}
use Rattle.hare_rules.specs.declared.hint.Hint.{Hint}
use Rattle.hare_rules.specs.declared.declared.DeclType.{DeclType}
use Rattle.hare_rules.specs.declared.hint.Hint.TheVariants as hint
use Rattle.hare_rules.specs.Settles.{same}
use Rattle.hare_rules.specs.declared.inside.Target.{Target}
use Rattle.hare_rules.specs.Context.{Setting, Context, Entry, Known, Odd, Inside, Open, Given, Role, Ordinary}
use Rattle.hare_rules.specs.Table.{number_of}
use Rattle.hare_rules.specs.Rows.{first_failing, stands}
use Rattle.hare_rules.specs.Types.{type_of}

-- ---- types, by id

abbrev pub void_t : ℕ
void_t = 0

abbrev pub never_t : ℕ
never_t = 1

abbrev pub opaque_t : ℕ
opaque_t = 2

abbrev pub bool_t : ℕ
bool_t = 3

abbrev pub rune_t : ℕ
rune_t = 4

abbrev pub str_t : ℕ
str_t = 5

abbrev pub int_t : ℕ
int_t = 6

abbrev pub u8_t : ℕ
u8_t = 7

abbrev pub u64_t : ℕ
u64_t = 8

abbrev pub size_t : ℕ
size_t = 9

abbrev pub i32_t : ℕ
i32_t = 10

-- `*int`
abbrev pub pointer_t : ℕ
pointer_t = 11

-- `nullable *int`
abbrev pub nullable_t : ℕ
nullable_t = 12

-- `[]u8`
abbrev pub bytes_t : ℕ
bytes_t = 13

-- `[3]int`
abbrev pub three_t : ℕ
three_t = 14

-- `!void`
abbrev pub error_t : ℕ
error_t = 15

-- `rt::nomem, which is !void`
abbrev pub named_t : ℕ
named_t = 16

-- `(int | str)`
abbrev pub either_t : ℕ
either_t = 17

-- `(int | !void)`
abbrev pub fallible_t : ℕ
fallible_t = 18

-- `(int, u8)`
abbrev pub tuple_t : ℕ
tuple_t = 19

-- `struct { x: int, y: []u8 }`
abbrev pub struct_t : ℕ
struct_t = 20

-- `*struct { x: int, y: []u8 }`
abbrev pub to_struct_t : ℕ
to_struct_t = 21

-- `*opaque`
abbrev pub to_opaque_t : ℕ
to_opaque_t = 22

-- `(*int | rt::nomem)`
abbrev pub new_int_t : ℕ
new_int_t = 23

-- `([]u8 | rt::nomem)`
abbrev pub new_bytes_t : ℕ
new_bytes_t = 24

-- `(void | rt::nomem)`
abbrev pub appended_t : ℕ
appended_t = 25

-- `*[]u8`
abbrev pub to_bytes_t : ℕ
to_bytes_t = 26

-- `[]int`
abbrev pub ints_t : ℕ
ints_t = 27

-- [0]int
abbrev pub zero_t : ℕ
zero_t = 28

-- [67108864]u8, as large as a type may be
abbrev pub most_t : ℕ
most_t = 29

-- [67108865]u8, larger than a type may be
abbrev pub over_t : ℕ
over_t = 30

-- a name of int
abbrev pub count_t : ℕ
count_t = 31

-- a name of `*int`
abbrev pub link_t : ℕ
link_t = 32

-- a name of void
abbrev pub unit_t : ℕ
unit_t = 33

-- a name of opaque
abbrev pub hidden_t : ℕ
hidden_t = 34

-- a name of `(int | str)`
abbrev pub choice_t : ℕ
choice_t = 35

-- a name of `nullable *int`
abbrev pub maybe_t : ℕ
maybe_t = 36

abbrev pub i64_t : ℕ
i64_t = 37

-- a name of bool
abbrev pub flag_t : ℕ
flag_t = 38

-- `**int`
abbrev pub far_t : ℕ
far_t = 39

-- `[3]u8`
abbrev pub three_bytes_t : ℕ
three_bytes_t = 40

abbrev pub i8_t : ℕ
i8_t = 41

-- `(int | u8 | str)`
abbrev pub several_t : ℕ
several_t = 42

-- a name of `[3]int`
abbrev pub row_t : ℕ
row_t = 43

-- `(int | *int | nullable *int)`
abbrev pub wide_t : ℕ
wide_t = 44

abbrev pub store : Store
store = record {
  names = codes "x" ∷ codes "y" ∷ [];
  rows =
      row.Scalar keyword.Void ∷ row.Scalar keyword.Never ∷ row.Scalar keyword.Opaque ∷ row.Scalar keyword.Bool ∷ row.Scalar keyword.Rune ∷
      row.Scalar keyword.Str
      ∷ row.Scalar keyword.Int ∷ row.Scalar keyword.U8 ∷ row.Scalar keyword.U64 ∷ row.Scalar keyword.Size ∷ row.Scalar keyword.I32
      ∷ row.Pointer int_t ∷ row.Nullable int_t ∷ row.Slice u8_t ∷ row.Array 3 int_t ∷ row.Error void_t ∷ row.Named 4294967295 ∷ row.Union
      (str_t ∷ int_t ∷ [])
      ∷ row.Union (int_t ∷ error_t ∷ []) ∷ row.Tuple (int_t ∷ u8_t ∷ []) ∷ row.Struct
      (record { name = 0; ty = int_t } ∷ record { name = 1; ty = bytes_t } ∷ []) ∷ row.Pointer struct_t
      ∷ row.Pointer opaque_t ∷ row.Union (pointer_t ∷ named_t ∷ []) ∷ row.Union (bytes_t ∷ named_t ∷ []) ∷ row.Union (void_t ∷ named_t ∷ [])
      ∷ row.Pointer bytes_t ∷ row.Slice int_t ∷ row.Array 0 int_t
      ∷ row.Array 67108864 u8_t ∷ row.Array 67108865 u8_t ∷ row.Named 7 ∷ row.Named 8 ∷ row.Named 9 ∷ row.Named 10 ∷ row.Named 11 ∷
      row.Named 12
      ∷ row.Scalar keyword.I64 ∷ row.Named 13 ∷ row.Pointer pointer_t ∷ row.Array 3 u8_t ∷ row.Scalar keyword.I8
      ∷ row.Union (str_t ∷ int_t ∷ u8_t ∷ []) ∷ row.Named 14 ∷ row.Union (int_t ∷ pointer_t ∷ nullable_t ∷ []) ∷ row.Array 2 int_t ∷ [];
  declared =
      (4294967295, record { sized = true; definition = Some error_t }) ∷ (7, record { sized = true; definition = Some int_t })
      ∷ (8, record { sized = true; definition = Some pointer_t }) ∷ (9, record { sized = true; definition = Some void_t })
      ∷ (10, record { sized = false; definition = Some opaque_t }) ∷ (11, record { sized = true; definition = Some either_t })
      ∷ (12, record { sized = true; definition = Some nullable_t }) ∷ (13, record { sized = true; definition = Some bool_t })
      ∷ (14, record { sized = true; definition = Some three_t }) ∷ [];
  listed = [];
}

-- what is declared, by number: a global, a function of an int that gives one, a def of int, a constant global, the def 3 of type u8, a
-- def of type str, the types count and unit, and the def -1
abbrev pub declared_as : ℕ → Kind → ℕ → List ℕ → Bool → Const → DeclType
declared_as n k t ps m v = record { decl = n; kind = k; ty = t; params = ps; mutable = m; value = v }

abbrev pub decls : List DeclType
decls =
    declared_as 0 ki.GlobalLet int_t [] true constant.Absent ∷ declared_as 1 ki.Fn int_t (int_t ∷ []) false constant.Absent
    ∷ declared_as 2 ki.Def int_t [] false constant.Absent ∷ declared_as 3 ki.GlobalConst int_t [] false constant.Absent
    ∷ declared_as 5 ki.Def u8_t [] false (constant.Known (cell.Byte 3 ∷ []) []) ∷ declared_as 6 ki.Def str_t [] false constant.Absent
    ∷ declared_as 7 ki.TypeDecl count_t [] false constant.Absent ∷ declared_as 9 ki.TypeDecl unit_t [] false constant.Absent
    ∷ declared_as 15 ki.Def int_t [] false (constant.Known (cell.Byte 255 ∷ cell.Byte 255 ∷ cell.Byte 255 ∷ cell.Byte 255 ∷ []) [])
    ∷ declared_as 16 ki.Fn never_t [] false constant.Absent ∷ declared_as 17 ki.Fn fallible_t [] false constant.Absent ∷ []

abbrev pub setting : Setting
setting = record { store = store; decls = decls; means = λ p. means.None }

-- ---- trees

abbrev pub at : ℕ → Place
at n = record { file = 0; line = 1; column = n }

abbrev pub head_as : Kind → ℕ → List ℕ → Head
head_as k n text = record { kind = k; place = at n; text = text; number = 0; suffix = suffix.None }

-- a node at a column, with its text, type and kids; its value stays as it is
abbrev pub node : Kind → ℕ → List ℕ → Ty → List TypedNode → TypedNode
node k n text a xs = marked (head_as k n text) (record { node = 0; ty = a; coerce = same a; meaning = means.None; value = constant.Absent })
    (typed_nodes xs)

-- a value of a type, at a column
abbrev pub value : ℕ → Ty → TypedNode
value n a = node ki.Call n [] a []

abbrev pub of_type : ℕ → ℕ → TypedNode
of_type n t = value n (ty.Of t)

-- a written type
abbrev pub written_type : ℕ → ℕ → TypedNode
written_type n t = node ki.TypePath n [] (ty.Of t) []

-- a path to a local or a global
abbrev pub path_to : ℕ → Meaning → ℕ → TypedNode
path_to n m t = marked (head_as ki.Path n [])
    (record { node = 0; ty = ty.Of t; coerce = same (ty.Of t); meaning = m; value = constant.Absent }) (typed_nodes [])

-- a part that is left out
abbrev pub absent : TypedNode
absent = node ki.None 1 [] (ty.Of void_t) []

-- a number with its suffix
abbrev pub number_at : ℕ → ℕ → Suffix → TypedNode
number_at n v x =
    marked (record (head_as ki.Number n []) { number = v; suffix = x })
    (record { node = 0; ty = ty.Iconst (pos v); coerce = same (ty.Iconst (pos v)); meaning = means.None; value = constant.Absent })
    (typed_nodes [])

-- a value of a type with its constant
abbrev pub known : ℕ → ℕ → Const → TypedNode
known n t v = marked (head_as ki.Paren n []) (record { node = 0; ty = ty.Of t; coerce = same (ty.Of t); meaning = means.None; value = v })
    (typed_nodes [])

abbrev pub byte_of : ℕ → Const
byte_of b = constant.Known (cell.Byte b ∷ []) []

-- a text of type str, in an object of its own
abbrev pub text_as : List ℕ → Const
text_as bs =
    constant.Known (three (record { data_at = Address 4294967296 0; length = length bs; capacity = length bs }))
    (record { object = 4294967296; cells = byte_cells bs } ∷ [])

-- a path to a def with its constant
abbrev pub names_def : ℕ → ℕ → ℕ → Const → TypedNode
names_def n d t v =
    marked (head_as ki.Path n (codes "d")) (record { node = 0; ty = ty.Of t; coerce = same (ty.Of t); meaning = means.Decl d; value = v })
    (typed_nodes [])

-- a case with these values that gives a type, and one for all others
abbrev pub case_of : ℕ → ℕ → List TypedNode → TypedNode
case_of n t xs = node ki.SwitchCase n [] (ty.Of t) (node ki.Values n [] (ty.Of void_t) (xs ++ absent ∷ []) ∷ [])

abbrev pub case_else : ℕ → ℕ → TypedNode
case_else n t = node ki.SwitchCase n [] (ty.Of t) (absent ∷ [])

-- a case of a `match` with a pattern that gives a type
abbrev pub case_for : ℕ → ℕ → TypedNode → TypedNode
case_for n t x = node ki.Case n [] (ty.Of t) (x ∷ [])

-- what a jump can mean
abbrev pub label_as : Target → List ℕ → Bool → Hint → Open
label_as t name deferred h = record { target = t; name = name; node = 0; deferred = deferred; hint = h }

abbrev pub inside : Inside
inside = record { own = 0; result = fallible_t; labels = []; deferred = false; body = false; role = Ordinary }

-- local 0 is a mutable int, local 1 a constant one, and local 2 the odd one of a for-each at column 3
abbrev pub locals : List Entry
locals = Known (record { ty = int_t; mutable = true }) ∷ Known (record { ty = int_t; mutable = false }) ∷ Odd (at 3) ∷ Known
    (record { ty = three_t; mutable = true }) ∷ []

-- the context of a node with these kids, at column 9
abbrev pub over : Kind → List ℕ → List TypedNode → Context
over k text xs =
    record {
      setting = setting;
      locals = locals;
      head = head_as k 9 text;
      node = 0;
      meaning = means.None;
      hint = hint.None;
      inside = inside;
      kids = xs;
      yields = [];
    }

abbrev pub asked_for : ℕ → Context → Context
asked_for t c = record c { hint = hint.Of t }

abbrev pub dropped : Context → Context
dropped c = record c { hint = hint.Drop }

abbrev pub meaning_ : Meaning → Context → Context
meaning_ m c = record c { meaning = m }

abbrev pub in_labels : List Open → Context → Context
in_labels ls c = record c { inside = record c.inside { labels = ls } }

abbrev pub in_defer : Context → Context
in_defer c = record c { inside = record c.inside { deferred = true } }

abbrev pub as_body : Context → Context
as_body c = record c { inside = record c.inside { body = true } }

abbrev pub with_result : ℕ → Context → Context
with_result t c = record c { inside = record c.inside { result = t } }

abbrev pub as_role : Role → Context → Context
as_role r c = record c { inside = record c.inside { role = r } }

abbrev pub in_store : Store → Context → Context
in_store s c = record c { setting = record c.setting { store = s } }

-- the same node with a number and a suffix
abbrev pub numbered_as : ℕ → Suffix → Context → Context
numbered_as v x c = record c { head = record c.head { number = v; suffix = x } }

abbrev pub given : ℕ → Ty → Given
given n a = record { place = at n; ty = Some a; node = Some 0 }

abbrev pub yielding : List Given → Context → Context
yielding vs c = record c { yields = vs }

-- ---- what the rows say

-- the number of the first fault, and its column
abbrev pub fault : Context → Option (ℕ × ℕ)
fault c = option_map (λ r. (number_of r, (stands r c).column)) (first_failing c)

abbrev pub nothing : Option (ℕ × ℕ)
nothing = None

-- its type, where it has no fault
abbrev pub type : Context → Option Ty
type c = elim (first_failing c) [ None ↦ type_of c | Some r ↦ None ]
