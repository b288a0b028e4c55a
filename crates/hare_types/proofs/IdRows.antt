-- What types are by their ids, worked out over a store.
use Rattle.std.proofs.Common.{◌≡◌, ℕ, true, false, [], ◌∷◌, Some, None, refl}
use Rattle.hare_types.specs.declared.row.Row.TheVariants as row
use Rattle.hare_types.specs.declared.row.Scalar.TheVariants as keyword
use Rattle.hare_types.specs.declared.declared.Declared.{Declared}
use Rattle.hare_types.specs.Store.{Store}
use Rattle.hare_types.specs.ByIds.{base_at, is_error_at, has_size_at, extent_at, size_at, align_at, field_at, parts_at, offset_at, payload_at, tag_at, members_at}
use Rattle.hare_types.specs.Unions.{id_of, union_of, left_of, reduced_of, without_errors}

abbrev int : ℕ
int = 0

abbrev str : ℕ
str = 1

abbrev u8 : ℕ
u8 = 2

abbrev u64 : ℕ
u64 = 3

abbrev u16 : ℕ
u16 = 4

abbrev never : ℕ
never = 5

abbrev opaque : ℕ
opaque = 6

-- `!int`
abbrev error_int : ℕ
error_int = 7

-- `type e = !int;`
abbrev e : ℕ
e = 8

-- `type f = e;`
abbrev f : ℕ
f = 9

-- `(int | str)`
abbrev int_or_str : ℕ
int_or_str = 10

-- `(str | f)`
abbrev str_or_f : ℕ
str_or_f = 11

-- `struct { a: u8, b: u64, c: u16 }`, where the names have the numbers 0, 1 and 2
abbrev triple : ℕ
triple = 12

-- `type g = (int | str);`
abbrev g : ℕ
g = 13

-- a name that is declared as one that has a size, and not defined
abbrev h : ℕ
h = 14

-- `*opaque`
abbrev pointer : ℕ
pointer = 15

-- `(int | u8)`
abbrev int_or_u8 : ℕ
int_or_u8 = 16

-- `(int | str | u8)`
abbrev all_three : ℕ
all_three = 17

-- `!h`
abbrev error_h : ℕ
error_h = 18

-- `[0]triple`
abbrev none_of : ℕ
none_of = 19

-- `(u8, triple)`
abbrev pair : ℕ
pair = 20

-- `(e | f)`
abbrev e_or_f : ℕ
e_or_f = 21

abbrev defined_as : ℕ → Declared
defined_as t = record { sized = true; definition = Some t }

abbrev store : Store
store = record {
  names = [];
  rows = row.Scalar keyword.Int ∷ row.Scalar keyword.Str ∷ row.Scalar keyword.U8 ∷ row.Scalar keyword.U64 ∷ row.Scalar keyword.U16 ∷
      row.Scalar keyword.Never ∷ row.Scalar keyword.Opaque ∷ row.Error int ∷ row.Named 0 ∷ row.Named 1 ∷ row.Union (int ∷ str ∷ []) ∷
      row.Union (str ∷ f ∷ []) ∷ row.Struct
      (record { name = 0; ty = u8 } ∷ record { name = 1; ty = u64 } ∷ record { name = 2; ty = u16 } ∷ []) ∷
      row.Named 2 ∷ row.Named 3 ∷ row.Pointer opaque ∷ row.Union (int ∷ u8 ∷ []) ∷ row.Union (int ∷ str ∷ u8 ∷ []) ∷ row.Error h ∷
      row.Array 0 triple ∷
      row.Tuple (u8 ∷ triple ∷ []) ∷ row.Union (e ∷ f ∷ []) ∷ [];
  declared = (0, defined_as error_int) ∷ (1, defined_as e) ∷ (2, defined_as int_or_str) ∷ (3, record { sized = true; definition = None }) ∷
      [];
  listed = str ∷ int ∷ f ∷ [];
}

-- ---- bases

base-word : base_at store int ≡ Some int
base-word = refl

base-mark : base_at store error_int ≡ Some int
base-mark = refl

-- a name of a name of an error type
base-names : base_at store f ≡ Some int
base-names = refl

base-union : base_at store g ≡ Some int_or_str
base-union = refl

base-undefined : base_at store h ≡ None
base-undefined = refl

base-marked : base_at store error_h ≡ None
base-marked = refl

base-missing : base_at store 22 ≡ None
base-missing = refl

-- ---- error types

error-mark : is_error_at store error_int ≡ true
error-mark = refl

error-name : is_error_at store e ≡ true
error-name = refl

error-names : is_error_at store f ≡ true
error-names = refl

-- a union with an error member is no error type
error-member : is_error_at store str_or_f ≡ false
error-member = refl

error-word : is_error_at store int ≡ false
error-word = refl

error-undefined : is_error_at store h ≡ false
error-undefined = refl

-- a mark is one, whatever is marked
error-marked : is_error_at store error_h ≡ true
error-marked = refl

-- ---- sizes

sized-never : has_size_at store never ≡ false
sized-never = refl

sized-opaque : has_size_at store opaque ≡ false
sized-opaque = refl

sized-pointer : has_size_at store pointer ≡ true
sized-pointer = refl

-- as it is declared
sized-undefined : has_size_at store error_h ≡ true
sized-undefined = refl

extent-undefined : extent_at store h ≡ None
extent-undefined = refl

size-undefined : size_at store h ≡ 0
size-undefined = refl

align-undefined : align_at store h ≡ 1
align-undefined = refl

extent-struct : extent_at store triple ≡ Some (record { size = 24; align = 8 })
extent-struct = refl

extent-name : extent_at store f ≡ Some (record { size = 4; align = 4 })
extent-name = refl

extent-union : extent_at store g ≡ Some (record { size = 32; align = 8 })
extent-union = refl

extent-none : extent_at store none_of ≡ Some (record { size = 0; align = 8 })
extent-none = refl

extent-pair : size_at store pair ≡ 32
extent-pair = refl

-- ---- fields, payloads and tags

field-first : field_at store triple 0 ≡ Some 0
field-first = refl

field-last : field_at store triple 2 ≡ Some 2
field-last = refl

field-none : field_at store triple 3 ≡ None
field-none = refl

field-elsewhere : field_at store pair 0 ≡ None
field-elsewhere = refl

parts-struct : parts_at store triple ≡ u8 ∷ u64 ∷ u16 ∷ []
parts-struct = refl

-- of the row itself
parts-name : parts_at store g ≡ []
parts-name = refl

offset-first : offset_at store triple 0 ≡ Some 0
offset-first = refl

offset-second : offset_at store triple 1 ≡ Some 8
offset-second = refl

offset-third : offset_at store triple 2 ≡ Some 16
offset-third = refl

offset-none : offset_at store triple 3 ≡ None
offset-none = refl

offset-component : offset_at store pair 1 ≡ Some 8
offset-component = refl

payload-wide : payload_at store int_or_str ≡ Some 8
payload-wide = refl

payload-named : payload_at store g ≡ Some 8
payload-named = refl

payload-narrow : payload_at store int_or_u8 ≡ Some 4
payload-narrow = refl

payload-none : payload_at store triple ≡ None
payload-none = refl

tag-first : tag_at store str ≡ Some 1
tag-first = refl

tag-third : tag_at store f ≡ Some 3
tag-third = refl

tag-none : tag_at store u8 ≡ None
tag-none = refl

members-named : members_at store g ≡ Some (int ∷ str ∷ [])
members-named = refl

members-none : members_at store int ≡ None
members-none = refl

-- ---- ids and unions

id-row : id_of store (row.Pointer opaque) ≡ Some pointer
id-row = refl

id-none : id_of store (row.Pointer int) ≡ None
id-none = refl

-- whatever the order
union-order : union_of store (u8 ∷ int ∷ u8 ∷ []) ≡ Some int_or_u8
union-order = refl

union-none : union_of store (u8 ∷ u64 ∷ []) ≡ None
union-none = refl

-- an unnamed union brings its members, and never nothing
left-flat : left_of store (u8 ∷ never ∷ int_or_str ∷ int ∷ []) ≡ int ∷ str ∷ u8 ∷ []
left-flat = refl

-- a name of a union is a member itself
left-named : left_of store (g ∷ int ∷ []) ≡ int ∷ g ∷ []
left-named = refl

reduced-flat : reduced_of store (int_or_str ∷ int_or_u8 ∷ []) ≡ Some all_three
reduced-flat = refl

reduced-alone : reduced_of store (never ∷ int ∷ int ∷ []) ≡ Some int
reduced-alone = refl

reduced-none : reduced_of store (never ∷ never ∷ []) ≡ None
reduced-none = refl

errors-one : without_errors store str_or_f ≡ Some str
errors-one = refl

errors-all : without_errors store e_or_f ≡ Some never
errors-all = refl

errors-no : without_errors store g ≡ Some int_or_str
errors-no = refl

errors-nothing : without_errors store int ≡ None
errors-nothing = refl
