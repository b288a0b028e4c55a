-- The type of what a node gives, before its coercion, where all rows of its list hold; none only where the store lacks a type that it
-- makes.
use Rattle.std.specs.Prelude.{ℕ, List, cond, Option, Some, None, option_and_then, bytes_eq, codes, ◌∷◌, []}
use Rattle.hare_tree.specs.declared.kind.Kind.{Kind}
use Rattle.hare_tree.specs.declared.kind.Kind.TheVariants as ki
use Rattle.hare_types.specs.declared.coercion.Ty.{Ty}
use Rattle.hare_types.specs.declared.coercion.Ty.TheVariants as ty
use Rattle.hare_types.specs.declared.row.Row.TheVariants as row
use Rattle.hare_types.specs.declared.row.Scalar.{Scalar as Keyword}
use Rattle.hare_types.specs.declared.row.Scalar.TheVariants as keyword
use Rattle.hare_types.specs.Unions.{id_of}
use Rattle.hare_rules.specs.Words.{id_in, word_id, typed_as}
use Rattle.hare_typed.specs.Given.{element_in}
use Rattle.hare_rules.specs.Context.{Context, Role, Ordinary, Callee, Length, BindingType, CaseValue, DeclaredValue, store_of, kid, own_type}
use Rattle.hare_rules.specs.Operators.{number_type, path_type, first_seen, unary_type, pointed, arith_type, shift_type, written}
use Rattle.hare_rules.specs.Aggregates.{function_called, result_of, reached, slice_of, pointer_to, member_type, rest_type, tuple_type, array_type, alloc_type, append_type}
use Rattle.hare_rules.specs.Control.{if_type, for_type, block_type, cases_type}
use Rattle.hare_rules.specs.Constants.{length_of, means_def}
use Rattle.hare_rules.specs.Written.{with_row, type_meant, struct_type, tuple_of, union_type}

abbrev pub word : Context → Keyword → Option Ty
word c k = typed_as (word_id (store_of c) k)

-- ---- words that are types

abbrev pub word_in : List (List ℕ × Keyword) → List ℕ → Option Keyword
word_in [] text = None
word_in (w ∷ ws) text = cond (bytes_eq w.0 text) (Some w.1) (word_in ws text)

abbrev pub written_words : List (List ℕ × Keyword)
written_words =
    (codes "void", keyword.Void) ∷ (codes "never", keyword.Never) ∷ (codes "opaque", keyword.Opaque) ∷ (codes "bool", keyword.Bool)
    ∷ (codes "rune", keyword.Rune) ∷ (codes "str", keyword.Str) ∷ (codes "i8", keyword.I8) ∷ (codes "i16", keyword.I16) ∷
    (codes "i32", keyword.I32)
    ∷ (codes "i64", keyword.I64) ∷ (codes "u8", keyword.U8) ∷ (codes "u16", keyword.U16) ∷ (codes "u32", keyword.U32) ∷
    (codes "u64", keyword.U64)
    ∷ (codes "int", keyword.Int) ∷ (codes "uint", keyword.Uint) ∷ (codes "size", keyword.Size) ∷ []

abbrev pub scalar_type : Context → Option Ty
scalar_type c = option_and_then (word c) (word_in written_words c.head.text)

abbrev pub array_of : Context → Option ℕ → Option ℕ → Option Ty
array_of c (Some n) (Some t) = typed_as (id_of (store_of c) (row.Array n t))
array_of c _ _ = None

-- ---- by kinds

abbrev pub type_by : Context → Kind → Option Ty
type_by c ki.Number = number_type c
type_by c ki.Str = word c keyword.Str
type_by c ki.RuneLit = word c keyword.Rune
type_by c ki.Bool = word c keyword.Bool
type_by c ki.Null = Some ty.Null
type_by c ki.Void = word c keyword.Void
type_by c ki.Path = path_type c c.meaning
type_by c ki.Paren = Some (first_seen c)
type_by c ki.Neg = unary_type c.head.kind (first_seen c)
type_by c ki.Not = unary_type c.head.kind (first_seen c)
type_by c ki.Bang = Some (first_seen c)
type_by c ki.Deref = typed_as (pointed (store_of c) (first_seen c))
type_by c ki.Addr = typed_as (pointer_to (store_of c) (id_in (first_seen c)))
type_by c ki.Arith = arith_type c
type_by c ki.Shift = shift_type c
type_by c ki.Less = word c keyword.Bool
type_by c ki.Equal = word c keyword.Bool
type_by c ki.Logic = word c keyword.Bool
type_by c ki.Cast = typed_as (written c 1)
type_by c ki.As = typed_as (written c 1)
type_by c ki.Is = word c keyword.Bool
type_by c ki.Size = word c keyword.Size
type_by c ki.Align = word c keyword.Size
type_by c ki.Call = result_of (function_called c)
type_by c ki.Index = typed_as (element_in (reached (store_of c) (kid c 0)))
type_by c ki.Slice = typed_as (slice_of (store_of c) (element_in (reached (store_of c) (kid c 0))))
type_by c ki.Field = typed_as (member_type c (reached (store_of c) (kid c 0)))
type_by c ki.Try = rest_type c
type_by c ki.Force = rest_type c
type_by c ki.StructLit = Some (own_type (kid c 0))
type_by c ki.Tuple = tuple_type c
type_by c ki.Array = array_type c
type_by c ki.Alloc = alloc_type c
type_by c ki.Append = append_type c
type_by c ki.Len = word c keyword.Size
type_by c ki.Offset = word c keyword.Size
type_by c ki.Abort = word c keyword.Never
type_by c ki.If = if_type c
type_by c ki.For = for_type c
type_by c ki.Break = word c keyword.Never
type_by c ki.Continue = word c keyword.Never
type_by c ki.Return = word c keyword.Never
type_by c ki.Yield = word c keyword.Never
type_by c ki.Block = block_type c
type_by c ki.Case = block_type c
type_by c ki.SwitchCase = block_type c
type_by c ki.Match = cases_type c
type_by c ki.Switch = cases_type c
type_by c ki.TypeScalar = scalar_type c
type_by c ki.TypePath = type_meant c c.meaning
type_by c ki.TypePointer = with_row c row.Pointer
type_by c ki.TypeNullable = with_row c row.Nullable
type_by c ki.TypeSlice = with_row c row.Slice
type_by c ki.TypeError = with_row c row.Error
type_by c ki.TypeArray = array_of c (length_of c.setting (kid c 0)) (written c 1)
type_by c ki.TypeStruct = struct_type c
type_by c ki.TypeTuple = tuple_of c
type_by c ki.TypeUnion = union_type c
type_by c _ = word c keyword.Void

-- the length of an array has the type of its literal, or that of the def that it names
abbrev pub length_type : Context → Kind → Option Ty
length_type c ki.Number = number_type c
length_type c ki.Path = cond (means_def c.setting c.meaning) (path_type c c.meaning) (word c keyword.Void)
length_type c _ = word c keyword.Void

-- A path that is called is not judged, and has no value.
abbrev pub type_in_role : Context → Role → Option Ty
type_in_role c Callee = word c keyword.Void
type_in_role c Length = length_type c c.head.kind
type_in_role c Ordinary = type_by c c.head.kind
type_in_role c BindingType = type_by c c.head.kind
type_in_role c CaseValue = type_by c c.head.kind
type_in_role c DeclaredValue = type_by c c.head.kind

abbrev pub type_of : Context → Option Ty
type_of c = type_in_role c c.inside.role
