-- The words of types that are written by one word, and which kinds of nodes are types.
use Rattle.std.specs.Prelude.{ℕ, Bool, true, false, List, codes}
use Rattle.hare_tree.specs.declared.kind.Kind.{Kind}
use Rattle.hare_tree.specs.declared.kind.Kind.TheVariants as kind
use Rattle.hare_types.specs.declared.row.Scalar.{Scalar}
use Rattle.hare_types.specs.declared.row.Scalar.TheVariants as keyword

abbrev pub word_of : Scalar → List ℕ
word_of keyword.Void = codes "void"
word_of keyword.Never = codes "never"
word_of keyword.Opaque = codes "opaque"
word_of keyword.Bool = codes "bool"
word_of keyword.Rune = codes "rune"
word_of keyword.Str = codes "str"
word_of keyword.I8 = codes "i8"
word_of keyword.I16 = codes "i16"
word_of keyword.I32 = codes "i32"
word_of keyword.I64 = codes "i64"
word_of keyword.U8 = codes "u8"
word_of keyword.U16 = codes "u16"
word_of keyword.U32 = codes "u32"
word_of keyword.U64 = codes "u64"
word_of keyword.Int = codes "int"
word_of keyword.Uint = codes "uint"
word_of keyword.Size = codes "size"

abbrev pub is_type_kind : Kind → Bool
is_type_kind kind.TypeScalar = true
is_type_kind kind.TypePath = true
is_type_kind kind.TypePointer = true
is_type_kind kind.TypeNullable = true
is_type_kind kind.TypeSlice = true
is_type_kind kind.TypeError = true
is_type_kind kind.TypeArray = true
is_type_kind kind.TypeStruct = true
is_type_kind kind.TypeTuple = true
is_type_kind kind.TypeUnion = true
is_type_kind _ = false
