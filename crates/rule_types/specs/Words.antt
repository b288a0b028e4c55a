-- The words that are types, but for the first three.
use Rattle.std.specs.Prelude.{ℕ, List, [], ◌∷◌, codes}
use Rattle.hare_types.specs.declared.row.Scalar.{Scalar as Keyword}
use Rattle.hare_types.specs.declared.row.Scalar.TheVariants as keyword

abbrev pub plain_words : List (List ℕ × Keyword)
plain_words = (codes "int", keyword.Int) ∷ (codes "uint", keyword.Uint) ∷ (codes "size", keyword.Size) ∷ []

-- those without a sign, and those
abbrev pub unsigned_words : List (List ℕ × Keyword)
unsigned_words = (codes "u8", keyword.U8) ∷ (codes "u16", keyword.U16) ∷ (codes "u32", keyword.U32) ∷ (codes "u64", keyword.U64) ∷
    plain_words

-- those with a sign, and those
abbrev pub integer_words : List (List ℕ × Keyword)
integer_words = (codes "i8", keyword.I8) ∷ (codes "i16", keyword.I16) ∷ (codes "i32", keyword.I32) ∷ (codes "i64", keyword.I64) ∷
    unsigned_words

-- bool, rune, str, and all of those
abbrev pub scalar_words : List (List ℕ × Keyword)
scalar_words = (codes "bool", keyword.Bool) ∷ (codes "rune", keyword.Rune) ∷ (codes "str", keyword.Str) ∷ integer_words

-- all but void
abbrev pub other_words : List (List ℕ × Keyword)
other_words = (codes "never", keyword.Never) ∷ (codes "opaque", keyword.Opaque) ∷ scalar_words
