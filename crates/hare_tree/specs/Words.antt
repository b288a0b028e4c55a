-- The bytes and words of Hare's lexical grammar: classes of bytes, the keywords, the words left out of the language, and the marks.
-- Words are those of the Hare specification's chapter on lexical elements.
use Rattle.std.specs.Prelude.{ℕ, List, [], ◌∷◌, Bool, false, codes, ◌||◌, ◌&&◌, not, ◌==◌, bytes_eq, slice_index, drop}
use Rattle.std.specs.List.{list_all, list_any, prefix_len}
use Rattle.std.specs.Char.{is_ascii_alphabetic, is_ascii_digit}
use Rattle.hare_tree.specs.declared.token.Suffix.{Suffix}
use Rattle.hare_tree.specs.declared.token.Suffix.TheVariants as suffix

-- ---- bytes

-- a space, a tab, a line feed or a carriage return
abbrev pub is_blank : ℕ → Bool
is_blank c = c == 32 || c == 9 || c == 10 || c == 13

-- a letter A to Z or a to z, or an underscore
abbrev pub is_letter : ℕ → Bool
is_letter c = is_ascii_alphabetic c || c == 95

-- a letter, a digit or an underscore
abbrev pub is_word_byte : ℕ → Bool
is_word_byte c = is_letter c || is_ascii_digit c

abbrev pub is_not_feed : ℕ → Bool
is_not_feed c = not (c == 10)

-- ---- words

-- a letter or underscore, then letters, digits and underscores
abbrev pub is_word : List ℕ → Bool
is_word [] = false
is_word (c ∷ s) = is_letter c && list_all is_word_byte s

-- the bytes stand in the list
abbrev pub is_listed : List (List ℕ) → List ℕ → Bool
is_listed words s = list_any (λ w. bytes_eq w s) words

abbrev pub keywords : List (List ℕ)
keywords =
    codes "abort" ∷ codes "align" ∷ codes "alloc" ∷ codes "append" ∷ codes "as" ∷ codes "assert" ∷ codes "bool" ∷ codes "break" ∷
    codes "case"
    ∷ codes "const" ∷ codes "continue" ∷ codes "def" ∷ codes "defer" ∷ codes "delete" ∷ codes "else" ∷ codes "export" ∷ codes "false"
    ∷ codes "fn" ∷ codes "for" ∷ codes "free" ∷ codes "i16" ∷ codes "i32" ∷ codes "i64" ∷ codes "i8" ∷ codes "if" ∷ codes "int" ∷ codes "is"
    ∷ codes "len" ∷ codes "let" ∷ codes "match" ∷ codes "never" ∷ codes "null" ∷ codes "nullable" ∷ codes "offset" ∷ codes "opaque"
    ∷ codes "return" ∷ codes "rune" ∷ codes "size" ∷ codes "str" ∷ codes "struct" ∷ codes "switch" ∷ codes "true" ∷ codes "type"
    ∷ codes "u16" ∷ codes "u32" ∷ codes "u64" ∷ codes "u8" ∷ codes "uint" ∷ codes "use" ∷ codes "void" ∷ codes "yield" ∷ []

-- words of Hare that this language leaves out
abbrev pub left_out : List (List ℕ)
left_out =
    codes "done" ∷ codes "enum" ∷ codes "f32" ∷ codes "f64" ∷ codes "insert" ∷ codes "nomem" ∷ codes "static" ∷ codes "uintptr"
    ∷ codes "union" ∷ codes "vaarg" ∷ codes "vaend" ∷ codes "valist" ∷ codes "vastart" ∷ codes "_" ∷ []

-- a left-out word that is no name where it stands: `nomem` is a name behind `::`
abbrev pub is_left_out : Bool → List ℕ → Bool
is_left_out behind_path s = is_listed left_out s && not (behind_path && bytes_eq s (codes "nomem"))

-- ---- marks

abbrev pub marks : List (List ℕ)
marks =
    codes "!" ∷ codes "!=" ∷ codes "%" ∷ codes "%=" ∷ codes "&" ∷ codes "&=" ∷ codes "&&" ∷ codes "(" ∷ codes ")" ∷ codes "*" ∷ codes "*="
    ∷ codes "+" ∷ codes "+=" ∷ codes "," ∷ codes "-" ∷ codes "-=" ∷ codes "." ∷ codes ".." ∷ codes "..." ∷ codes "/" ∷ codes "/="
    ∷ codes ":" ∷ codes "::" ∷ codes ";" ∷ codes "<" ∷ codes "<<" ∷ codes "<<=" ∷ codes "<=" ∷ codes "=" ∷ codes "==" ∷ codes "=>"
    ∷ codes ">" ∷ codes ">=" ∷ codes ">>" ∷ codes ">>=" ∷ codes "?" ∷ codes "[" ∷ codes "]" ∷ codes "^" ∷ codes "^=" ∷ codes "^^"
    ∷ codes "{" ∷ codes "|" ∷ codes "|=" ∷ codes "||" ∷ codes "}" ∷ codes "~" ∷ []

-- ---- numbers

-- the bases of numbers
pub data Base : Type 0 where
  Decimal : Base
  Hexadecimal : Base
  Octal : Base
  Binary : Base

abbrev pub radix : Base → ℕ
radix Decimal = 10
radix Hexadecimal = 16
radix Octal = 8
radix Binary = 2

-- what a number of the base begins with
abbrev pub base_mark : Base → List ℕ
base_mark Decimal = []
base_mark Hexadecimal = codes "0x"
base_mark Octal = codes "0o"
base_mark Binary = codes "0b"

abbrev pub suffix_word : Suffix → List ℕ
suffix_word suffix.None = []
suffix_word suffix.I8 = codes "i8"
suffix_word suffix.I16 = codes "i16"
suffix_word suffix.I32 = codes "i32"
suffix_word suffix.I64 = codes "i64"
suffix_word suffix.U8 = codes "u8"
suffix_word suffix.U16 = codes "u16"
suffix_word suffix.U32 = codes "u32"
suffix_word suffix.U64 = codes "u64"
suffix_word suffix.I = codes "i"
suffix_word suffix.U = codes "u"
suffix_word suffix.Z = codes "z"

-- `.` and a digit, or an exponent: `e` or `E`, at most one sign, and a digit. A text reads as 0 past its end.
abbrev pub goes_on_as_fraction : List ℕ → Bool
goes_on_as_fraction s =
    (slice_index s 0 == 46 && is_ascii_digit (slice_index s 1))
    || ((slice_index s 0 == 101 || slice_index s 0 == 69)
    && (is_ascii_digit (slice_index s 1) || ((slice_index s 1 == 43 || slice_index s 1 == 45) && is_ascii_digit (slice_index s 2))))

-- the text begins with decimal digits that go on as a number with a fraction or an exponent, which this language leaves out
abbrev pub begins_fraction : List ℕ → Bool
begins_fraction s = is_ascii_digit (slice_index s 0) && goes_on_as_fraction (drop (prefix_len is_ascii_digit s) s)
