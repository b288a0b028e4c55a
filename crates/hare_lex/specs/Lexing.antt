-- What the private functions of the lexer give, one definition for each, of the same name and in the same order. Of these, clauses
-- of public calls cite `text_of` alone: hare_tree's Tokens.antt says what a file's tokens are.
use Rattle.std.specs.Prelude.{ℕ, zero, suc, ◌+◌, ◌-◌, ◌^◌, ◌≤◌, List, [], ◌∷◌, ◌++◌, Bool, true, false, Option, Some, None, codes, length, ◌||◌, ◌&&◌, not, ◌==◌, bytes_eq, nat_lt, nat_le, slice_index, slice_get, take, drop, encode_utf8, if◌then◌else◌}
use Rattle.std.specs.List.{prefix_len}
use Rattle.std.specs.Char.{is_digit, is_ascii_digit}
use Rattle.std.specs.Str.{chars, is_utf8}
use Rattle.std.specs.Str.Parse.{digits_value}
use lib.Utf8.{scalar}
use Rattle.hare_tree.specs.declared.place.Place.{Place}
use Rattle.hare_tree.specs.declared.token.TokenKind.{TokenKind}
use Rattle.hare_tree.specs.declared.token.TokenKind.TheVariants.{Name, Keyword, Number, Str, RuneLit, Mark, End}
use Rattle.hare_tree.specs.declared.token.Suffix.{Suffix}
use Rattle.hare_tree.specs.declared.token.Suffix.TheVariants as suffix
use Rattle.hare_lex.specs.declared.number.Number as number
use Rattle.hare_lex.specs.declared.front.Found.{Found}
use Rattle.hare_lex.specs.declared.front.Found.TheVariants as found
use Rattle.hare_tree.specs.Words.{is_blank, is_letter, is_word_byte, is_listed, is_left_out, keywords, marks, begins_fraction}
use Rattle.hare_tree.specs.Spelling.{escaped, hex_len, is_hex}
use Rattle.hare_tree.specs.Tokens.{is_one_escape}

-- ---- words and marks

-- the length of the longest of the words, of at most three bytes, at the front
unfoldable pub longest : List (List ℕ) → List ℕ → ℕ
longest words s =
    if is_listed words (take 3 s) then length (take 3 s)
    else if is_listed words (take 2 s) then length (take 2 s)
    else if is_listed words (take 1 s) then length (take 1 s)
    else 0

abbrev pub suffixes : List (List ℕ)
suffixes =
    codes "i8" ∷ codes "i16" ∷ codes "i32" ∷ codes "i64" ∷ codes "u8" ∷ codes "u16" ∷ codes "u32" ∷ codes "u64" ∷ codes "i" ∷ codes "u"
    ∷ codes "z" ∷ []

unfoldable pub suffix_named : List ℕ → Suffix
suffix_named s =
    if bytes_eq s (codes "i8") then suffix.I8
    else if bytes_eq s (codes "i16") then suffix.I16
    else if bytes_eq s (codes "i32") then suffix.I32
    else if bytes_eq s (codes "i64") then suffix.I64
    else if bytes_eq s (codes "u8") then suffix.U8
    else if bytes_eq s (codes "u16") then suffix.U16
    else if bytes_eq s (codes "u32") then suffix.U32
    else if bytes_eq s (codes "u64") then suffix.U64
    else if bytes_eq s (codes "i") then suffix.I
    else if bytes_eq s (codes "u") then suffix.U
    else if bytes_eq s (codes "z") then suffix.Z
    else suffix.None

-- ---- blanks and comments

-- the text begins with `//`
abbrev pub begins_comment : List ℕ → Bool
begins_comment s = slice_index s 0 == 47 && slice_index s 1 == 47

-- what stands behind the blanks and comments, from within a comment or not
abbrev pub skipped : Bool → List ℕ → List ℕ
skipped in_comment [] = []
skipped true (c ∷ s) = skipped (not (c == 10)) s
skipped false (c ∷ s) =
    if c == 47 && slice_index s 0 == 47 then skipped true s
    else if is_blank c then skipped false s
    else c ∷ s

-- the place behind one more byte
abbrev pub step : Place → ℕ → Place
step p c = if c == 10 then record { file = p.file; line = p.line + 1; column = 1 } else
    record { file = p.file; line = p.line; column = p.column + 1 }

abbrev pub advanced : Place → List ℕ → Place
advanced p [] = p
advanced p (c ∷ s) = advanced (step p c) s

-- ---- numbers

abbrev pub radix_of : List ℕ → ℕ
radix_of s =
    if slice_index s 0 == 48 && slice_index s 1 == 120 && is_digit (slice_index s 2) 16 then 16
    else if slice_index s 0 == 48 && slice_index s 1 == 111 && is_digit (slice_index s 2) 8 then 8
    else if slice_index s 0 == 48 && slice_index s 1 == 98 && is_digit (slice_index s 2) 2 then 2
    else 10

abbrev pub value_of : ℕ → List ℕ → Option ℕ
value_of r ds = if nat_lt (digits_value r ds) (2 ^ 127) then Some (digits_value r ds) else None

abbrev pub mark_len_of : ℕ → ℕ
mark_len_of r = if r == 10 then 0 else 2

-- the number of radix r whose digits begin the text, behind a mark of n bytes
unfoldable pub number_in : ℕ → ℕ → List ℕ → number.Number
number_in r n s =
    let count = prefix_len (λ c. is_digit c r) s in
    let end = longest suffixes (drop count s) in
    record { len = n + count + end; value = value_of r (take count s); suffix = suffix_named (take end (drop count s)) }

abbrev pub number_at : List ℕ → number.Number
number_at s = number_in (radix_of s) (mark_len_of (radix_of s)) (drop (mark_len_of (radix_of s)) s)

-- ---- literals

abbrev pub takes : ℕ → Bool → ℕ → Bool
takes quote taken c = not taken && c == 92 && not (quote == 96)

-- the place of the closing quote, for a text that begins at `at`
abbrev pub closing : ℕ → Bool → ℕ → List ℕ → Option ℕ
closing quote taken at [] = None
closing quote taken at (c ∷ s) = if not taken && c == quote then Some at else closing quote (takes quote taken c) (at + 1) s

-- the character with this value
abbrev pub scalar_of : ℕ → Option ℕ
scalar_of v = if scalar v then Some v else None

-- the escape of hexadecimal digits behind a backslash and the byte c: its character, and its length behind the backslash
abbrev pub hex_end : ℕ → ℕ → Option ℕ → Option (ℕ × ℕ)
hex_end c n None = None
hex_end c n (Some v) = if c == 120 && nat_le 128 v then None else Some (v, 1 + n)

abbrev pub hex_value_of : ℕ → ℕ → List ℕ → Option (ℕ × ℕ)
hex_value_of c n ds =
    if not (length ds == n) || not (is_hex ds) then None
    else hex_end c n (elim (value_of 16 ds) as (λ _. Option ℕ) [ None ↦ None | Some v ↦ scalar_of v ])

abbrev pub hex_escape : ℕ → List ℕ → Option (ℕ × ℕ)
hex_escape c s = elim (hex_len c) as (λ _. Option (ℕ × ℕ)) [ None ↦ None | Some n ↦ hex_value_of c n (take n s) ]

abbrev pub escape : List ℕ → Option (ℕ × ℕ)
escape [] = None
escape (c ∷ s) = elim (escaped c) as (λ _. Option (ℕ × ℕ)) [ None ↦ hex_escape c s | Some v ↦ Some (v, 1) ]

abbrev pub only_char : List ℕ → Option ℕ
only_char s = if length (chars s) == 1 then slice_get (chars s) 0 else None

abbrev pub character : List ℕ → Option ℕ
character s = if is_utf8 s then only_char s else None

abbrev pub whole_escape : ℕ → Option (ℕ × ℕ) → Option ℕ
whole_escape n None = None
whole_escape n (Some r) = if r.1 + 1 == n then Some r.0 else None

abbrev pub one : List ℕ → Option ℕ
one content = if slice_index content 0 == 92 then whole_escape (length content) (escape (drop 1 content)) else character content

abbrev pub is_hex_of : ℕ → ℕ → List ℕ → Bool
is_hex_of first len s = slice_index s 0 == first && length s == len && is_hex (drop 1 s)

-- ---- strings

-- Behind the next n bytes, how many bytes are left from the first backslash on that begins no escape.
abbrev pub bad_escape : ℕ → List ℕ → Option ℕ
bad_escape n [] = None
bad_escape (suc n) (c ∷ s) = bad_escape n s
bad_escape zero (c ∷ s) =
    if c == 92 then elim (escape s) as (λ _. Option ℕ) [ None ↦ Some (length (c ∷ s)) | Some r ↦ bad_escape r.1 s ]
    else bad_escape zero s

abbrev pub escape_at : ℕ → List ℕ → Option (ℕ × ℕ)
escape_at first behind = if first == 92 then escape behind else None

-- The bytes behind the next n, with each escape replaced by its character.
abbrev pub unescaped : ℕ → List ℕ → List ℕ
unescaped n [] = []
unescaped (suc n) (c ∷ s) = unescaped n s
unescaped zero (c ∷ s) = elim (escape_at c s) as (λ _. List ℕ) [ None ↦ c ∷ unescaped zero s | Some r ↦ encode_utf8 r.0 ++ unescaped r.1 s ]

-- ---- the token at the front

-- the literal or the fault lies in the text, which is what stands behind the opening quote, and the literal has both of its quotes
abbrev pub Behind : List ℕ → Found → Type 0
Behind s (found.Token kind len n x) = (2 ≤ len) × (len ≤ length s + 1)
Behind s (found.Fault n offset) = offset ≤ length s + 1

abbrev pub plain : TokenKind → ℕ → Found
plain kind len = found.Token kind len 0 suffix.None

abbrev pub word_front : Bool → List ℕ → Found
word_front behind_path s =
    let n = prefix_len is_word_byte s in
    if is_left_out behind_path (take n s) then found.Fault 10 0
    else if is_listed keywords (take n s) then plain Keyword n
    else plain Name n

abbrev pub number_front : List ℕ → Found
number_front s =
    elim (number_at s).value as (λ _. Found) [
      | None ↦ found.Fault 7 0
      | Some v ↦ if begins_fraction s then found.Fault 10 0 else found.Token Number (number_at s).len v (number_at s).suffix
    ]

abbrev pub string_end : ℕ → Option ℕ → Found
string_end len None = plain Str (len + 2)
string_end len (Some left) = found.Fault 5 (1 + (len - left))

abbrev pub string_front : List ℕ → Found
string_front behind =
    elim (closing 34 false 0 behind) as (λ _. Found) [ None ↦ found.Fault 6 0 | Some len ↦ string_end len (bad_escape 0 (take len behind)) ]

abbrev pub raw_front : List ℕ → Found
raw_front behind = elim (closing 96 false 0 behind) as (λ _. Found) [ None ↦ found.Fault 6 0 | Some len ↦ plain Str (len + 2) ]

abbrev pub rune_end : ℕ → List ℕ → Option ℕ → Found
rune_end len content None = found.Fault 5 (if is_one_escape content then 1 else 0)
rune_end len content (Some v) = found.Token RuneLit (len + 2) v suffix.None

abbrev pub rune_front : List ℕ → Found
rune_front behind =
    elim (closing 39 false 0 behind) as (λ _. Found)
    [ None ↦ found.Fault 6 0 | Some len ↦ rune_end len (take len behind) (one (take len behind)) ]

abbrev pub mark_front : List ℕ → Found
mark_front s = if longest marks s == 0 then found.Fault 4 0 else plain Mark (longest marks s)

unfoldable pub at_front : Bool → List ℕ → Found
at_front behind_path s =
    let first = slice_index s 0 in
    if is_letter first then word_front behind_path s
    else if is_ascii_digit first then number_front s
    else if first == 34 then string_front (drop 1 s)
    else if first == 96 then raw_front (drop 1 s)
    else if first == 39 then rune_front (drop 1 s)
    else if first == 64 then found.Fault 10 0
    else mark_front s

-- ---- the text of a token

-- what stands between the quotes
abbrev pub inner : List ℕ → List ℕ
inner s = take (length s - 2) (drop 1 s)

abbrev pub string_text : List ℕ → List ℕ
string_text s = if slice_index s 0 == 34 then unescaped 0 (inner s) else inner s

abbrev pub text_of : TokenKind → List ℕ → List ℕ
text_of Str s = string_text s
text_of Name s = s
text_of Keyword s = s
text_of Number s = s
text_of RuneLit s = s
text_of Mark s = s
text_of End s = s
