-- The tokens of a text, as the QBE IL reference has them, and the texts that are made of given tokens.
use Rattle.std.specs.Prelude.{◌≡◌, ℕ, ◌-◌, ◌%◌, ◌^◌, ◌<◌, ◌≤◌, ◌⊎◌, List, [], ◌∷◌, ◌++◌, Bool, true, false, not, length, ◌||◌, ◌&&◌, nat_lt, nat_le, ◌==◌, slice_index, if◌then◌else◌, IsTrue, IsFalse}
use Rattle.std.specs.List.{list_all}
use Rattle.std.specs.Str.{all_ascii_digits}
use Rattle.std.specs.Str.Parse.{digits_value}

-- a token
pub data IlToken : Type 0 where
  -- a keyword, the word of an operation, or the letter of a class or of a part
  Word : (letters : List ℕ) → IlToken
  -- a name behind its sigil: `%`, `$` or `@`
  TempName : (name : List ℕ) → IlToken
  SymbolName : (name : List ℕ) → IlToken
  LabelName : (name : List ℕ) → IlToken
  -- a number, as its 64 bits
  Numeral : (number : ℕ) → IlToken
  -- what stands between two quotes
  Quoted : (bytes : List ℕ) → IlToken
  -- one of the marks
  Mark : (byte : ℕ) → IlToken
  -- one line feed
  LineEnd : IlToken

-- ---- bytes

abbrev pub is_digit_byte : ℕ → Bool
is_digit_byte c = nat_le 48 c && nat_le c 57

-- a byte of an identifier: a letter, a digit, an underscore or a dot
abbrev pub is_name_byte : ℕ → Bool
is_name_byte c = (nat_le 97 c && nat_le c 122) || (nat_le 65 c && nat_le c 90) || is_digit_byte c || c == 95 || c == 46

-- an identifier: bytes of identifiers, of which the first is no digit
abbrev pub is_identifier : List ℕ → Bool
is_identifier [] = false
is_identifier (c ∷ s) = not (is_digit_byte c) && list_all is_name_byte (c ∷ s)

-- a byte that a string may hold: no quote, no backslash and no line feed
abbrev pub is_string_byte : ℕ → Bool
is_string_byte c = not (c == 34) && not (c == 92) && not (c == 10)

-- `=`, `{`, `}`, `(`, `)`, `,`, `+` and `:`
abbrev pub is_mark : ℕ → Bool
is_mark c = c == 61 || c == 123 || c == 125 || c == 40 || c == 41 || c == 44 || c == 43 || c == 58

-- a space, a tab or a carriage return
abbrev pub is_blank : ℕ → Bool
is_blank c = c == 32 || c == 9 || c == 13

-- ---- spellings

-- what a token holds can be spelled: names are identifiers, numbers have 64 bits, strings have bytes of strings
abbrev pub is_token : IlToken → Bool
is_token (Word w) = is_identifier w
is_token (TempName t) = is_identifier t
is_token (SymbolName s) = is_identifier s
is_token (LabelName l) = is_identifier l
is_token (Numeral n) = nat_lt n (2 ^ 64)
is_token (Quoted b) = list_all is_string_byte b
is_token (Mark c) = is_mark c
is_token LineEnd = true

-- decimal digits of a number below 2 ^ 64
pub record IsPlus (n : ℕ) (s : List ℕ) : Type 0 where
  pub digits : all_ascii_digits s ≡ true
  pub some : 0 < length s
  pub value : digits_value 10 s ≡ n

-- a minus sign and decimal digits of a number up to 2 ^ 63
pub record IsMinus (n : ℕ) (s : List ℕ) : Type 0 where
  pub digits : List ℕ
  pub is : s ≡ 45 ∷ digits
  pub all : all_ascii_digits digits ≡ true
  pub some : 0 < length digits
  pub range : digits_value 10 digits ≤ 2 ^ 63
  pub value : n ≡ (2 ^ 64 - digits_value 10 digits) % 2 ^ 64

-- these bytes are the token's
abbrev pub IsWritten : IlToken → List ℕ → Type 0
IsWritten (Word w) s = s ≡ w
IsWritten (TempName t) s = s ≡ 37 ∷ t
IsWritten (SymbolName x) s = s ≡ 36 ∷ x
IsWritten (LabelName l) s = s ≡ 64 ∷ l
IsWritten (Numeral n) s = IsPlus n s ⊎ IsMinus n s
IsWritten (Quoted b) s = s ≡ 34 ∷ (b ++ 34 ∷ [])
IsWritten (Mark c) s = s ≡ c ∷ []
IsWritten LineEnd s = s ≡ 10 ∷ []

-- the bytes spell the token
abbrev pub IsSpelling : IlToken → List ℕ → Type 0
IsSpelling t s = IsTrue (is_token t) × IsWritten t s

-- a longer token begins with the token's spelling and this byte
abbrev pub goes_on : IlToken → ℕ → Bool
goes_on (Word w) c = is_name_byte c
goes_on (TempName t) c = is_name_byte c
goes_on (SymbolName s) c = is_name_byte c
goes_on (LabelName l) c = is_name_byte c
goes_on (Numeral n) c = is_digit_byte c
goes_on (Quoted b) c = false
goes_on (Mark m) c = false
goes_on LineEnd c = false

-- the token is the longest that fits in front of this rest of the text, which reads as 0 past its end
abbrev pub IsLongest : IlToken → List ℕ → Type 0
IsLongest t rest = IsFalse (goes_on t (slice_index rest 0))

-- ---- texts

-- what stands behind a comment, which ends before its line does
abbrev pub behind_comment : List ℕ → List ℕ
behind_comment [] = []
behind_comment (c ∷ s) = if c == 10 then c ∷ s else behind_comment s

-- what stands behind the blanks at the front and behind a comment, which begins with `#`
abbrev pub behind_gap : List ℕ → List ℕ
behind_gap [] = []
behind_gap (c ∷ s) = if is_blank c then behind_gap s else if c == 35 then behind_comment s else c ∷ s

-- the text is these tokens, each the longest that fits, with blanks and comments between
abbrev pub Tokens : List ℕ → List IlToken → Type 0
Tokens text [] = behind_gap text ≡ []
Tokens text (t ∷ ts) = (s rest : List ℕ) × (behind_gap text ≡ s ++ rest) × IsSpelling t s × IsLongest t rest × Tokens rest ts
