-- The first token of a text, as the lexer finds it: by its first byte. No public clause cites it.
use Rattle.std.specs.Prelude.{◌≡◌, ℕ, List, [], ◌∷◌, ◌++◌, Option, Some, None, codes, ◌==◌, bytes_eq, slice_index, take, drop, if◌then◌else◌, ◌^◌, nat_lt, length, ◌&&◌, option_and_then}
use Rattle.std.specs.List.{prefix_len}
use Rattle.std.specs.Char.{is_ascii_digit}
use Rattle.std.specs.Str.Parse.{digits_value}
use Rattle.hare_tree.specs.Words.{is_blank, is_letter, is_word_byte}
use Rattle.hare_blocks.specs.declared.token.Token.{Token}
use Rattle.hare_blocks.specs.declared.token.Token.TheVariants.{Use, Export, Function, Void, U8, Let, If, Else, For, True, Semicolon, OpenParen, CloseParen, OpenBrace, CloseBrace, Assign, Colon, PathSeparator, Plus, Minus, Star, Less, LessEqual, Greater, GreaterEqual, Equal, Differ, Number, Name, Text}
use Rattle.hare_blocks.specs.Tokens.{IsSpelling, IsLongest, goes_on, is_name, is_plain}

-- the text begins with the token, the longest that fits, and the rest stands behind it
pub record Begins (text : List ℕ) (t : Token) (rest : List ℕ) : Type 0 where
  pub spelling : List ℕ
  pub spelled : IsSpelling t spelling
  pub longest : IsLongest t rest
  pub joined : text ≡ spelling ++ rest

-- a step that may find nothing, and one behind it
infixl 10 ◌>>=◌
abbrev pub ◌>>=◌ : {A B : Type 0} → Option A → (A → Option B) → Option B
o >>= f = option_and_then f o

-- ---- numbers

-- the number that decimal digits spell, where it is below 2 ^ 64
abbrev pub number_of : List ℕ → Option ℕ
number_of digits = if length digits == 0 then None else if nat_lt (digits_value 10 digits) (2 ^ 64) then Some (digits_value 10 digits) else
    None

abbrev pub number_behind : ℕ → List ℕ → Option (ℕ × List ℕ)
number_behind n s = do
  k ← number_of (take n s)
  Some (k, drop n s)

-- the number that the digits at the front spell, and what stands behind them
unfoldable pub number_at : List ℕ → Option (ℕ × List ℕ)
number_at s = number_behind (prefix_len is_ascii_digit s) s

-- what stands behind a byte
abbrev pub behind_byte : ℕ → List ℕ → Option (List ℕ)
behind_byte b [] = None
behind_byte b (c ∷ s) = if c == b then Some s else None

unfoldable pub number_token_at : List ℕ → Option (Token × List ℕ)
number_token_at s = do
  n ← number_at s
  rest ← behind_byte 122 n.1
  Some (Number n.0, rest)

-- ---- words

unfoldable pub keyword : List ℕ → Option Token
keyword w =
    if bytes_eq w (codes "use") then Some Use
    else if bytes_eq w (codes "export") then Some Export
    else if bytes_eq w (codes "fn") then Some Function
    else if bytes_eq w (codes "void") then Some Void
    else if bytes_eq w (codes "u8") then Some U8
    else if bytes_eq w (codes "let") then Some Let
    else if bytes_eq w (codes "if") then Some If
    else if bytes_eq w (codes "else") then Some Else
    else if bytes_eq w (codes "for") then Some For
    else if bytes_eq w (codes "true") then Some True
    else None

unfoldable pub name : List ℕ → Option Token
name w = if is_name w then Some (Name w) else None

-- the first that there is
abbrev pub either : Option Token → Option Token → Option Token
either None o = o
either (Some t) o = Some t

-- the keyword or the name of a word
unfoldable pub word_token : List ℕ → Option Token
word_token w = either (keyword w) (name w)

abbrev pub word_behind : ℕ → List ℕ → Option (Token × List ℕ)
word_behind n s = do
  t ← word_token (take n s)
  Some (t, drop n s)

-- the token of the word at the front
unfoldable pub word_token_at : List ℕ → Option (Token × List ℕ)
word_token_at s = word_behind (prefix_len is_word_byte s) s

-- ---- strings

abbrev pub text_behind : ℕ → List ℕ → Option (Token × List ℕ)
text_behind n s = do
  rest ← behind_byte 34 (drop n s)
  Some (Text (take n s), rest)

-- the string whose opening quote stands in front of these bytes
unfoldable pub text_token_at : List ℕ → Option (Token × List ℕ)
text_token_at s = text_behind (prefix_len is_plain s) s

-- ---- marks

-- the mark of two bytes
unfoldable pub long_mark : ℕ → ℕ → Option Token
long_mark c d =
    if c == 58 && d == 58 then Some PathSeparator
    else if c == 61 && d == 61 then Some Equal
    else if c == 33 && d == 61 then Some Differ
    else if c == 60 && d == 61 then Some LessEqual
    else if c == 62 && d == 61 then Some GreaterEqual
    else None

-- the mark of one byte
unfoldable pub mark : ℕ → Option Token
mark c =
    if c == 59 then Some Semicolon
    else if c == 40 then Some OpenParen
    else if c == 41 then Some CloseParen
    else if c == 123 then Some OpenBrace
    else if c == 125 then Some CloseBrace
    else if c == 61 then Some Assign
    else if c == 58 then Some Colon
    else if c == 43 then Some Plus
    else if c == 45 then Some Minus
    else if c == 42 then Some Star
    else if c == 60 then Some Less
    else if c == 62 then Some Greater
    else None

-- a mark of one byte, where no longer token goes on
abbrev pub ended : Token → List ℕ → Option (Token × List ℕ)
ended t rest = if goes_on t (slice_index rest 0) then None else Some (t, rest)

unfoldable pub short_mark_at : ℕ → List ℕ → Option (Token × List ℕ)
short_mark_at c rest = do
  t ← mark c
  ended t rest

-- a mark of two bytes, or else of one
abbrev pub longer : Option Token → ℕ → ℕ → List ℕ → Option (Token × List ℕ)
longer None c d rest = short_mark_at c (d ∷ rest)
longer (Some t) c d rest = Some (t, rest)

-- the mark of this byte and the rest behind it
unfoldable pub mark_at : ℕ → List ℕ → Option (Token × List ℕ)
mark_at c [] = short_mark_at c []
mark_at c (d ∷ rest) = longer (long_mark c d) c d rest

-- ---- tokens

unfoldable pub token_at : List ℕ → Option (Token × List ℕ)
token_at [] = None
token_at (c ∷ s) =
    if is_ascii_digit c then number_token_at (c ∷ s)
    else if is_letter c then word_token_at (c ∷ s)
    else if c == 34 then text_token_at s
    else mark_at c s

-- what stands behind the blanks
abbrev pub unblanked : List ℕ → List ℕ
unblanked s = drop (prefix_len is_blank s) s
