-- The tokens of a file of the class, and the texts that spell them. The words are those of the Hare specification's chapter on
-- lexical elements, cut to what the class can hold.
use Rattle.std.specs.Prelude.{◌≡◌, ℕ, ◌^◌, ◌<◌, List, [], ◌∷◌, ◌++◌, Bool, true, false, codes, length, ◌||◌, ◌&&◌, not, nat_le, ◌==◌, slice_index, IsTrue, IsFalse}
use Rattle.std.specs.List.{list_all, AllByRecursion}
use Rattle.std.specs.Str.{all_ascii_digits}
use Rattle.std.specs.Str.Parse.{digits_value}
use Rattle.hare_tree.specs.Words.{is_blank, is_word, is_word_byte, is_listed, is_left_out, keywords}
use Rattle.hare_blocks.specs.declared.token.Token.{Token}
use Rattle.hare_blocks.specs.declared.token.Token.TheVariants.{Use, Export, Function, Void, U8, Let, If, Else, For, True, Semicolon, OpenParen, CloseParen, OpenBrace, CloseBrace, Assign, Colon, PathSeparator, Plus, Minus, Star, Less, LessEqual, Greater, GreaterEqual, Equal, Differ, Number, Name, Text}

-- a word that is a name: neither a keyword nor left out of the language
abbrev pub is_name : List ℕ → Bool
is_name s = is_word s && (not (is_listed keywords s) && not (is_left_out false s))

-- a character that may stand in a string: 32 to 126, but neither the double quote nor the backslash
abbrev pub is_plain : ℕ → Bool
is_plain c = nat_le 32 c && nat_le c 126 && not (c == 34) && not (c == 92)

-- These bytes spell the token. A number has decimal digits and the suffix z, and is below 2 ^ 64; a string stands between double quotes.
abbrev pub IsSpelling : Token → List ℕ → Type 0
IsSpelling Use s = s ≡ codes "use"
IsSpelling Export s = s ≡ codes "export"
IsSpelling Function s = s ≡ codes "fn"
IsSpelling Void s = s ≡ codes "void"
IsSpelling U8 s = s ≡ codes "u8"
IsSpelling Let s = s ≡ codes "let"
IsSpelling If s = s ≡ codes "if"
IsSpelling Else s = s ≡ codes "else"
IsSpelling For s = s ≡ codes "for"
IsSpelling True s = s ≡ codes "true"
IsSpelling Semicolon s = s ≡ codes ";"
IsSpelling OpenParen s = s ≡ codes "("
IsSpelling CloseParen s = s ≡ codes ")"
IsSpelling OpenBrace s = s ≡ 123 ∷ []
IsSpelling CloseBrace s = s ≡ 125 ∷ []
IsSpelling Assign s = s ≡ codes "="
IsSpelling Colon s = s ≡ codes ":"
IsSpelling PathSeparator s = s ≡ codes "::"
IsSpelling Plus s = s ≡ codes "+"
IsSpelling Minus s = s ≡ codes "-"
IsSpelling Star s = s ≡ codes "*"
IsSpelling Less s = s ≡ codes "<"
IsSpelling LessEqual s = s ≡ codes "<="
IsSpelling Greater s = s ≡ codes ">"
IsSpelling GreaterEqual s = s ≡ codes ">="
IsSpelling Equal s = s ≡ codes "=="
IsSpelling Differ s = s ≡ codes "!="
IsSpelling (Number n) s = (digits : List ℕ) × (s ≡ digits ++ codes "z") × (all_ascii_digits digits ≡ true) × (0 < length digits) ×
    (digits_value 10 digits ≡ n) × (n < 2 ^ 64)
IsSpelling (Name name) s = (s ≡ name) × (is_name name ≡ true)
IsSpelling (Text text) s = (s ≡ 34 ∷ (text ++ 34 ∷ [])) × (list_all is_plain text ≡ true)

abbrev pub AllBlank : List ℕ → Type 0
AllBlank s = AllByRecursion (λ c. IsTrue (is_blank c)) s

-- Some longer token begins with the token's spelling and this byte: a longer word behind a word, `::` behind a colon, `==` and `=>`
-- behind `=`, the assignments `+=`, `-=` and `*=`, and `<=`, `<<`, `>=` and `>>`. No token goes on behind a number's suffix or a string.
abbrev pub goes_on : Token → ℕ → Bool
goes_on Use c = is_word_byte c
goes_on Export c = is_word_byte c
goes_on Function c = is_word_byte c
goes_on Void c = is_word_byte c
goes_on U8 c = is_word_byte c
goes_on Let c = is_word_byte c
goes_on If c = is_word_byte c
goes_on Else c = is_word_byte c
goes_on For c = is_word_byte c
goes_on True c = is_word_byte c
goes_on Semicolon c = false
goes_on OpenParen c = false
goes_on CloseParen c = false
goes_on OpenBrace c = false
goes_on CloseBrace c = false
goes_on Assign c = c == 61 || c == 62
goes_on Colon c = c == 58
goes_on PathSeparator c = false
goes_on Plus c = c == 61
goes_on Minus c = c == 61
goes_on Star c = c == 61
goes_on Less c = c == 61 || c == 60
goes_on LessEqual c = false
goes_on Greater c = c == 61 || c == 62
goes_on GreaterEqual c = false
goes_on Equal c = false
goes_on Differ c = false
goes_on (Number n) c = false
goes_on (Name name) c = is_word_byte c
goes_on (Text text) c = false

-- the token is the longest that fits in front of this rest of the text, which reads as 0 past its end
abbrev pub IsLongest : Token → List ℕ → Type 0
IsLongest t rest = IsFalse (goes_on t (slice_index rest 0))

-- a text is blanks and these tokens, each the longest that fits
abbrev pub Spells : List Token → List ℕ → Type 0
Spells [] text = AllBlank text
Spells (t ∷ ts) text = (blanks s rest : List ℕ) × AllBlank blanks × IsSpelling t s × IsLongest t rest × (text ≡ blanks ++ (s ++ rest)) ×
    Spells ts rest
