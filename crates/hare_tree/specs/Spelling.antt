-- Which spellings a token has: a relation, since a string or a rune has many.
--
-- It ranges over all words and all numbers, those left out and those too great among them, so that each is taken whole before it is
-- judged: `done` is one word and no name `don` before an `e`. Tokens.antt says which of them are faults.
--
-- A file is UTF-8 whole, and each byte with a meaning of its own is ASCII, so that bytes may stand for characters wherever a character
-- goes through unchanged.
use Rattle.std.specs.Prelude.{◌≡◌, ℕ, ◌<◌, List, [], ◌∷◌, ◌++◌, Bool, true, false, length, ◌&&◌, not, ◌==◌, ◌⊎◌, Option, Some, None, slice_index, encode_utf8, if◌then◌else◌}
use Rattle.std.specs.List.{list_all, flat_map, AllByRecursion}
use Rattle.std.specs.Char.{IsScalar, is_digit}
use Rattle.std.specs.Str.{chars, is_utf8}
use Rattle.std.specs.Str.Parse.{digits_value}
use Rattle.hare_tree.specs.declared.token.TokenKind.{TokenKind}
use Rattle.hare_tree.specs.declared.token.TokenKind.TheVariants.{Name, Keyword, Number, Str, RuneLit, Mark, End}
use Rattle.hare_tree.specs.declared.token.Suffix.{Suffix}
use Rattle.hare_tree.specs.declared.token.Suffix.TheVariants as suffix
use Rattle.hare_tree.specs.declared.token.Token.{Token}
use Rattle.hare_tree.specs.Words.{is_word, is_listed, keywords, marks, Base, radix, base_mark, suffix_word}

-- ---- numbers

-- a number's spelling: the mark of its base, at least one digit of that base, and at most one suffix
pub record IsNumber (value : ℕ) (x : Suffix) (s : List ℕ) : Type 0 where
  pub base : Base
  pub digits : List ℕ
  pub spelled : s ≡ base_mark base ++ (digits ++ suffix_word x)
  pub some : 0 < length digits
  pub each : list_all (λ c. is_digit c (radix base)) digits ≡ true
  pub value_is : value ≡ digits_value (radix base) digits

-- ---- escapes and characters

-- what a backslash before this byte stands for
abbrev pub escaped : ℕ → Option ℕ
escaped c =
    if c == 48 then Some 0  -- \0
    else if c == 97 then Some 7  -- \a
    else if c == 98 then Some 8  -- \b
    else if c == 102 then Some 12  -- \f
    else if c == 110 then Some 10  -- \n
    else if c == 114 then Some 13  -- \r
    else if c == 116 then Some 9  -- \t
    else if c == 118 then Some 11  -- \v
    else if c == 92 then Some 92  -- \\
    else if c == 39 then Some 39  -- \'
    else if c == 34 then Some 34  -- \"
    else None

-- how many hexadecimal digits follow a backslash and this byte: two behind `x`, four behind `u`, eight behind `U`
abbrev pub hex_len : ℕ → Option ℕ
hex_len c = if c == 120 then Some 2 else if c == 117 then Some 4 else if c == 85 then Some 8 else None

-- the value may stand behind a backslash and this byte: a Unicode scalar value, and behind `x` one up to 7F
abbrev pub MayStand : ℕ → ℕ → Type 0
MayStand c v = IsScalar v × (c ≡ 120 → v < 128)

abbrev pub is_hex : List ℕ → Bool
is_hex ds = list_all (λ c. is_digit c 16) ds

-- these bytes, from the backslash on, are the escape of this character
abbrev pub IsEscape : List ℕ → ℕ → Type 0
IsEscape e v =
    ((c : ℕ) × (e ≡ 92 ∷ c ∷ []) × (escaped c ≡ Some v))
    ⊎ ((c : ℕ) × (ds : List ℕ) × (e ≡ 92 ∷ c ∷ ds) × (hex_len c ≡ Some (length ds)) × (is_hex ds ≡ true) × (v ≡ digits_value 16 ds) ×
    MayStand c v)

-- the bytes are one whole character
abbrev pub is_character : List ℕ → Bool
is_character s = is_utf8 s && length (chars s) == 1

-- ---- strings

-- a part of a string between double quotes, and what it decodes to: a byte of a character that stands for itself, or an escape
abbrev pub IsPart : List ℕ × List ℕ → Type 0
IsPart p =
    ((c : ℕ) × (p.0 ≡ c ∷ []) × (p.1 ≡ c ∷ []) × ((c == 34) ≡ false) × ((c == 92) ≡ false))
    ⊎ ((v : ℕ) × IsEscape p.0 v × (p.1 ≡ encode_utf8 v))

abbrev pub spelled : List (List ℕ × List ℕ) → List ℕ
spelled ps = flat_map (λ p. p.0) ps

abbrev pub decoded : List (List ℕ × List ℕ) → List ℕ
decoded ps = flat_map (λ p. p.1) ps

-- characters and escapes between two double quotes
pub record IsQuoted (text : List ℕ) (s : List ℕ) : Type 0 where
  pub parts : List (List ℕ × List ℕ)
  pub each : AllByRecursion IsPart parts
  pub spelled_by : s ≡ 34 ∷ (spelled parts ++ 34 ∷ [])
  pub decoded_is : text ≡ decoded parts

-- any characters but a backtick between two backticks
pub record IsRaw (text : List ℕ) (s : List ℕ) : Type 0 where
  pub spelled_by : s ≡ 96 ∷ (text ++ 96 ∷ [])
  pub each : list_all (λ c. not (c == 96)) text ≡ true

-- ---- runes

-- one character other than `'` and the backslash, or one escape
abbrev pub IsOne : List ℕ → ℕ → Type 0
IsOne content v =
    ((is_character content ≡ true) × (v ≡ slice_index (chars content) 0) × ((v == 39) ≡ false) × ((v == 92) ≡ false))
    ⊎ IsEscape content v

-- one character or escape between two `'`
pub record IsRune (v : ℕ) (s : List ℕ) : Type 0 where
  pub content : List ℕ
  pub one : IsOne content v
  pub spelled_by : s ≡ 39 ∷ (content ++ 39 ∷ [])

-- ---- tokens

-- these bytes spell a token of this kind, text, number and suffix
abbrev pub IsSpellingOf : TokenKind → List ℕ → ℕ → Suffix → List ℕ → Type 0
IsSpellingOf Name text n x s = (text ≡ s) × (n ≡ 0) × (x ≡ suffix.None) × (is_word s ≡ true) × (is_listed keywords s ≡ false)
IsSpellingOf Keyword text n x s = (text ≡ s) × (n ≡ 0) × (x ≡ suffix.None) × (is_listed keywords s ≡ true)
IsSpellingOf Number text n x s = (text ≡ s) × IsNumber n x s
IsSpellingOf Str text n x s = (n ≡ 0) × (x ≡ suffix.None) × (IsQuoted text s ⊎ IsRaw text s)
IsSpellingOf RuneLit text n x s = (text ≡ s) × (x ≡ suffix.None) × IsRune n s
IsSpellingOf Mark text n x s = (text ≡ s) × (n ≡ 0) × (x ≡ suffix.None) × (is_listed marks s ≡ true)
IsSpellingOf End text n x s = ⊥

-- these bytes spell the token, wherever it stands
abbrev pub IsSpelling : Token → List ℕ → Type 0
IsSpelling t s = IsSpellingOf t.kind t.text t.number t.suffix s
