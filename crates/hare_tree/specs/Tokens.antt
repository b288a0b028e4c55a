-- The tokens of a file, and its first break.
--
-- A file is blanks, comments and tokens, each token the longest that fits where it begins. What a reader must believe:
--   * `Gap`: blanks are space, tab, LF and CR; a comment runs from `//` up to the next LF or the end;
--   * `IsSpelling` (Spelling.antt, Words.antt): the words, marks, numbers, strings and runes;
--   * `Fits`: at its place, no token that fits is longer;
--   * `Stands`: a token that fits and has no fault of its own: it is no left-out word, no number over the limit, no fraction;
--   * `Break`: the six faults, each with the place at which it stands in the broken token;
--   * `place_at`: lines and columns from the bytes before.
use Rattle.std.specs.Prelude.{◌≡◌, ℕ, ◌+◌, ◌^◌, ◌<◌, ◌≤◌, List, [], ◌∷◌, ◌++◌, reverse, Bool, true, false, codes, length, ◌||◌, ◌&&◌, not, ◌==◌, ◌⊎◌, bytes_eq, slice_index, take, drop, count_by, if◌then◌else◌}
use Rattle.std.specs.List.{list_all, prefix_len, AllByRecursion}
use Rattle.std.specs.Str.{IsUtf8, IsValidUpTo}
use Rattle.hare_tree.specs.declared.place.Place.{Place}
use Rattle.hare_tree.specs.declared.place.Fault.{Fault}
use Rattle.hare_tree.specs.declared.token.TokenKind.{TokenKind}
use Rattle.hare_tree.specs.declared.token.TokenKind.TheVariants.{Name, Keyword, Number, Str, RuneLit, Mark, End}
use Rattle.hare_tree.specs.declared.token.Suffix.TheVariants as suffix
use Rattle.hare_tree.specs.declared.token.Token.{Token}
use Rattle.hare_tree.specs.Words.{is_blank, is_not_feed, is_left_out, begins_fraction}
use Rattle.hare_tree.specs.Spelling.{IsSpelling, IsEscape, IsPart, IsOne, spelled, is_character, is_hex}

-- ---- places

-- The place behind these bytes of the file: lines count LF, columns count the bytes since the last LF, and both count from 1.
abbrev pub place_at : ℕ → List ℕ → Place
place_at file before =
    record { file = file; line = 1 + count_by (λ c. c == 10) before; column = 1 + prefix_len is_not_feed (reverse before) }

-- ---- blanks and comments

-- nothing is left, or LF comes next
abbrev pub ends_line : List ℕ → Bool
ends_line [] = true
ends_line (c ∷ rest) = c == 10

-- a blank
abbrev pub IsBlankPart : List ℕ → Type 0
IsBlankPart p = (c : ℕ) × (p ≡ c ∷ []) × (is_blank c ≡ true)

-- a comment in front of what is left: `//`, then anything but LF, up to the next LF or the end
abbrev pub IsComment : List ℕ → List ℕ → Type 0
IsComment p rest = (body : List ℕ) × (p ≡ codes "//" ++ body) × (list_all is_not_feed body ≡ true) × (ends_line rest ≡ true)

-- neither a blank nor a comment comes next
abbrev pub no_gap : List ℕ → Bool
no_gap [] = true
no_gap (c ∷ rest) = not (is_blank c || (c == 47 && slice_index rest 0 == 47))

-- The text is these blanks and comments, and then what is left, which begins with neither.
abbrev pub Gap : List (List ℕ) → List ℕ → List ℕ → Type 0
Gap [] text left = (text ≡ left) × (no_gap left ≡ true)
Gap (p ∷ ps) text left = (rest : List ℕ) × (text ≡ p ++ rest) × (IsBlankPart p ⊎ IsComment p rest) × Gap ps rest left

-- ---- tokens at their places

-- the token is the longest that fits: these bytes spell it, and whatever fits in front of the same text is no longer
pub record Fits (t : Token) (s rest : List ℕ) : Type 0 where
  pub spells : IsSpelling t s
  pub longest : (u : Token) (w more : List ℕ) → s ++ rest ≡ w ++ more → IsSpelling u w → length w ≤ length s

-- the token before is the mark `::`
abbrev pub is_path_mark : TokenKind → List ℕ → Bool
is_path_mark Mark text = bytes_eq text (codes "::")
is_path_mark Name text = false
is_path_mark Keyword text = false
is_path_mark Number text = false
is_path_mark Str text = false
is_path_mark RuneLit text = false
is_path_mark End text = false

-- the token fits and is no fault; `behind_path` says whether the token before it is `::`
pub record Stands (behind_path : Bool) (t : Token) (s rest : List ℕ) : Type 0 where
  pub fits : Fits t s rest
  pub kept_word : is_left_out behind_path s ≡ false
  pub small : t.number < 2 ^ 127
  pub whole : begins_fraction (s ++ rest) ≡ false

-- ---- breaks

-- in a literal that closes with `quote`, these bytes do not close it: each backslash takes what stands behind it, but between
-- backticks a backslash is a plain character
abbrev pub holds : ℕ → Bool → List ℕ → Bool
holds quote taken [] = not taken
holds quote true (c ∷ s) = holds quote false s
holds quote false (c ∷ s) = not (c == quote) && holds quote (c == 92 && not (quote == 96)) s

-- E4, at a character that begins no token
pub record BadByte (text : List ℕ) : Type 0 where
  pub first : ℕ
  pub rest : List ℕ
  pub text_is : text ≡ first ∷ rest
  pub none : (t : Token) (s : List ℕ) → IsSpelling t (first ∷ s) → ⊥
  pub not_at : (first == 64) ≡ false

-- E5 in a string, at the first backslash that begins no escape
pub record BadEscape (text : List ℕ) (offset : ℕ) : Type 0 where
  pub parts : List (List ℕ × List ℕ)
  pub content : List ℕ
  pub rest : List ℕ
  pub bad : List ℕ
  pub text_is : text ≡ 34 ∷ (content ++ 34 ∷ rest)
  pub closes : holds 34 false content ≡ true
  pub content_is : content ≡ spelled parts ++ 92 ∷ bad
  pub good : AllByRecursion IsPart parts
  pub none : (e more : List ℕ) (v : ℕ) → 92 ∷ bad ≡ e ++ more → IsEscape e v → ⊥
  pub offset_is : offset ≡ 1 + length (spelled parts)

-- One backslash with what it takes: a character, or `x`, `u` or `U` with all of its digits.
abbrev pub is_one_escape : List ℕ → Bool
is_one_escape [] = false
is_one_escape (b ∷ s) = b == 92 && (is_character s
    || (slice_index s 0 == 120 && length s == 3 && is_hex (drop 1 s))
    || (slice_index s 0 == 117 && length s == 5 && is_hex (drop 1 s))
    || (slice_index s 0 == 85 && length s == 9 && is_hex (drop 1 s)))

-- E5 in a rune: at the backslash where one wrong escape stands between the quotes, else at the opening quote
pub record BadRune (text : List ℕ) (offset : ℕ) : Type 0 where
  pub content : List ℕ
  pub rest : List ℕ
  pub text_is : text ≡ 39 ∷ (content ++ 39 ∷ rest)
  pub closes : holds 39 false content ≡ true
  pub not_one : (v : ℕ) → IsOne content v → ⊥
  pub offset_is : offset ≡ (if is_one_escape content then 1 else 0)

abbrev pub is_quote : ℕ → Bool
is_quote c = c == 34 || c == 39 || c == 96

-- E6, at an opening quote without its closing one
pub record Unclosed (text : List ℕ) : Type 0 where
  pub quote : ℕ
  pub behind : List ℕ
  pub text_is : text ≡ quote ∷ behind
  pub quotes : is_quote quote ≡ true
  pub open_on : (content rest : List ℕ) → behind ≡ content ++ quote ∷ rest → holds quote false content ≡ true → ⊥

-- E7, at a number over 2 ^ 127 - 1
pub record TooGreat (text : List ℕ) : Type 0 where
  pub token : Token
  pub number : List ℕ
  pub rest : List ℕ
  pub text_is : text ≡ number ++ rest
  pub fits : Fits token number rest
  pub great : 2 ^ 127 ≤ token.number

-- E10, at a left-out word that is no name
pub record LeftOutWord (behind_path : Bool) (text : List ℕ) : Type 0 where
  pub token : Token
  pub word : List ℕ
  pub rest : List ℕ
  pub text_is : text ≡ word ++ rest
  pub fits : Fits token word rest
  pub is_out : is_left_out behind_path word ≡ true

-- E10, at a number that goes on as a fraction or with an exponent, and whose digits are not too great
pub record LeftOutNumber (text : List ℕ) : Type 0 where
  pub token : Token
  pub number : List ℕ
  pub rest : List ℕ
  pub text_is : text ≡ number ++ rest
  pub fits : Fits token number rest
  pub small : token.number < 2 ^ 127
  pub fraction : begins_fraction text ≡ true

-- E10, at `@`
abbrev pub AtSign : List ℕ → Type 0
AtSign text = (rest : List ℕ) × (text ≡ 64 ∷ rest)

-- the text begins with the fault of this number, which stands so many bytes behind the text's begin
abbrev pub Break : Bool → List ℕ → ℕ → ℕ → Type 0
Break behind_path text number offset =
    ((number ≡ 4) × (offset ≡ 0) × BadByte text)
    ⊎ (((number ≡ 5) × (BadEscape text offset ⊎ BadRune text offset))
    ⊎ (((number ≡ 6) × (offset ≡ 0) × Unclosed text)
    ⊎ (((number ≡ 7) × (offset ≡ 0) × TooGreat text)
    ⊎ ((number ≡ 10) × (offset ≡ 0) × (LeftOutWord behind_path text ⊎ (LeftOutNumber text ⊎ AtSign text))))))

-- ---- files

-- Behind these bytes of the file the text is blanks, comments and these tokens at their places, and then what is left, in front of
-- which the token before is `::` or not.
abbrev pub Reads : ℕ → List ℕ → Bool → List Token → List ℕ → List ℕ → Bool → Type 0
Reads file before behind_path [] text left at_path = (gap : List (List ℕ)) × Gap gap text left × (at_path ≡ behind_path)
Reads file before behind_path (t ∷ ts) text left at_path =
    (gap : List (List ℕ)) × (s rest blank : List ℕ) × Gap gap text (s ++ rest) × (text ≡ blank ++ (s ++ rest))
    × (t.place ≡ place_at file (before ++ blank)) × Stands behind_path t s rest
    × Reads file (before ++ (blank ++ s)) (is_path_mark t.kind t.text) ts rest left at_path

-- the token End
abbrev pub end_at : Place → Token
end_at p = record { kind = End; place = p; text = []; number = 0; suffix = suffix.None }

-- these tokens, the last of them End, spell the file
pub record IsTokens (file : ℕ) (text : List ℕ) (tokens : List Token) : Type 0 where
  pub utf8 : IsUtf8 text
  pub spelled_by : List Token
  pub at_path : Bool
  pub reads : Reads file [] false spelled_by text [] at_path
  pub tokens_are : tokens ≡ spelled_by ++ end_at (place_at file text) ∷ []

-- E3, at the first byte that is no part of a whole character; no token is kept
pub record NotUtf8 (file : ℕ) (text : List ℕ) (fault : Fault) (kept : List Token) : Type 0 where
  pub valid : ℕ
  pub not_utf8 : IsUtf8 text → ⊥
  pub valid_up_to : IsValidUpTo text valid
  pub fault_is : fault ≡ record { number = 3; place = place_at file (take valid text) }
  pub kept_are : kept ≡ end_at (place_at file (take valid text)) ∷ []

-- the first break behind whole tokens, which are kept, and End at the fault's place
pub record Broken (file : ℕ) (text : List ℕ) (fault : Fault) (kept : List Token) : Type 0 where
  pub utf8 : IsUtf8 text
  pub spelled_by : List Token
  pub at_path : Bool
  pub before : List ℕ
  pub left : List ℕ
  pub number : ℕ
  pub offset : ℕ
  pub text_is : text ≡ before ++ left
  pub reads : Reads file [] false spelled_by text left at_path
  pub breaks : Break at_path left number offset
  pub fault_is : fault ≡ record { number = number; place = place_at file (before ++ take offset left) }
  pub kept_are : kept ≡ spelled_by ++ end_at (place_at file (before ++ take offset left)) ∷ []

-- this is the file's first break, with the kept tokens
abbrev pub IsFirstBreak : ℕ → List ℕ → Fault → List Token → Type 0
IsFirstBreak file text fault kept = NotUtf8 file text fault kept ⊎ Broken file text fault kept
