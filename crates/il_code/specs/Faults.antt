-- The faults of a text, each with its place, and which of them comes first. A place in a text is given by what stands there: the rest of
-- the text. Where the rest is empty, it is the end of input.
use Rattle.std.specs.Prelude.{◌≡◌, ◌≢◌, ℕ, suc, ◌+◌, ◌-◌, ◌^◌, ◌<◌, ◌≤◌, ◌⊎◌, List, [], ◌∷◌, ◌++◌, Some, Bool, true, false, length, ◌==◌, codes, bytes_eq, take, reverse, sum_by, count_by, filter, slice_get, slice_index, Contains, IsTrue, IsFalse, if◌then◌else◌}
use Rattle.std.specs.List.{list_any, prefix_len}
use Rattle.std.specs.Str.{all_ascii_digits}
use Rattle.std.specs.Str.Parse.{digits_value}
use Rattle.il_code.specs.Tokens.{IlToken, Word, TempName, SymbolName, LabelName, Numeral, Quoted, Mark, LineEnd, is_digit_byte, behind_gap, IsSpelling, IsLongest}
use Rattle.il_code.specs.Grammar.{Fits}
use Rattle.il_code.specs.Rules.{most, is_alignment, is_main, item_size}
use Rattle.il_code.specs.Loose.{LooseItem, LooseData, LooseFunction, settled, loose_pattern}
use Rattle.il_code.specs.Marks.{bears, marks}

-- ---- how far a text can be read

-- the token stands here, in front of `after`
pub record Stands (here : List ℕ) (t : IlToken) (after : List ℕ) : Type 0 where
  pub spelling : List ℕ
  pub splits : here ≡ spelling ++ after
  pub spelled : IsSpelling t spelling
  pub longest : IsLongest t after

-- The text begins with these tokens, with blanks and comments between; behind them and the gap that follows stands `here`.
abbrev pub Front : List ℕ → List IlToken → List ℕ → Type 0
Front text [] here = here ≡ behind_gap text
Front text (t ∷ ts) here = (after : List ℕ) × Stands (behind_gap text) t after × Front after ts here

-- these are all tokens of a module
abbrev pub IsWhole : List IlToken → Type 0
IsWhole ts = (items : List LooseItem) × Fits (loose_pattern items) ts

-- the tokens of a module begin with these
abbrev pub IsViable : List IlToken → Type 0
IsViable ts = (more : List IlToken) × IsWhole (ts ++ more)

-- behind these tokens this one may stand
abbrev pub MayFollow : List IlToken → IlToken → Type 0
MayFollow ts t = IsViable (ts ++ t ∷ [])

abbrev pub EndsWith : List IlToken → List IlToken → Type 0
EndsWith ts last = (before : List IlToken) × (ts ≡ before ++ last)

-- ---- bytes and numbers that are no token (2, 12)

abbrev pub IsTokenHere : List ℕ → Type 0
IsTokenHere here = (t : IlToken) × (after : List ℕ) × Stands here t after

-- decimal digits that go on no further, with these in front of them and a value from `least` on
pub record IsFarBehind (sign : List ℕ) (least : ℕ) (here : List ℕ) : Type 0 where
  pub digits : List ℕ
  pub after : List ℕ
  pub splits : here ≡ sign ++ (digits ++ after)
  pub all : all_ascii_digits digits ≡ true
  pub longest : IsFalse (is_digit_byte (slice_index after 0))
  pub far : least ≤ digits_value 10 digits

-- a number under -2 ^ 63 or over 2 ^ 64 - 1
abbrev pub IsFar : List ℕ → Type 0
IsFar here = IsFarBehind [] (2 ^ 64) here ⊎ IsFarBehind (45 ∷ []) (2 ^ 63 + 1) here

-- a byte that is of no token: also a sigil without a name, a minus without digits, and the quote of a string that does not end in its line
pub record IsStrayByte (here : List ℕ) : Type 0 where
  pub some : here ≢ []
  pub untaken : ¬ (IsTokenHere here)
  pub near : ¬ (IsFar here)

-- ---- words that are left out (4)

abbrev pub is_one_of : List (List ℕ) → List ℕ → Bool
is_one_of words w = list_any (bytes_eq w) words

-- classes of floats and of parameters below a word
abbrev pub is_left_class : List ℕ → Bool
is_left_class w = is_one_of (codes "s" ∷ codes "d" ∷ codes "sb" ∷ codes "ub" ∷ codes "sh" ∷ codes "uh" ∷ []) w

-- aggregate types, thread-local data, sections and debug information
abbrev pub is_left_head : List ℕ → Bool
is_left_head w = is_one_of (codes "type" ∷ codes "thread" ∷ codes "section" ∷ codes "dbgfile" ∷ codes "dbgloc" ∷ []) w

-- environments and variadic functions
abbrev pub is_left_word : List ℕ → Bool
is_left_word w = is_one_of (codes "env" ∷ codes "..." ∷ codes "vastart" ∷ codes "vaarg" ∷ []) w

-- a class stands behind these tokens: `w` may, and is no letter of data, since `z` may not
pub record IsClassPlace (ts : List IlToken) : Type 0 where
  pub word : MayFollow ts (Word (codes "w"))
  pub class : ¬ (MayFollow ts (Word (codes "z")))

-- a definition or an instruction begins behind these tokens
abbrev pub IsHeadPlace : List IlToken → Type 0
IsHeadPlace ts = MayFollow ts (Word (codes "data")) ⊎ MayFollow ts (Word (codes "blit"))

-- behind these tokens the token stands for what the language leaves out
abbrev pub IsLeftOut : List IlToken → IlToken → Type 0
IsLeftOut ts (Word w) = (IsTrue (is_left_class w) × IsClassPlace ts) ⊎
    ((IsTrue (is_left_head w) × IsHeadPlace ts) ⊎ IsTrue (is_left_word w))
-- an aggregate type as a class
IsLeftOut ts (Mark c) = (c ≡ 58) × IsClassPlace ts
-- a call through a temporary
IsLeftOut ts (TempName t) = EndsWith ts (Word (codes "call") ∷ [])
IsLeftOut ts (SymbolName s) = ⊥
IsLeftOut ts (LabelName l) = ⊥
IsLeftOut ts (Numeral n) = ⊥
IsLeftOut ts (Quoted b) = ⊥
IsLeftOut ts LineEnd = ⊥

-- ---- numbers that are out of their range (12)

abbrev pub is_line_end : IlToken → Bool
is_line_end (Word w) = false
is_line_end (TempName t) = false
is_line_end (SymbolName s) = false
is_line_end (LabelName l) = false
is_line_end (Numeral n) = false
is_line_end (Quoted b) = false
is_line_end (Mark c) = false
is_line_end LineEnd = true

-- a count of bytes that are 0
abbrev pub IsZeroCount : List IlToken → Type 0
IsZeroCount ts = (lines : List IlToken) × (filter is_line_end lines ≡ lines) × EndsWith ts (Word (codes "z") ∷ lines)

-- a count of bytes that a blit copies
abbrev pub IsBlitCount : List IlToken → Type 0
IsBlitCount ts = (from to : IlToken) × EndsWith ts (Word (codes "blit") ∷ from ∷ Mark 44 ∷ to ∷ Mark 44 ∷ [])

abbrev pub is_word : List ℕ → IlToken → Bool
is_word w (Word v) = bytes_eq v w
is_word w (TempName t) = false
is_word w (SymbolName s) = false
is_word w (LabelName l) = false
is_word w (Numeral n) = false
is_word w (Quoted b) = false
is_word w (Mark c) = false
is_word w LineEnd = false

-- so many definitions of one kind stand behind these tokens, of which this one is the last
abbrev pub IsBeyond : List ℕ → ℕ → List IlToken → List ℕ → Type 0
IsBeyond kind limit ts w = (w ≡ kind) × MayFollow ts (Word w) × (limit ≤ count_by (is_word kind) ts)

-- a number that is no alignment, a count under 0 or over 2 ^ 30, or a definition with which there are more than 2 ^ 28 functions or 2 ^ 30
-- data items
abbrev pub IsOutOfRange : List IlToken → IlToken → Type 0
IsOutOfRange ts (Numeral n) = (EndsWith ts (Word (codes "align") ∷ []) × IsFalse (is_alignment n)) ⊎
    ((IsZeroCount ts ⊎ IsBlitCount ts) × (most < n))
IsOutOfRange ts (Word w) = IsBeyond (codes "function") (2 ^ 28) ts w ⊎ IsBeyond (codes "data") most ts w
IsOutOfRange ts (TempName t) = ⊥
IsOutOfRange ts (SymbolName s) = ⊥
IsOutOfRange ts (LabelName l) = ⊥
IsOutOfRange ts (Quoted b) = ⊥
IsOutOfRange ts (Mark c) = ⊥
IsOutOfRange ts LineEnd = ⊥

abbrev pub part_count : LooseItem → ℕ
part_count (LooseData export name align parts) = length parts
part_count (LooseFunction export class name params blocks) = 0

abbrev pub data_bytes : List LooseItem → ℕ
data_bytes items = sum_by item_size (settled items)

-- The part of data whose letter stands behind these tokens is the one with which the data passes 2^30 bytes: with its values up to one of
-- them. Data is closed by a `}` to be counted.
pub record PassesData (text : List ℕ) (ts : List IlToken) : Type 0 where
  pub items : List LooseItem
  pub closed : Fits (loose_pattern items) (ts ++ Mark 125 ∷ [])
  pub within : data_bytes items ≤ most
  -- the tokens of the part: its letter, and up to this last one
  pub letter : List ℕ
  pub between : List IlToken
  pub last : IlToken
  pub here : List ℕ
  pub after : List ℕ
  pub read : Front text (ts ++ Word letter ∷ between) here
  pub stands : Stands here last after
  -- a count under 0 counts no bytes
  pub counted : IsZeroCount (ts ++ Word letter ∷ between) → slice_index here 0 ≢ 45
  pub more_items : List LooseItem
  pub more_closed : Fits (loose_pattern more_items) (ts ++ Word letter ∷ (between ++ last ∷ Mark 125 ∷ []))
  pub one : sum_by part_count more_items ≡ suc (sum_by part_count items)
  pub passes : most < data_bytes more_items

-- ---- faults that are found while reading

-- Behind these tokens, with which a module begins, the fault of this number stands here.
pub data FaultBehind (text : List ℕ) (ts : List IlToken) (here : List ℕ) : ℕ → Type 0 where
  -- a byte that is of no token, or a colon where no class stands
  stray : IsStrayByte here → FaultBehind text ts here 2
  colon : (after : List ℕ) → Stands here (Mark 58) after → ¬ (IsClassPlace ts) → FaultBehind text ts here 2
  -- any other token that no module goes on with, or the end
  unexpected : (t : IlToken) (after : List ℕ) → Stands here t after → t ≢ Mark 58 → ¬ (MayFollow ts t) → ¬ (IsLeftOut ts t) →
      FaultBehind text ts here 3
  unfinished : here ≡ [] → ¬ (IsWhole ts) → FaultBehind text ts here 3
  -- what the language leaves out
  left_out : (t : IlToken) (after : List ℕ) → Stands here t after → IsLeftOut ts t → FaultBehind text ts here 4
  -- a number out of its range, and the limits of a module
  far : IsFar here → FaultBehind text ts here 12
  out_of_range : (t : IlToken) (after : List ℕ) → Stands here t after → IsOutOfRange ts t → FaultBehind text ts here 12
  too_long : PassesData text ts → FaultBehind text ts here 12

-- a fault of this number is found here while the text is read
pub record ReadingFault (text : List ℕ) (number : ℕ) (here : List ℕ) : Type 0 where
  pub tokens : List IlToken
  pub front : Front text tokens here
  pub viable : IsViable tokens
  pub fault : FaultBehind text tokens here number

-- ---- broken rules

-- a rule is broken at a token here: it is marked with the rule's number
pub record BrokenRule (text : List ℕ) (items : List LooseItem) (number : ℕ) (here : List ℕ) : Type 0 where
  pub tokens : List IlToken
  pub token : IlToken
  pub after : List ℕ
  pub front : Front text tokens here
  pub stands : Stands here token after
  pub bearing : IsTrue (bears token)
  pub numbers : List ℕ
  pub marked : slice_get (marks items) (count_by bears tokens) ≡ Some numbers
  pub broken : Contains numbers number

-- no function `$main` (9), at the end of input
pub record LacksMain (items : List LooseItem) (number : ℕ) (here : List ℕ) : Type 0 where
  pub nine : number ≡ 9
  pub end : here ≡ []
  pub none : IsFalse (list_any is_main (settled items))

-- a fault of this number stands here in the text of a module
pub record ValidityFault (text : List ℕ) (number : ℕ) (here : List ℕ) : Type 0 where
  pub tokens : List IlToken
  pub read : Front text tokens []
  pub items : List LooseItem
  pub fits : Fits (loose_pattern items) tokens
  pub fault : BrokenRule text items number here ⊎ LacksMain items number here

-- ---- the first fault

-- of two faults the one is first: at the lesser place, or at the same with the smaller number
abbrev pub IsNoLater : ℕ → List ℕ → ℕ → List ℕ → Type 0
IsNoLater number here other there = (length there < length here) ⊎ ((length there ≡ length here) × (number ≤ other))

-- of the faults of one kind this one is first
pub record IsFirst (Fault : ℕ → List ℕ → Type 0) (number : ℕ) (here : List ℕ) : Type 0 where
  pub fault : Fault number here
  pub first : (other : ℕ) (there : List ℕ) → Fault other there → IsNoLater number here other there

-- nothing is found while the text is read
abbrev pub HasNoReadingFault : List ℕ → Type 0
HasNoReadingFault text = (number : ℕ) (here : List ℕ) → ¬ (ReadingFault text number here)

-- what is found while reading comes before every broken rule
abbrev pub IsFirstIn : List ℕ → ℕ → List ℕ → Type 0
IsFirstIn text number here = IsFirst (ReadingFault text) number here ⊎ (HasNoReadingFault text × IsFirst (ValidityFault text) number here)

-- ---- lines and columns

-- what stands in front of a place
abbrev pub before : List ℕ → List ℕ → List ℕ
before text here = take (length text - length here) text

abbrev pub is_not_feed : ℕ → Bool
is_not_feed c = if c == 10 then false else true

-- lines from 1 on, at each line feed one more
abbrev pub line_at : List ℕ → List ℕ → ℕ
line_at text here = 1 + count_by (λ c. c == 10) (before text here)

-- columns from 1 on, in bytes behind the last line feed
abbrev pub column_at : List ℕ → List ℕ → ℕ
column_at text here = 1 + prefix_len is_not_feed (reverse (before text here))

-- the first fault of the text has this number, line and column
pub record IsFirstFault (text : List ℕ) (number line column : ℕ) : Type 0 where
  pub here : List ℕ
  pub first : IsFirstIn text number here
  pub line_is : line ≡ line_at text here
  pub column_is : column ≡ column_at text here
