-- A plain program for small texts: the tokens of a text one after the other, up to the first bytes that are none. No public clause cites
-- it; it computes the rows on faults.
use Rattle.std.proofs.Common.{ℕ, zero, suc, ◌+◌, ◌-◌, ◌%◌, ◌^◌, List, [], ◌∷◌, Bool, true, false, length, nat_lt, nat_le, ◌==◌, take, drop, slice_index}
use Rattle.std.specs.List.{prefix_len}
use Rattle.std.specs.Str.Parse.{digits_value}
use Rattle.il_code.specs.Tokens.{IlToken, Word, TempName, SymbolName, LabelName, Numeral, Quoted, Mark, LineEnd, is_blank, is_digit_byte, is_name_byte, is_identifier, is_string_byte, is_mark}
use Rattle.il_code.specs.Faults.{is_not_feed}

-- what stands at an offset of the text
pub data Piece : Type 0 where
  -- a token; whether a minus stands in front
  Whole : (at : ℕ) (minus : Bool) (t : IlToken) → Piece
  -- a number out of range, a byte of no token, the end
  Far : (at : ℕ) → Piece
  Stray : (at : ℕ) → Piece
  End : (at : ℕ) → Piece

-- the one or the other, of which only what is chosen is computed
abbrev pub choose : {A : Type 0} → Bool → (Bool → A) → (Bool → A) → A
choose true one other = one true
choose false one other = other false

-- a piece and how many bytes it takes
abbrev Taken : Type 0
Taken = Piece × ℕ

-- a name behind its sigil
abbrev named : ℕ → (List ℕ → IlToken) → List ℕ → Taken
named at make s =
    let name = take (prefix_len is_name_byte s) s in choose (is_identifier name) (λ _. (Whole at false (make name), suc (length name)))
    (λ _. (Stray at, 1))

abbrev a_number : ℕ → List ℕ → Taken
a_number at s =
    let k = prefix_len is_digit_byte s in
    let n = digits_value 10 (take k s) in
    choose (nat_lt n (2 ^ 64)) (λ _. (Whole at false (Numeral n), k)) (λ _. (Far at, 1))

abbrev below_zero : ℕ → List ℕ → Taken
below_zero at s =
    let k = prefix_len is_digit_byte s in
    let n = digits_value 10 (take k s) in
    choose (k == 0) (λ _. (Stray at, 1)) (λ _. choose (nat_le n (2 ^ 63)) (λ _. (Whole at true (Numeral ((2 ^ 64 - n) % 2 ^ 64)), suc k))
    (λ _. (Far at, 1)))

abbrev string : ℕ → List ℕ → Taken
string at s =
    let k = prefix_len is_string_byte s in choose (slice_index s k == 34) (λ _. (Whole at false (Quoted (take k s)), k + 2))
    (λ _. (Stray at, 1))

abbrev a_word : ℕ → List ℕ → Taken
a_word at s = let k = prefix_len is_name_byte s in (Whole at false (Word (take k s)), k)

-- what begins with this byte
abbrev taken : ℕ → ℕ → List ℕ → Taken
taken at c s =
    choose (is_digit_byte c) (λ _. a_number at (c ∷ s)) λ _.
    choose (is_name_byte c) (λ _. a_word at (c ∷ s)) λ _.
    choose (c == 37) (λ _. named at (λ n. TempName n) s) λ _.
    choose (c == 36) (λ _. named at (λ n. SymbolName n) s) λ _.
    choose (c == 64) (λ _. named at (λ n. LabelName n) s) λ _.
    choose (c == 45) (λ _. below_zero at s) λ _.
    choose (c == 34) (λ _. string at s) λ _.
    choose (c == 10) (λ _. (Whole at false LineEnd, 1)) λ _.
    choose (is_mark c) (λ _. (Whole at false (Mark c), 1)) (λ _. (Stray at, 1))

-- the piece, and what stands behind it where it is a token
abbrev in_front : (ℕ → List Piece) → Taken → List Piece
in_front more (Whole at minus t, k) = Whole at minus t ∷ more k
in_front more (Far at, k) = Far at ∷ []
in_front more (Stray at, k) = Stray at ∷ []
in_front more (End at, k) = End at ∷ []

abbrev pieces_from : ℕ → ℕ → List ℕ → List Piece
pieces_from zero at s = End at ∷ []
pieces_from (suc n) at [] = End at ∷ []
pieces_from (suc n) at (c ∷ s) =
    choose (is_blank c) (λ _. pieces_from n (at + 1) s) λ _.
    choose (c == 35) (λ _. let k = prefix_len is_not_feed s in pieces_from n (at + (k + 1)) (drop k s)) λ _.
    in_front (λ k. pieces_from n (at + k) (drop k (c ∷ s))) (taken at c s)

-- the pieces of a text: the last is the end, or the first that is no token
abbrev pub pieces : List ℕ → List Piece
pieces text = pieces_from (suc (length text)) 0 text
