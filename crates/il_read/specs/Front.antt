-- Known bytes, names, numbers and strings at the front of a text. No public clause cites it. Each reading gives what was read and what
-- stands behind it.
use Rattle.std.specs.Prelude.{ℕ, ◌^◌, List, [], ◌∷◌, Option, Some, None, Bool, not, nat_lt, ◌==◌, if◌then◌else◌, length, take, drop, codes, option_and_then}
use Rattle.std.specs.List.{prefix_len}
use Rattle.std.specs.Char.{is_ascii_digit}
use Rattle.std.specs.Str.Parse.{digits_value}
use Rattle.il_code.specs.Tokens.{is_name_byte, is_digit_byte}

infixl 10 ◌>>=◌
abbrev pub ◌>>=◌ : {A B : Type 0} → Option A → (A → Option B) → Option B
o >>= f = option_and_then f o

-- goes one way with a value, and the other without one
abbrev pub branch : {A B : Type 0} → Option A → (A → Option B) → Option B → Option B
branch (Some x) with_value without = with_value x
branch None with_value without = without

-- what stands behind these bytes
abbrev pub behind : List ℕ → List ℕ → Option (List ℕ)
behind [] s = Some s
behind (x ∷ xs) [] = None
behind (x ∷ xs) (y ∷ ys) = if y == x then behind xs ys else None

-- how many bytes of a name stand at the front: none where the first is a digit
abbrev pub name_len : List ℕ → ℕ
name_len [] = 0
name_len (c ∷ s) = if is_digit_byte c then 0 else prefix_len is_name_byte (c ∷ s)

abbrev pub name_of : ℕ → List ℕ → Option (List ℕ × List ℕ)
name_of n s = if n == 0 then None else Some (take n s, drop n s)

-- a name without its sigil
unfoldable pub name_at : List ℕ → Option (List ℕ × List ℕ)
name_at s = name_of (name_len s) s

-- the number that decimal digits spell, where it is below 2 ^ 64
abbrev pub number_of : List ℕ → Option ℕ
number_of digits = if length digits == 0 then None else if nat_lt (digits_value 10 digits) (2 ^ 64) then Some (digits_value 10 digits) else
    None

abbrev pub number_behind : ℕ → List ℕ → Option (ℕ × List ℕ)
number_behind n s = number_of (take n s) >>= λ m. Some (m, drop n s)

-- the number that the digits at the front spell
unfoldable pub number_at : List ℕ → Option (ℕ × List ℕ)
number_at s = number_behind (prefix_len is_ascii_digit s) s

-- no quote
abbrev pub is_inside : ℕ → Bool
is_inside c = not (c == 34)

abbrev pub string_behind : ℕ → List ℕ → Option (List ℕ × List ℕ)
string_behind n s = behind (codes "\"") (drop n s) >>= λ rest. Some (take n s, rest)

-- the bytes up to the next quote, and what stands behind it
unfoldable pub string_at : List ℕ → Option (List ℕ × List ℕ)
string_at s = string_behind (prefix_len is_inside s) s
