-- Operators on whole numbers and bools. A number here has no bound until it is cut to the bits of a type.
use Rattle.std.specs.Prelude.{ℕ, zero, suc, ◌^◌, pos, ℤ, ◌+ℤ◌, ◌-ℤ◌, ◌*ℤ◌, neg_ℤ, negsuc, int_lt, int_le, int_div, int_rem, bit_and, bit_or, bit_xor, Bool, true, false, not, ◌&&◌, ◌||◌, List, codes, bytes_eq, if◌then◌else◌}
use Rattle.std.specs.Bool.{beq}
use lib.Signed.{shr_z}
use Rattle.hx_base.specs.Numbers.{residue, wrap}
use Rattle.hare_typed.specs.Answers.{Answer, Gives, Aborts, ◌then◌}

-- ---- integers of so many bits, with or without a sign

pub record IntType : Type 0 where
  pub bits : ℕ
  pub signed : Bool

-- the number modulo 2 ^ bits, read with the sign
abbrev pub cut : IntType → ℤ → ℤ
cut t v = wrap v t.bits t.signed

-- the bits of a number in two's complement
abbrev pub bits_of : IntType → ℤ → ℕ
bits_of t v = residue (2 ^ t.bits) v

abbrev pub is_zero : ℤ → Bool
is_zero (pos zero) = true
is_zero (pos (suc n)) = false
is_zero (negsuc n) = false

-- ---- arithmetic

pub data Arithmetic : Type 0 where
  Add Subtract Multiply Divide Remainder BitAnd BitXor BitOr : Arithmetic

-- the operator with this spelling
abbrev pub arithmetic_of : List ℕ → Arithmetic
arithmetic_of w =
    if bytes_eq w (codes "+") then Add
    else (if bytes_eq w (codes "-") then Subtract
    else (if bytes_eq w (codes "*") then Multiply
    else (if bytes_eq w (codes "/") then Divide
    else (if bytes_eq w (codes "%") then Remainder
    else (if bytes_eq w (codes "&") then BitAnd
    else (if bytes_eq w (codes "^") then BitXor
    else BitOr))))))

-- abort 8 where the divisor is zero
abbrev pub divided : (ℤ → ℤ → ℤ) → ℤ → ℤ → Answer ℤ
divided f x y = if is_zero y then Aborts 8 else Gives (f x y)

-- a quotient is rounded toward zero, and a remainder has the sign of the dividend; & ^ | go bit by bit in two's complement
abbrev pub exact : Arithmetic → IntType → ℤ → ℤ → Answer ℤ
exact Add t x y = Gives (x +ℤ y)
exact Subtract t x y = Gives (x -ℤ y)
exact Multiply t x y = Gives (x *ℤ y)
exact Divide t x y = divided int_div x y
exact Remainder t x y = divided int_rem x y
exact BitAnd t x y = Gives (pos (bit_and (bits_of t x) (bits_of t y)))
exact BitXor t x y = Gives (pos (bit_xor (bits_of t x) (bits_of t y)))
exact BitOr t x y = Gives (pos (bit_or (bits_of t x) (bits_of t y)))

abbrev pub arithmetic : Arithmetic → IntType → ℤ → ℤ → Answer ℤ
arithmetic op t x y = exact op t x y then λ v. Gives (cut t v)

abbrev pub negated : IntType → ℤ → ℤ
negated t x = cut t (neg_ℤ x)

-- `~x`, the bit by bit complement
abbrev pub complemented : IntType → ℤ → ℤ
complemented t x = cut t (pos 0 -ℤ x -ℤ pos 1)

-- ---- shifts

pub data ShiftWay : Type 0 where
  ShiftLeft ShiftRight : ShiftWay

abbrev pub shift_of : List ℕ → ShiftWay
shift_of w = if bytes_eq w (codes "<<") then ShiftLeft else ShiftRight

-- The amount counts modulo the bits of the type, and is so never negative. To the right is rounded down, which keeps the sign.
abbrev pub shifted : ShiftWay → IntType → (x amount : ℤ) → ℤ
shifted ShiftLeft t x amount = cut t (x *ℤ pos (2 ^ residue t.bits amount))
shifted ShiftRight t x amount = cut t (shr_z x (2 ^ residue t.bits amount))

-- ---- comparisons

pub data Order : Type 0 where
  Below AtMost Above AtLeast : Order

abbrev pub order_of : List ℕ → Order
order_of w =
    if bytes_eq w (codes "<") then Below
    else (if bytes_eq w (codes "<=") then AtMost
    else (if bytes_eq w (codes ">") then Above
    else AtLeast))

abbrev pub in_order : Order → ℤ → ℤ → Bool
in_order Below x y = int_lt x y
in_order AtMost x y = int_le x y
in_order Above x y = int_lt y x
in_order AtLeast x y = int_le y x

abbrev pub same_number : ℤ → ℤ → Bool
same_number x y = int_le x y && int_le y x

-- whether the operator asks for equal values, `==`, and not for others, `!=`
abbrev pub asks_equal : List ℕ → Bool
asks_equal w = bytes_eq w (codes "==")

abbrev pub by_equality : List ℕ → Bool → Bool
by_equality w same = if asks_equal w then same else not same

-- ---- bools

pub data Logic : Type 0 where
  BothHold EitherHolds OneHolds : Logic

-- `&&`, `||` and `^^`
abbrev pub logic_of : List ℕ → Logic
logic_of w =
    if bytes_eq w (codes "&&") then BothHold
    else (if bytes_eq w (codes "||") then EitherHolds
    else OneHolds)

-- whether the left operand leaves the answer open, so that the right one is evaluated
abbrev pub leaves_open : Logic → Bool → Bool
leaves_open BothHold x = x
leaves_open EitherHolds x = not x
leaves_open OneHolds x = true

abbrev pub logic : Logic → Bool → Bool → Bool
logic BothHold x y = x && y
logic EitherHolds x y = x || y
logic OneHolds x y = not (beq x y)
