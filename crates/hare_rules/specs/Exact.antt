-- Operators on whole numbers without a suffix. They are exact, and the result lies in 128 bits with a sign, or there is none.
use Rattle.std.specs.Prelude.{ℕ, ℤ, pos, negsuc, ◌+ℤ◌, ◌-ℤ◌, ◌*ℤ◌, neg_ℤ, ◌^◌, ◌-◌, Bool, true, false, cond, ◌&&◌, List, [], ◌∷◌, codes, bytes_eq, int_le, int_div, int_rem, nat_lt, Option, Some, None}
use Rattle.std.specs.Ordering.{int_eq}
use Rattle.std.specs.Int.{w128, int_bit_and, int_bit_or, int_bit_xor, int_shr}
use Rattle.hare_tree.specs.declared.kind.Kind.{Kind}
use Rattle.hare_tree.specs.declared.kind.Kind.TheVariants as ki
use Rattle.hare_types.specs.declared.coercion.Ty.{Ty}
use Rattle.hare_types.specs.declared.coercion.Ty.TheVariants as ty

-- from -2^127 to 2^127 - 1
abbrev pub is_ranged : ℤ → Bool
is_ranged v = int_le (neg_ℤ (pos (2 ^ 127))) v && int_le v (pos (2 ^ 127 - 1))

abbrev pub ranged : ℤ → Option ℤ
ranged v = cond (is_ranged v) (Some v) None

abbrev pub unless_zero : ℤ → Option ℤ → Option ℤ
unless_zero b o = cond (int_eq b (pos 0)) None o

-- a shift amount, from 0 to 127
abbrev pub amount : ℤ → Option ℕ
amount (pos n) = cond (nat_lt n 128) (Some n) None
amount (negsuc n) = None

abbrev pub shift_left : ℤ → Option ℕ → Option ℤ
shift_left a None = None
shift_left a (Some n) = ranged (a *ℤ pos (2 ^ n))

abbrev pub shift_right : ℤ → Option ℕ → Option ℤ
shift_right a None = None
shift_right a (Some n) = Some (int_shr a n)

-- the first of these whose sign it is, or none
abbrev pub chosen : List ℕ → List (List ℕ × Option ℤ) → Option ℤ
chosen sign [] = None
chosen sign (c ∷ cs) = cond (bytes_eq sign c.0) c.1 (chosen sign cs)

-- The result of an operator that is written by this sign. Division is toward zero, and a remainder has the sign of the dividend; `&`,
-- `|` and `^` go bit by bit in two's complement.
abbrev pub arithmetic : List ℕ → ℤ → ℤ → Option ℤ
arithmetic sign a b =
    chosen sign
    ((codes "+", ranged (a +ℤ b)) ∷ (codes "-", ranged (a -ℤ b)) ∷ (codes "*", ranged (a *ℤ b)) ∷
    (codes "/", unless_zero b (ranged (int_div a b)))
    ∷ (codes "%", unless_zero b (Some (int_rem a b))) ∷ (codes "&", Some (int_bit_and w128 a b)) ∷ (codes "|", Some (int_bit_or w128 a b))
    ∷ (codes "^", Some (int_bit_xor w128 a b)) ∷ [])

-- no bit is lost when a number is shifted to the left, and to the right it is rounded down
abbrev pub shift : List ℕ → ℤ → ℤ → Option ℤ
shift sign a b = chosen sign ((codes "<<", shift_left a (amount b)) ∷ (codes ">>", shift_right a (amount b)) ∷ [])

abbrev pub is_shift : Kind → Bool
is_shift ki.Shift = true
is_shift _ = false

abbrev pub exact : Kind → List ℕ → ℤ → ℤ → Option ℤ
exact k sign a b = cond (is_shift k) (shift sign a b) (arithmetic sign a b)

-- the result of two operands, where both are whole numbers without a suffix
abbrev pub exact_of : Kind → List ℕ → Ty → Ty → Option ℤ
exact_of k sign (ty.Iconst a) (ty.Iconst b) = exact k sign a b
exact_of k sign _ _ = None

-- ---- one operand

-- `-`
abbrev pub negated : ℤ → Option ℤ
negated a = ranged (neg_ℤ a)

-- `~`
abbrev pub complemented : ℤ → Option ℤ
complemented a = ranged (neg_ℤ a -ℤ pos 1)
