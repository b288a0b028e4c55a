-- Rows of operators on numbers and bools, worked out.
use Rattle.std.proofs.Common.{◌≡◌, true, false, codes, pos, negsuc, refl}
use Rattle.hare_typed.specs.Answers.{Gives, Aborts}
use Rattle.hare_typed.specs.Arithmetic.{IntType, Add, Subtract, Multiply, Divide, Remainder, BitAnd, BitXor, BitOr, ShiftLeft, ShiftRight, Below, AtMost, Above, AtLeast, BothHold, EitherHolds, OneHolds, arithmetic_of, shift_of, order_of, logic_of, by_equality, cut, arithmetic, negated, complemented, shifted, in_order, same_number, leaves_open, logic}

abbrev i8 : IntType
i8 = record { bits = 8; signed = true }

abbrev u8 : IntType
u8 = record { bits = 8; signed = false }

abbrev i32 : IntType
i32 = record { bits = 32; signed = true }

abbrev u32 : IntType
u32 = record { bits = 32; signed = false }

abbrev i64 : IntType
i64 = record { bits = 64; signed = true }

abbrev u64 : IntType
u64 = record { bits = 64; signed = false }

-- ---- sums, differences and products

sum_is_cut : arithmetic Add u8 (pos 200) (pos 100) ≡ Gives (pos 44)
sum_is_cut = refl

sum_wraps_round : arithmetic Add i8 (pos 127) (pos 1) ≡ Gives (negsuc 127)
sum_wraps_round = refl

difference_wraps_round : arithmetic Subtract u64 (pos 0) (pos 1) ≡ Gives (pos 18446744073709551615)
difference_wraps_round = refl

difference_below_the_least : arithmetic Subtract i8 (negsuc 127) (pos 1) ≡ Gives (pos 127)
difference_below_the_least = refl

product_is_cut : arithmetic Multiply u32 (pos 65536) (pos 65537) ≡ Gives (pos 65536)
product_is_cut = refl

product_of_negatives : arithmetic Multiply i32 (negsuc 2) (negsuc 3) ≡ Gives (pos 12)
product_of_negatives = refl

product_wraps_round : arithmetic Multiply i64 (pos 9223372036854775807) (pos 2) ≡ Gives (negsuc 1)
product_wraps_round = refl

-- ---- quotients and remainders

quotient_toward_zero : arithmetic Divide i32 (negsuc 6) (pos 2) ≡ Gives (negsuc 2)
quotient_toward_zero = refl

quotient_by_a_negative : arithmetic Divide i32 (pos 7) (negsuc 1) ≡ Gives (negsuc 2)
quotient_by_a_negative = refl

remainder_of_a_negative : arithmetic Remainder i32 (negsuc 6) (pos 2) ≡ Gives (negsuc 0)
remainder_of_a_negative = refl

remainder_by_a_negative : arithmetic Remainder i32 (pos 7) (negsuc 1) ≡ Gives (pos 1)
remainder_by_a_negative = refl

least_by_minus_one : arithmetic Divide i8 (negsuc 127) (negsuc 0) ≡ Gives (negsuc 127)
least_by_minus_one = refl

least_by_minus_one_of_64 : arithmetic Divide i64 (negsuc 9223372036854775807) (negsuc 0) ≡ Gives (negsuc 9223372036854775807)
least_by_minus_one_of_64 = refl

remainder_of_least_by_minus_one : arithmetic Remainder i8 (negsuc 127) (negsuc 0) ≡ Gives (pos 0)
remainder_of_least_by_minus_one = refl

quotient_by_zero : arithmetic Divide u8 (pos 1) (pos 0) ≡ Aborts 8
quotient_by_zero = refl

remainder_by_zero : arithmetic Remainder i32 (negsuc 0) (pos 0) ≡ Aborts 8
remainder_by_zero = refl

-- ---- bit by bit

and_of_negative : arithmetic BitAnd i8 (negsuc 0) (pos 90) ≡ Gives (pos 90)
and_of_negative = refl

or_of_negative : arithmetic BitOr i8 (negsuc 127) (pos 1) ≡ Gives (negsuc 126)
or_of_negative = refl

xor_of_negatives : arithmetic BitXor i32 (negsuc 0) (negsuc 1) ≡ Gives (pos 1)
xor_of_negatives = refl

xor_of_bits : arithmetic BitXor u8 (pos 12) (pos 10) ≡ Gives (pos 6)
xor_of_bits = refl

complement_of_zero : complemented u8 (pos 0) ≡ pos 255
complement_of_zero = refl

complement_of_signed_zero : complemented i32 (pos 0) ≡ negsuc 0
complement_of_signed_zero = refl

minus_least : negated i8 (negsuc 127) ≡ negsuc 127
minus_least = refl

minus_unsigned : negated u8 (pos 1) ≡ pos 255
minus_unsigned = refl

-- ---- shifts

shift_is_cut : shifted ShiftLeft u8 (pos 129) (pos 1) ≡ pos 2
shift_is_cut = refl

shift_into_the_sign : shifted ShiftLeft i8 (pos 64) (pos 1) ≡ negsuc 127
shift_into_the_sign = refl

shift_by_the_width : shifted ShiftLeft u8 (pos 5) (pos 8) ≡ pos 5
shift_by_the_width = refl

shift_right_by_the_width : shifted ShiftRight i32 (negsuc 4) (pos 32) ≡ negsuc 4
shift_right_by_the_width = refl

shift_past_the_width : shifted ShiftRight u64 (pos 8) (pos 65) ≡ pos 4
shift_past_the_width = refl

-- the amount counts modulo the width, so that -1 is one less than it
shift_by_a_negative : shifted ShiftRight u8 (pos 128) (negsuc 0) ≡ pos 1
shift_by_a_negative = refl

shift_right_keeps_the_sign : shifted ShiftRight i8 (negsuc 127) (pos 7) ≡ negsuc 0
shift_right_keeps_the_sign = refl

shift_right_rounds_down : shifted ShiftRight i32 (negsuc 6) (pos 1) ≡ negsuc 3
shift_right_rounds_down = refl

shift_right_of_unsigned : shifted ShiftRight u8 (pos 255) (pos 4) ≡ pos 15
shift_right_of_unsigned = refl

-- ---- casts

cast_cuts : cut u8 (pos 511) ≡ pos 255
cast_cuts = refl

cast_reads_the_sign : cut i8 (pos 128) ≡ negsuc 127
cast_reads_the_sign = refl

cast_of_a_negative : cut u32 (negsuc 0) ≡ pos 4294967295
cast_of_a_negative = refl

cast_widens : cut i64 (negsuc 127) ≡ negsuc 127
cast_widens = refl

-- ---- comparisons

signed_order : in_order Below (negsuc 0) (pos 0) ≡ true
signed_order = refl

at_most_itself : in_order AtMost (negsuc 4) (negsuc 4) ≡ true
at_most_itself = refl

not_above_itself : in_order Above (pos 3) (pos 3) ≡ false
not_above_itself = refl

at_least_less : in_order AtLeast (pos 2) (pos 3) ≡ false
at_least_less = refl

same_numbers : same_number (negsuc 0) (negsuc 0) ≡ true
same_numbers = refl

other_numbers : same_number (pos 1) (negsuc 0) ≡ false
other_numbers = refl

-- ---- bools

true_leaves_and_open : leaves_open BothHold true ≡ true
true_leaves_and_open = refl

true_decides_or : leaves_open EitherHolds true ≡ false
true_decides_or = refl

false_decides_and : leaves_open BothHold false ≡ false
false_decides_and = refl

one_of_two_runs_both : leaves_open OneHolds false ≡ true
one_of_two_runs_both = refl

both_are_not_one : logic OneHolds true true ≡ false
both_are_not_one = refl

one_holds : logic OneHolds false true ≡ true
one_holds = refl

-- ---- spellings of operators

percent : arithmetic_of (codes "%") ≡ Remainder
percent = refl

bar : arithmetic_of (codes "|") ≡ BitOr
bar = refl

caret : arithmetic_of (codes "^") ≡ BitXor
caret = refl

right_shift : shift_of (codes ">>") ≡ ShiftRight
right_shift = refl

at_most : order_of (codes "<=") ≡ AtMost
at_most = refl

at_least : order_of (codes ">=") ≡ AtLeast
at_least = refl

double_caret : logic_of (codes "^^") ≡ OneHolds
double_caret = refl

unequal : by_equality (codes "!=") true ≡ false
unequal = refl
