-- The operators of constants as the crate has them, and the numbers that they are given.
use Rattle.std.specs.Prelude.{ℤ, ◌^◌, pos, neg_ℤ, ◌≤ℤ◌, ◌<ℤ◌, ◌≤◌, Option, Some, None}
use Rattle.hare_typed.specs.Arithmetic as spec
use Rattle.hare_typed.specs.Answers.{Answer, Gives, Aborts}
use Rattle.hare_const.specs.declared.operators.IntType.{IntType}
use Rattle.hare_const.specs.declared.operators.Arithmetic.{Arithmetic}
use Rattle.hare_const.specs.declared.operators.Arithmetic.TheVariants as op
use Rattle.hare_const.specs.declared.operators.Shift.{Shift}
use Rattle.hare_const.specs.declared.operators.Shift.TheVariants as way
use Rattle.hare_const.specs.declared.operators.Order.{Order}
use Rattle.hare_const.specs.declared.operators.Order.TheVariants as order
use Rattle.hare_const.specs.declared.operators.Logic.{Logic}
use Rattle.hare_const.specs.declared.operators.Logic.TheVariants as logic

abbrev pub int_of : IntType → spec.IntType
int_of t = record { bits = t.bits; signed = t.signed }

abbrev pub arithmetic_of : Arithmetic → spec.Arithmetic
arithmetic_of op.Add = spec.Add
arithmetic_of op.Subtract = spec.Subtract
arithmetic_of op.Multiply = spec.Multiply
arithmetic_of op.Divide = spec.Divide
arithmetic_of op.Remainder = spec.Remainder
arithmetic_of op.BitAnd = spec.BitAnd
arithmetic_of op.BitXor = spec.BitXor
arithmetic_of op.BitOr = spec.BitOr

abbrev pub shift_of : Shift → spec.ShiftWay
shift_of way.Left = spec.ShiftLeft
shift_of way.Right = spec.ShiftRight

abbrev pub order_of : Order → spec.Order
order_of order.Below = spec.Below
order_of order.AtMost = spec.AtMost
order_of order.Above = spec.Above
order_of order.AtLeast = spec.AtLeast

abbrev pub logic_of : Logic → spec.Logic
logic_of logic.Both = spec.BothHold
logic_of logic.Either = spec.EitherHolds
logic_of logic.One = spec.OneHolds

-- none where the evaluation aborts: the divisor is zero
abbrev pub answer_of : Option ℤ → Answer ℤ
answer_of None = Aborts 8
answer_of (Some v) = Gives v

-- a number that some integer type has
pub record IsWhole (v : ℤ) : Type 0 where
  pub low : neg_ℤ (pos (2 ^ 63)) ≤ℤ v
  pub high : v <ℤ pos (2 ^ 64)
