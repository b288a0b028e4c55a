-- Operators on two whole numbers, by their signs.
use Rattle.std.specs.Prelude.{ℕ, ℤ, ◌+ℤ◌, ◌-ℤ◌, ◌*ℤ◌, cond, List, [], ◌∷◌, codes, bytes_eq, int_div, int_rem, Option, Some, None}
use Rattle.std.specs.Int.{w128, int_bit_and, int_bit_or, int_bit_xor}
use Rattle.hare_tree.specs.declared.kind.Kind.{Kind}
use Rattle.hare_rules.specs.Exact.{ranged, unless_zero, amount, shift_left, shift_right, is_shift}
use Rattle.rule_ops.specs.declared.exact.Operator.{Operator}
use Rattle.rule_ops.specs.declared.exact.Operator.TheVariants as op

abbrev pub applied : Operator → ℤ → ℤ → Option ℤ
applied op.Sum a b = ranged (a +ℤ b)
applied op.Difference a b = ranged (a -ℤ b)
applied op.Product a b = ranged (a *ℤ b)
applied op.Quotient a b = unless_zero b (ranged (int_div a b))
applied op.Remainder a b = unless_zero b (Some (int_rem a b))
applied op.And a b = Some (int_bit_and w128 a b)
applied op.Or a b = Some (int_bit_or w128 a b)
applied op.Xor a b = Some (int_bit_xor w128 a b)
applied op.Left a b = shift_left a (amount b)
applied op.Right a b = shift_right a (amount b)

abbrev pub arithmetic_signs : List (List ℕ × Operator)
arithmetic_signs =
    (codes "+", op.Sum) ∷ (codes "-", op.Difference) ∷ (codes "*", op.Product) ∷ (codes "/", op.Quotient) ∷ (codes "%", op.Remainder) ∷
    (codes "&", op.And)
    ∷ (codes "|", op.Or) ∷ (codes "^", op.Xor) ∷ []

abbrev pub shift_signs : List (List ℕ × Operator)
shift_signs = (codes "<<", op.Left) ∷ (codes ">>", op.Right) ∷ []

-- the first of these whose sign it is, or none
abbrev pub operator_from : List ℕ → List (List ℕ × Operator) → Option Operator
operator_from sign [] = None
operator_from sign (c ∷ cs) = cond (bytes_eq sign c.0) (Some c.1) (operator_from sign cs)

abbrev pub operator_of : Kind → List ℕ → Option Operator
operator_of k sign = cond (is_shift k) (operator_from sign shift_signs) (operator_from sign arithmetic_signs)

abbrev pub applied_by : Option Operator → ℤ → ℤ → Option ℤ
applied_by None a b = None
applied_by (Some o) a b = applied o a b
