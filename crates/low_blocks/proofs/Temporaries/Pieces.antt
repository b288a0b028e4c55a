-- Steps and pieces use the temporaries from a number on, and their operands are numbers or temporaries.
use Rattle.std.proofs.Common.{ℕ, ◌<◌, ◌≤◌, List, arith}
use Rattle.flat_code.specs.declared.op.Op.{Op}
use Rattle.flat_code.specs.declared.value.Value.{Value}
use Rattle.flat_code.specs.declared.value.Value.TheVariants.{Temp, Number, Symbol, Frame}
use Rattle.flat_code.specs.Code.{Code}
use Rattle.hare_blocks.specs.Trees.{Expr, Terms, Term, Factors, Factor, sum_of, no_term, plus, minus, product_of, no_factor, times, number, arg_count, variable, group, Condition, always, compares}
use Rattle.low_blocks.specs.declared.last.Last.{Last}
use Rattle.low_blocks.specs.declared.last.Last.TheVariants.{Operand, Operation, ArgCount}
use Rattle.low_blocks.specs.Expressions.{Scope, Steps, Piece, settled, operand_of, operated, expr_steps, terms_steps, term_steps, factors_steps, factor_steps, expr_piece, condition_piece}
use Rattle.low_blocks.proofs.Temporaries.Runs.{IsBelow}
use Rattle.low_blocks.proofs.Temporaries.Scopes.{Below, held_below}

-- a piece whose temporaries are from `t` on, and which gives a number or a temporary in front of its next one
pub record IsFrom (t : ℕ) (piece : Piece) : Type 0 where
  pub grows : t ≤ piece.next
  pub value : IsBelow piece.next piece.value

operand_more : (t t' : ℕ) (v : Value) → t ≤ t' → IsBelow t v → IsBelow t' v
operand_more t t' (Temp u) le h = (h.0, omega (arith, h.1))
operand_more t t' (Number n) le h = tt
operand_more t t' (Symbol i offset) le h = absurd h
operand_more t t' (Frame offset) le h = absurd h

-- the operands of a last step
abbrev pub AreBelow : ℕ → Last → Type 0
AreBelow t (Operand v) = IsBelow t v
AreBelow t (Operation op a b) = IsBelow t a × IsBelow t b
AreBelow t ArgCount = Unit {0}

-- steps whose temporaries are from `t` on, and whose last one has numbers and temporaries in front of the next one as operands
pub record AreFrom (t : ℕ) (steps : Steps) : Type 0 where
  pub grows : t ≤ steps.next
  pub operands : AreBelow steps.next steps.last

settled_from : (t : ℕ) (last : Last) (cs : List Code) (next : ℕ) → 0 < t → t ≤ next → AreBelow next last → IsFrom t (settled last cs next)
settled_from t (Operand v) cs next pos le h = record { grows = le; value = h }
settled_from t (Operation op a b) cs next pos le h = record { grows = omega arith; value = (omega arith, omega arith) }
settled_from t ArgCount cs next pos le h = record { grows = omega arith; value = (omega arith, omega arith) }

pub operand_from : (t : ℕ) (steps : Steps) → 0 < t → AreFrom t steps → IsFrom t (operand_of steps)
operand_from t steps pos h = settled_from t steps.last steps.code steps.next pos h.grows h.operands

pub operated_from : (t : ℕ) (op : Op) (a b : Piece) → IsFrom t a → IsFrom a.next b → AreFrom t (operated op a b)
operated_from t op a b h k =
    record { grows = omega (arith, h.grows, k.grows); operands = (operand_more a.next b.next a.value k.grows h.value, k.value) }

-- an operation on what two steps give, of which the second stand behind the first
pub joined_from : (t : ℕ) (op : Op) (left right : Steps) → 0 < t → AreFrom t left → AreFrom (operand_of left).next right →
    AreFrom t (operated op (operand_of left) (operand_of right))
joined_from t op left right pos h k =
    let x = operand_from t left pos h in
    operated_from t op (operand_of left) (operand_of right) x (operand_from (operand_of left).next right (omega (arith, x.grows)) k)

module _ (scope : Scope) (bound : ℕ) (pos : 0 < bound) (below : Below bound scope) where
  -- behind the operand of such steps
  pub after_operand : (t : ℕ) (steps : Steps) → bound ≤ t → AreFrom t steps → bound ≤ (operand_of steps).next
  after_operand t steps le h = omega (arith, (operand_from t steps (omega arith) h).grows)

  mutual
    pub expr_from : (t : ℕ) (e : Expr) → bound ≤ t → AreFrom t (expr_steps scope t e)
    expr_from t (sum_of a ts) le = terms_from t (term_steps scope t a) ts le (term_from t a le)

    pub terms_from : (t : ℕ) (left : Steps) (ts : Terms) → bound ≤ t → AreFrom t left → AreFrom t (terms_steps scope left ts)
    terms_from t left no_term le h = h
    terms_from t left (plus a ts) le h =
        terms_from t _ ts le (joined_from t _ left _ (omega arith) h (term_from (operand_of left).next a (after_operand t left le h)))
    terms_from t left (minus a ts) le h =
        terms_from t _ ts le (joined_from t _ left _ (omega arith) h (term_from (operand_of left).next a (after_operand t left le h)))

    pub term_from : (t : ℕ) (a : Term) → bound ≤ t → AreFrom t (term_steps scope t a)
    term_from t (product_of f fs) le = factors_from t (factor_steps scope t f) fs le (factor_from t f le)

    pub factors_from : (t : ℕ) (left : Steps) (fs : Factors) → bound ≤ t → AreFrom t left → AreFrom t (factors_steps scope left fs)
    factors_from t left no_factor le h = h
    factors_from t left (times f fs) le h =
        factors_from t _ fs le (joined_from t _ left _ (omega arith) h (factor_from (operand_of left).next f (after_operand t left le h)))

    pub factor_from : (t : ℕ) (f : Factor) → bound ≤ t → AreFrom t (factor_steps scope t f)
    factor_from t (number n) le = record { grows = omega arith; operands = tt }
    factor_from t arg_count le = record { grows = omega arith; operands = tt }
    factor_from t (variable x) le = record { grows = omega arith; operands = operand_more bound t _ le (held_below bound x scope below) }
    factor_from t (group e) le = expr_from t e le

  pub piece_from : (t : ℕ) (e : Expr) → bound ≤ t → IsFrom t (expr_piece scope t e)
  piece_from t e le = operand_from t (expr_steps scope t e) (omega arith) (expr_from t e le)

  pub condition_grows : (t : ℕ) (c : Condition) → bound ≤ t → t ≤ (condition_piece scope t c).next
  condition_grows t always le = omega arith
  condition_grows t (compares a r b) le =
      let h = piece_from t a le in
      let k = piece_from (expr_piece scope t a).next b (omega (arith, h.grows)) in
      omega (arith, h.grows, k.grows)
