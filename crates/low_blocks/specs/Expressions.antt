-- The flat code of expressions and conditions. No public clause cites it.
--
-- Operations and calls of `rt::nargs` stand in the order of evaluation, from left to right. Each but the last sets a temporary of its own;
-- the last one sets the temporary that is to hold the value, which may be that of a variable. A variable is read where it is an operand:
-- nothing in front of the last step changes a variable.
use Rattle.std.specs.Prelude.{ℕ, suc, ◌^◌, ◌%◌, List, [], ◌∷◌, ◌++◌, Option, None, Some, codes}
use Rattle.hx_base.specs.declared.Class.TheVariants.{W, L}
use Rattle.flat_code.specs.declared.op.Op.{Op}
use Rattle.flat_code.specs.declared.op.Op.TheVariants.{Copy, Add, Sub, Mul, Cultl, Culel, Ceql, Cnel}
use Rattle.flat_code.specs.declared.value.Value.{Value}
use Rattle.flat_code.specs.declared.value.Value.TheVariants.{Temp, Number}
use Rattle.flat_code.specs.Code.{Code, Set, Call}
use Rattle.hare_blocks.specs.Scopes.{number_of}
use Rattle.hare_blocks.specs.Trees.{Expr, Terms, Term, Factors, Factor, sum_of, no_term, plus, minus, product_of, no_factor, times, number, arg_count, variable, group, Relation, less, less_equal, greater, greater_equal, equal, differ, Condition, always, compares}
use Rattle.low_blocks.specs.declared.last.Last.{Last}
use Rattle.low_blocks.specs.declared.last.Last.TheVariants.{Operand, Operation, ArgCount}

-- ---- variables

-- the variables of the blocks that are open, each with the temporary that holds it, the newest first
abbrev pub Scope : Type 0
Scope = List (List ℕ × ℕ)

-- the operand that is a variable, by its temporary: 0 where there is none, which no program of the class asks for
abbrev pub held : Option ℕ → Value
held None = Number 0
held (Some t) = Temp t

-- ---- expressions

-- the statement that sets a temporary by a last step
abbrev pub last_set : ℕ → Last → Code
last_set t (Operand v) = Set t L Copy v (Number 0)
last_set t (Operation op a b) = Set t L op a b
last_set t ArgCount = Call (Some t) (codes "rt.nargs") []

-- what an expression becomes up to its last step
pub record Steps : Type 0 where
  pub code : List Code  -- what stands in front of that step
  pub last : Last  -- what gives its value behind that code
  pub next : ℕ  -- the first temporary above those that the code sets

-- code that gives an operand
pub record Piece : Type 0 where
  pub code : List Code
  pub value : Value  -- the operand behind that code
  pub next : ℕ  -- the first temporary above those that the code sets

-- the operand that a last step gives behind some code: where it is none yet, the next temporary is set by that step
abbrev pub settled : Last → List Code → ℕ → Piece
settled (Operand v) cs t = record { code = cs; value = v; next = t }
settled last cs t = record { code = cs ++ last_set t last ∷ []; value = Temp t; next = suc t }

abbrev pub operand_of : Steps → Piece
operand_of s = settled s.last s.code s.next

-- an operation on what two pieces give, of which the second stands behind the first
abbrev pub operated : Op → Piece → Piece → Steps
operated op a b = record { code = a.code ++ b.code; last = Operation op a.value b.value; next = b.next }

-- The steps of an expression, whose temporaries are those from `t` on. What stands left of further terms or factors has become steps
-- already.
abbrev mutual
  pub expr_steps : Scope → ℕ → Expr → Steps
  expr_steps scope t (sum_of a ts) = terms_steps scope (term_steps scope t a) ts

  pub terms_steps : Scope → Steps → Terms → Steps
  terms_steps scope left no_term = left
  terms_steps scope left (plus a ts) =
      let x = operand_of left in
      terms_steps scope (operated Add x (operand_of (term_steps scope x.next a))) ts
  terms_steps scope left (minus a ts) =
      let x = operand_of left in
      terms_steps scope (operated Sub x (operand_of (term_steps scope x.next a))) ts

  pub term_steps : Scope → ℕ → Term → Steps
  term_steps scope t (product_of f fs) = factors_steps scope (factor_steps scope t f) fs

  pub factors_steps : Scope → Steps → Factors → Steps
  factors_steps scope left no_factor = left
  factors_steps scope left (times f fs) =
      let x = operand_of left in
      factors_steps scope (operated Mul x (operand_of (factor_steps scope x.next f))) fs

  pub factor_steps : Scope → ℕ → Factor → Steps
  factor_steps scope t (number n) = record { code = []; last = Operand (Number (n % 2 ^ 64)); next = t }
  factor_steps scope t arg_count = record { code = []; last = ArgCount; next = t }
  factor_steps scope t (variable x) = record { code = []; last = Operand (held (number_of x scope)); next = t }
  factor_steps scope t (group e) = expr_steps scope t e

-- the value of an expression as an operand
abbrev pub expr_piece : Scope → ℕ → Expr → Piece
expr_piece scope t e = operand_of (expr_steps scope t e)

-- ---- conditions

-- the temporary of class w that holds what a comparison gives. It is read at once, so that all comparisons share it; those of class l come
-- behind it.
abbrev pub test_temp : ℕ
test_temp = 0

-- what a comparison sets it to
abbrev pub test : Op → (a b : Value) → Code
test op a b = Set test_temp W op a b

-- how two operands are compared: where the relation is turned round, so are they
abbrev pub comparison : Relation → (a b : Value) → Code
comparison less a b = test Cultl a b
comparison less_equal a b = test Culel a b
comparison greater a b = test Cultl b a
comparison greater_equal a b = test Culel b a
comparison equal a b = test Ceql a b
comparison differ a b = test Cnel a b

-- a comparison of what two pieces give, of which the second stands behind the first
abbrev pub compared : Relation → Piece → Piece → Piece
compared r a b = record { code = a.code ++ (b.code ++ comparison r a.value b.value ∷ []); value = Temp test_temp; next = b.next }

-- the piece of a condition: it is not 0 exactly where the condition holds
abbrev pub condition_piece : Scope → ℕ → Condition → Piece
condition_piece scope t always = record { code = []; value = Number 1; next = t }
condition_piece scope t (compares a r b) = compared r (expr_piece scope t a) (expr_piece scope (expr_piece scope t a).next b)
