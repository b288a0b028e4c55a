-- The code of a lowered program: it computes with numbers and temporaries, and calls no function but three of the runtime.
use Rattle.std.proofs.Common.{ℕ, List, [], ◌∷◌, ◌++◌, Option, Some, None}
use Rattle.std.specs.Prelude.{codes}
use Rattle.flat_code.specs.declared.op.Op.{Op}
use Rattle.flat_code.specs.declared.op.Op.TheVariants.{Add, Sub, Mul}
use Rattle.flat_code.specs.declared.value.Value.{Value}
use Rattle.flat_code.specs.declared.value.Value.TheVariants.{Temp, Number, Symbol, Frame}
use Rattle.flat_code.specs.Code.{Code, Codes, none, more, Seq, Set, Load, Store, Move, If, Loop, Leave, Call, Ret, codes_of}
use Rattle.hare_blocks.specs.Scopes.{number_of}
use Rattle.hare_blocks.specs.Trees.{Expr, Terms, Term, Factors, Factor, sum_of, no_term, plus, minus, product_of, no_factor, times, number, arg_count, variable, group, Relation, less, less_equal, greater, greater_equal, equal, differ, Condition, always, compares, Statement, Statements, declares, assigns, chooses, chooses_one, repeats, puts, exits, nothing, first}
use Rattle.low_blocks.specs.declared.last.Last.{Last}
use Rattle.low_blocks.specs.declared.last.Last.TheVariants.{Operand, Operation, ArgCount}
use Rattle.low_blocks.specs.Expressions.{Scope, held, last_set, Steps, Piece, settled, operand_of, operated, comparison, expr_steps, terms_steps, term_steps, factors_steps, factor_steps, expr_piece, condition_piece}
use Rattle.low_blocks.specs.Statements.{Site, past, outside, variable_set, branch, turn, statement_code, statements_code}

-- ---- code

-- an operand that is no address
abbrev pub IsOperand : Value → Type 0
IsOperand (Temp t) = Unit {0}
IsOperand (Number n) = Unit {0}
IsOperand (Symbol i offset) = ⊥
IsOperand (Frame offset) = ⊥

-- calls of the runtime: the number of arguments, an exit, and the output of a string
pub data IsFitCall : Option ℕ → List ℕ → List Value → Type 0 where
  counts : (t : ℕ) → IsFitCall (Some t) (codes "rt.nargs") []
  leaves : (v : Value) → IsOperand v → IsFitCall None (codes "rt.exit") (v ∷ [])
  puts_out : (i n : ℕ) → IsFitCall None (codes "rt.puts") (Symbol i 0 ∷ Number n ∷ [])

abbrev mutual
  pub IsFit : Code → Type 0
  IsFit (Seq cs) = AreFit cs
  IsFit (Set t class o a b) = IsOperand a × IsOperand b
  IsFit (Load t how at) = ⊥
  IsFit (Store width value at) = ⊥
  IsFit (Move to from bytes) = ⊥
  IsFit (If cond a b) = IsOperand cond × IsFit a × IsFit b
  IsFit (Loop c) = IsFit c
  IsFit (Leave k) = Unit {0}
  IsFit (Call temp name args) = IsFitCall temp name args
  IsFit (Ret value) = ⊥

  pub AreFit : Codes → Type 0
  AreFit none = Unit {0}
  AreFit (more c cs) = IsFit c × AreFit cs

-- code behind code
fit_append : (a b : List Code) → AreFit (codes_of a) → AreFit (codes_of b) → AreFit (codes_of (a ++ b))
fit_append [] b h k = k
fit_append (c ∷ a) b h k = (h.0, fit_append a b h.1 k)

-- ---- expressions

record IsFitPiece (p : Piece) : Type 0 where
  code : AreFit (codes_of p.code)
  value : IsOperand p.value

-- the operands of a last step
abbrev IsFitLast : Last → Type 0
IsFitLast (Operand v) = IsOperand v
IsFitLast (Operation o a b) = IsOperand a × IsOperand b
IsFitLast ArgCount = Unit {0}

record AreFitSteps (s : Steps) : Type 0 where
  code : AreFit (codes_of s.code)
  last : IsFitLast s.last

held_operand : (o : Option ℕ) → IsOperand (held o)
held_operand None = tt
held_operand (Some t) = tt

last_fit : (t : ℕ) (last : Last) → IsFitLast last → AreFit (codes_of (last_set t last ∷ []))
last_fit t (Operand v) h = ((h, tt), tt)
last_fit t (Operation o a b) h = (h, tt)
last_fit t ArgCount h = (counts t, tt)

settled_fit : (last : Last) (cs : List Code) (next : ℕ) → AreFit (codes_of cs) → IsFitLast last → IsFitPiece (settled last cs next)
settled_fit (Operand v) cs next h k = record { code = h; value = k }
settled_fit (Operation o a b) cs next h k = record { code = fit_append cs _ h (last_fit next (Operation o a b) k); value = tt }
settled_fit ArgCount cs next h k = record { code = fit_append cs _ h (last_fit next ArgCount k); value = tt }

operand_fit : (s : Steps) → AreFitSteps s → IsFitPiece (operand_of s)
operand_fit s h = settled_fit s.last s.code s.next h.code h.last

joined_fit : (o : Op) (left right : Steps) → AreFitSteps left → AreFitSteps right →
    AreFitSteps (operated o (operand_of left) (operand_of right))
joined_fit o left right h k =
    let x = operand_fit left h in
    let y = operand_fit right k in
    record { code = fit_append (operand_of left).code _ x.code y.code; last = (x.value, y.value) }

mutual
  expr_fit : (scope : Scope) (t : ℕ) (e : Expr) → AreFitSteps (expr_steps scope t e)
  expr_fit scope t (sum_of a ts) = terms_fit scope (term_steps scope t a) ts (term_fit scope t a)

  terms_fit : (scope : Scope) (left : Steps) (ts : Terms) → AreFitSteps left → AreFitSteps (terms_steps scope left ts)
  terms_fit scope left no_term h = h
  terms_fit scope left (plus a ts) h = terms_fit scope _ ts (joined_fit Add left _ h (term_fit scope (operand_of left).next a))
  terms_fit scope left (minus a ts) h = terms_fit scope _ ts (joined_fit Sub left _ h (term_fit scope (operand_of left).next a))

  term_fit : (scope : Scope) (t : ℕ) (a : Term) → AreFitSteps (term_steps scope t a)
  term_fit scope t (product_of f fs) = factors_fit scope (factor_steps scope t f) fs (factor_fit scope t f)

  factors_fit : (scope : Scope) (left : Steps) (fs : Factors) → AreFitSteps left → AreFitSteps (factors_steps scope left fs)
  factors_fit scope left no_factor h = h
  factors_fit scope left (times f fs) h = factors_fit scope _ fs (joined_fit Mul left _ h (factor_fit scope (operand_of left).next f))

  factor_fit : (scope : Scope) (t : ℕ) (f : Factor) → AreFitSteps (factor_steps scope t f)
  factor_fit scope t (number n) = record { code = tt; last = tt }
  factor_fit scope t arg_count = record { code = tt; last = tt }
  factor_fit scope t (variable x) = record { code = tt; last = held_operand (number_of x scope) }
  factor_fit scope t (group e) = expr_fit scope t e

piece_fit : (scope : Scope) (t : ℕ) (e : Expr) → IsFitPiece (expr_piece scope t e)
piece_fit scope t e = operand_fit (expr_steps scope t e) (expr_fit scope t e)

-- ---- conditions

comparison_fit : (r : Relation) (a b : Value) → IsOperand a → IsOperand b → IsFit (comparison r a b)
comparison_fit less a b h k = (h, k)
comparison_fit less_equal a b h k = (h, k)
comparison_fit greater a b h k = (k, h)
comparison_fit greater_equal a b h k = (k, h)
comparison_fit equal a b h k = (h, k)
comparison_fit differ a b h k = (h, k)

condition_fit : (scope : Scope) (t : ℕ) (c : Condition) → IsFitPiece (condition_piece scope t c)
condition_fit scope t always = record { code = tt; value = tt }
condition_fit scope t (compares a r b) =
    let x = expr_piece scope t a in
    let y = expr_piece scope x.next b in
    let h = piece_fit scope t a in
    let k = piece_fit scope x.next b in
    record {
      code = fit_append x.code _ h.code (fit_append y.code _ k.code (comparison_fit r x.value y.value h.value k.value, tt));
      value = tt;
    }

-- ---- statements

variable_fit : (place : Option ℕ) (last : Last) → IsFitLast last → AreFit (codes_of (variable_set place last))
variable_fit None last h = tt
variable_fit (Some t) last h = last_fit t last h

branch_fit : (c : Piece) (does other : List Code) → IsFitPiece c → AreFit (codes_of does) → AreFit (codes_of other) →
    AreFit (codes_of (branch c does other))
branch_fit c does other h a b = fit_append c.code _ h.code ((h.value, a, b), tt)

turn_fit : (c : Condition) (test : Piece) (body : List Code) → IsFitPiece test → AreFit (codes_of body) → IsFit (turn c test body)
turn_fit always test body h b = b
turn_fit (compares a r e) test body h b = fit_append test.code _ h.code ((h.value, b, tt), tt)

mutual
  statement_fit : (site : Site) (s : Statement) → AreFit (codes_of (statement_code site s).code)
  statement_fit site (declares x e) =
      let v = expr_steps site.scope site.next e in
      let h = expr_fit site.scope site.next e in
      fit_append v.code _ h.code (variable_fit (Some v.next) v.last h.last)
  statement_fit site (assigns x e) =
      let v = expr_steps site.scope site.next e in
      let h = expr_fit site.scope site.next e in
      fit_append v.code _ h.code (variable_fit (number_of x site.scope) v.last h.last)
  statement_fit site (chooses c body) =
      let test = condition_piece site.scope site.next c in
      branch_fit test _ [] (condition_fit site.scope site.next c) (statements_fit (past site test.next) body) tt
  statement_fit site (chooses_one c body other) =
      let test = condition_piece site.scope site.next c in
      let b = statements_code (past site test.next) body in
      branch_fit test _ _ (condition_fit site.scope site.next c) (statements_fit (past site test.next) body)
      (statements_fit (outside site b.behind) other)
  statement_fit site (repeats c body) =
      let test = condition_piece site.scope site.next c in
      (turn_fit c test _ (condition_fit site.scope site.next c) (statements_fit (past site test.next) body), tt)
  statement_fit site (puts text) = (puts_out _ _, tt)
  statement_fit site (exits e) =
      let v = expr_piece site.scope site.next e in
      let h = piece_fit site.scope site.next e in
      fit_append v.code _ h.code (leaves v.value h.value, tt)

  -- the code of statements is fit
  pub statements_fit : (site : Site) (ss : Statements) → AreFit (codes_of (statements_code site ss).code)
  statements_fit site nothing = tt
  statements_fit site (first s ss) =
      fit_append (statement_code site s).code _ (statement_fit site s) (statements_fit (statement_code site s).behind ss)
