-- Lowered code has as many Loops as the program has `for`.
use Rattle.std.proofs.Common.{◌≡◌, ℕ, ◌+◌, List, [], ◌∷◌, ◌++◌, Option, Some, None, refl, ◌∙◌, arith}
use Rattle.flat_code.specs.declared.op.Op.{Op}
use Rattle.flat_code.specs.declared.op.Op.TheVariants.{Add, Sub, Mul}
use Rattle.flat_code.specs.declared.value.Value.{Value}
use Rattle.flat_code.specs.Code.{Code, codes_of}
use Rattle.flat_code.specs.Contents.{loops_in, loops_in_all}
use Rattle.hare_blocks.specs.Trees.{Expr, Terms, Term, Factors, Factor, sum_of, no_term, plus, minus, product_of, no_factor, times, number, arg_count, variable, group, Relation, less, less_equal, greater, greater_equal, equal, differ, Condition, always, compares, Statement, Statements, declares, assigns, chooses, chooses_one, repeats, puts, exits, nothing, first, Program, exit_of, block_of}
use Rattle.hare_blocks.specs.Scopes.{number_of}
use Rattle.low_blocks.specs.declared.last.Last.{Last}
use Rattle.low_blocks.specs.declared.last.Last.TheVariants.{Operand, Operation, ArgCount}
use Rattle.low_blocks.specs.Expressions.{Scope, last_set, Steps, Piece, settled, operand_of, operated, comparison, expr_steps, terms_steps, term_steps, factors_steps, factor_steps, expr_piece, condition_piece}
use Rattle.low_blocks.specs.Statements.{Site, past, outside, variable_set, branch, turn, statement_code, statements_code}
use Rattle.low_blocks.specs.Programs.{body_of, start, body_code, lowered}
use Rattle.low_blocks.specs.Shape.{statement_fors, statements_fors, program_fors, HasItsLoops}

abbrev loops : List Code → ℕ
loops cs = loops_in_all (codes_of cs)

loops_parts : (a b : List Code) → loops (a ++ b) ≡ loops a + loops b
loops_parts [] b = omega arith
loops_parts (c ∷ a) b = omega (arith, loops_parts a b)

-- ---- expressions and conditions

loops_last : (t : ℕ) (last : Last) → loops (last_set t last ∷ []) ≡ 0
loops_last t (Operand v) = refl
loops_last t (Operation op a b) = refl
loops_last t ArgCount = refl

loops_settled : (last : Last) (cs : List Code) (next : ℕ) → loops cs ≡ 0 → loops (settled last cs next).code ≡ 0
loops_settled (Operand v) cs next h = h
loops_settled (Operation op a b) cs next h = loops_parts cs (last_set next (Operation op a b) ∷ []) ∙ omega (arith, h)
loops_settled ArgCount cs next h = loops_parts cs (last_set next ArgCount ∷ []) ∙ omega (arith, h)

loops_operand : (steps : Steps) → loops steps.code ≡ 0 → loops (operand_of steps).code ≡ 0
loops_operand steps h = loops_settled steps.last steps.code steps.next h

loops_joined : (op : Op) (left right : Steps) → loops left.code ≡ 0 → loops right.code ≡ 0 →
    loops (operated op (operand_of left) (operand_of right)).code ≡ 0
loops_joined op left right h k =
    loops_parts (operand_of left).code (operand_of right).code ∙ omega (arith, loops_operand left h, loops_operand right k)

mutual
  loops_expr : (scope : Scope) (t : ℕ) (e : Expr) → loops (expr_steps scope t e).code ≡ 0
  loops_expr scope t (sum_of a ts) = loops_terms scope (term_steps scope t a) ts (loops_term scope t a)

  loops_terms : (scope : Scope) (left : Steps) (ts : Terms) → loops left.code ≡ 0 → loops (terms_steps scope left ts).code ≡ 0
  loops_terms scope left no_term h = h
  loops_terms scope left (plus a ts) h = loops_terms scope _ ts (loops_joined Add left _ h (loops_term scope (operand_of left).next a))
  loops_terms scope left (minus a ts) h = loops_terms scope _ ts (loops_joined Sub left _ h (loops_term scope (operand_of left).next a))

  loops_term : (scope : Scope) (t : ℕ) (a : Term) → loops (term_steps scope t a).code ≡ 0
  loops_term scope t (product_of f fs) = loops_factors scope (factor_steps scope t f) fs (loops_factor scope t f)

  loops_factors : (scope : Scope) (left : Steps) (fs : Factors) → loops left.code ≡ 0 → loops (factors_steps scope left fs).code ≡ 0
  loops_factors scope left no_factor h = h
  loops_factors scope left (times f fs) h =
      loops_factors scope _ fs (loops_joined Mul left _ h (loops_factor scope (operand_of left).next f))

  loops_factor : (scope : Scope) (t : ℕ) (f : Factor) → loops (factor_steps scope t f).code ≡ 0
  loops_factor scope t (number m) = refl
  loops_factor scope t arg_count = refl
  loops_factor scope t (variable x) = refl
  loops_factor scope t (group e) = loops_expr scope t e

loops_piece : (scope : Scope) (t : ℕ) (e : Expr) → loops (expr_piece scope t e).code ≡ 0
loops_piece scope t e = loops_operand (expr_steps scope t e) (loops_expr scope t e)

loops_comparison : (r : Relation) (a b : Value) → loops (comparison r a b ∷ []) ≡ 0
loops_comparison less a b = refl
loops_comparison less_equal a b = refl
loops_comparison greater a b = refl
loops_comparison greater_equal a b = refl
loops_comparison equal a b = refl
loops_comparison differ a b = refl

loops_condition : (scope : Scope) (t : ℕ) (c : Condition) → loops (condition_piece scope t c).code ≡ 0
loops_condition scope t always = refl
loops_condition scope t (compares a r b) =
    let x = expr_piece scope t a in
    let y = expr_piece scope x.next b in
    omega (
      arith,
      loops_parts x.code (y.code ++ comparison r x.value y.value ∷ []),
      loops_piece scope t a,
      loops_parts y.code
          (comparison r x.value y.value ∷ []),
      loops_piece scope x.next b,
      loops_comparison r x.value y.value,
    )

-- ---- statements

loops_variable : (o : Option ℕ) (last : Last) → loops (variable_set o last) ≡ 0
loops_variable None last = refl
loops_variable (Some t) last = loops_last t last

loops_branch : (test : Piece) (does other : List Code) → loops test.code ≡ 0 → loops (branch test does other) ≡ loops does + loops other
loops_branch test does other h = loops_parts test.code _ ∙ omega (arith, h)

loops_turn : (c : Condition) (test : Piece) (body : List Code) → loops test.code ≡ 0 → loops_in (turn c test body) ≡ loops body
loops_turn always test body h = refl
loops_turn (compares a r b) test body h = loops_parts test.code _ ∙ omega (arith, h)

mutual
  statement_loops : (site : Site) (s : Statement) → loops (statement_code site s).code ≡ statement_fors s
  statement_loops site (declares x e) =
      let v = expr_steps site.scope site.next e in
      loops_parts v.code _ ∙ omega (arith, loops_expr site.scope site.next e, loops_variable (Some v.next) v.last)
  statement_loops site (assigns x e) =
      let v = expr_steps site.scope site.next e in
      loops_parts v.code _ ∙ omega (arith, loops_expr site.scope site.next e, loops_variable (number_of x site.scope) v.last)
  statement_loops site (chooses c body) =
      let test = condition_piece site.scope site.next c in
      loops_branch test (statements_code (past site test.next) body).code [] (loops_condition site.scope site.next c) ∙ omega
      (arith, statements_loops (past site test.next) body)
  statement_loops site (chooses_one c body other) =
      let test = condition_piece site.scope site.next c in
      let low = statements_code (past site test.next) body in
      loops_branch test low.code (statements_code (outside site low.behind) other).code (loops_condition site.scope site.next c) ∙ omega
      (arith, statements_loops (past site test.next) body, statements_loops (outside site low.behind) other)
  statement_loops site (repeats c body) =
      let test = condition_piece site.scope site.next c in
      omega (
        arith,
        loops_turn c test (statements_code (past site test.next) body).code (loops_condition site.scope site.next c),
        statements_loops (past site test.next) body,
      )
  statement_loops site (puts text) = refl
  statement_loops site (exits e) =
      loops_parts (expr_piece site.scope site.next e).code _ ∙ omega (arith, loops_piece site.scope site.next e)

  statements_loops : (site : Site) (ss : Statements) → loops (statements_code site ss).code ≡ statements_fors ss
  statements_loops site nothing = refl
  statements_loops site (first s ss) =
      loops_parts (statement_code site s).code _ ∙ omega (arith, statement_loops site s, statements_loops (statement_code site s).behind ss)

program_loops : (p : Program) → loops (body_code p).code ≡ program_fors p
program_loops (exit_of e) = statements_loops start (body_of (exit_of e))
program_loops (block_of ss) = statements_loops start ss

pub has_its_loops : (p : Program) → HasItsLoops p (lowered p)
has_its_loops p = omega (arith, program_loops p)
