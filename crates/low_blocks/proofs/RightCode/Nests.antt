-- Lowered statements stand within one another no deeper than their blocks allow.
use Rattle.std.proofs.Common.{◌≡◌, ℕ, suc, ◌-◌, ◌*◌, ◌<◌, ◌≤◌, Bool, true, false, ◌&&◌, List, [], ◌∷◌, ◌++◌, Option, Some, None, refl, ap, ◌∙◌, subst, arith}
use Rattle.std.specs.Prelude.{nat_lt}
use Rattle.std.proofs.lemmas.Bool.Decides.{nat_tests}
use Rattle.flat_code.specs.declared.op.Op.{Op}
use Rattle.flat_code.specs.declared.op.Op.TheVariants.{Add, Sub, Mul}
use Rattle.flat_code.specs.declared.value.Value.{Value}
use Rattle.flat_code.specs.Code.{Code, If, Loop, Leave, codes_of}
use Rattle.flat_code.specs.WellFormed.{nests_within, each_nests_within}
use Rattle.hare_blocks.specs.Trees.{Expr, Terms, Term, Factors, Factor, sum_of, no_term, plus, minus, product_of, no_factor, times, number, arg_count, variable, group, Relation, less, less_equal, greater, greater_equal, equal, differ, Condition, always, compares, Statement, Statements, declares, assigns, chooses, chooses_one, repeats, puts, exits, nothing, first}
use Rattle.hare_blocks.specs.Class.{statement_blocks, statements_blocks}
use Rattle.hare_blocks.specs.Scopes.{number_of}
use Rattle.low_blocks.specs.declared.last.Last.{Last}
use Rattle.low_blocks.specs.declared.last.Last.TheVariants.{Operand, Operation, ArgCount}
use Rattle.low_blocks.specs.Expressions.{Scope, last_set, Steps, Piece, settled, operand_of, operated, comparison, expr_steps, terms_steps, term_steps, factors_steps, factor_steps, expr_piece, condition_piece}
use Rattle.low_blocks.specs.Statements.{Site, past, outside, variable_set, seq, branch, turn, statement_code, statements_code}
use Rattle.low_blocks.proofs.RightCode.Plain.{and_assoc, and_both}

-- statements that each stand within no more than `n`, themselves included
abbrev pub Nest : ℕ → List Code → Type 0
Nest n cs = each_nests_within (codes_of cs) n ≡ true

nest_parts : (n : ℕ) (a b : List Code) → each_nests_within (codes_of (a ++ b)) n ≡
    (each_nests_within (codes_of a) n && each_nests_within (codes_of b) n)
nest_parts n [] b = refl
nest_parts n (c ∷ a) b = ap (λ x. nests_within c n && x) (nest_parts n a b) ∙ and_assoc (nests_within c n) _ _

nest_append : (n : ℕ) (a b : List Code) → Nest n a → Nest n b → Nest n (a ++ b)
nest_append n a b h k = nest_parts n a b ∙ and_both _ _ h k

nest_one : (n : ℕ) (c : Code) → nests_within c n ≡ true → Nest n (c ∷ [])
nest_one n c h = and_both _ _ h refl

above : (n : ℕ) → 0 < n → nat_lt 0 n ≡ true
above n l = pick (nat_lt 0 n) refl
  where
    pick : (b : Bool) → nat_lt 0 n ≡ b → b ≡ true
    pick true e = refl
    pick false e = absurd (grind (arith, nat_tests))

-- ---- expressions and conditions: no statement stands in another

module _ (n : ℕ) (pos : 0 < n) where
  -- what a statement without others within it comes to
  leaf : (nat_lt 0 n && true) ≡ true
  leaf = and_both _ _ (above n pos) refl

  nest_last : (t : ℕ) (last : Last) → Nest n (last_set t last ∷ [])
  nest_last t (Operand v) = leaf
  nest_last t (Operation op a b) = leaf
  nest_last t ArgCount = leaf

  nest_settled : (last : Last) (cs : List Code) (next : ℕ) → Nest n cs → Nest n (settled last cs next).code
  nest_settled (Operand v) cs next h = h
  nest_settled (Operation op a b) cs next h = nest_append n cs _ h leaf
  nest_settled ArgCount cs next h = nest_append n cs _ h leaf

  nest_operand : (steps : Steps) → Nest n steps.code → Nest n (operand_of steps).code
  nest_operand steps h = nest_settled steps.last steps.code steps.next h

  nest_joined : (op : Op) (left right : Steps) → Nest n left.code → Nest n right.code →
      Nest n (operated op (operand_of left) (operand_of right)).code
  nest_joined op left right h k = nest_append n (operand_of left).code _ (nest_operand left h) (nest_operand right k)

  mutual
    nest_expr : (scope : Scope) (t : ℕ) (e : Expr) → Nest n (expr_steps scope t e).code
    nest_expr scope t (sum_of a ts) = nest_terms scope (term_steps scope t a) ts (nest_term scope t a)

    nest_terms : (scope : Scope) (left : Steps) (ts : Terms) → Nest n left.code → Nest n (terms_steps scope left ts).code
    nest_terms scope left no_term h = h
    nest_terms scope left (plus a ts) h = nest_terms scope _ ts (nest_joined Add left _ h (nest_term scope (operand_of left).next a))
    nest_terms scope left (minus a ts) h = nest_terms scope _ ts (nest_joined Sub left _ h (nest_term scope (operand_of left).next a))

    nest_term : (scope : Scope) (t : ℕ) (a : Term) → Nest n (term_steps scope t a).code
    nest_term scope t (product_of f fs) = nest_factors scope (factor_steps scope t f) fs (nest_factor scope t f)

    nest_factors : (scope : Scope) (left : Steps) (fs : Factors) → Nest n left.code → Nest n (factors_steps scope left fs).code
    nest_factors scope left no_factor h = h
    nest_factors scope left (times f fs) h = nest_factors scope _ fs (nest_joined Mul left _ h (nest_factor scope (operand_of left).next f))

    nest_factor : (scope : Scope) (t : ℕ) (f : Factor) → Nest n (factor_steps scope t f).code
    nest_factor scope t (number m) = refl
    nest_factor scope t arg_count = refl
    nest_factor scope t (variable x) = refl
    nest_factor scope t (group e) = nest_expr scope t e

  nest_piece : (scope : Scope) (t : ℕ) (e : Expr) → Nest n (expr_piece scope t e).code
  nest_piece scope t e = nest_operand (expr_steps scope t e) (nest_expr scope t e)

  nest_comparison : (r : Relation) (a b : Value) → Nest n (comparison r a b ∷ [])
  nest_comparison less a b = leaf
  nest_comparison less_equal a b = leaf
  nest_comparison greater a b = leaf
  nest_comparison greater_equal a b = leaf
  nest_comparison equal a b = leaf
  nest_comparison differ a b = leaf

  nest_condition : (scope : Scope) (t : ℕ) (c : Condition) → Nest n (condition_piece scope t c).code
  nest_condition scope t always = refl
  nest_condition scope t (compares a r b) = nest_append n (expr_piece scope t a).code _ (nest_piece scope t a)
      (nest_append n (expr_piece scope (expr_piece scope t a).next b).code _ (nest_piece scope (expr_piece scope t a).next b)
      (nest_comparison r _ _))

  nest_variable : (o : Option ℕ) (last : Last) → Nest n (variable_set o last)
  nest_variable None last = refl
  nest_variable (Some t) last = nest_last t last

-- ---- statements

nest_branch : (n : ℕ) (test : Piece) (does other : List Code) → Nest (suc (suc n)) test.code → Nest n does → Nest n other →
    Nest (suc (suc n)) (branch test does other)
nest_branch n test does other h k l =
    nest_append (suc (suc n)) test.code _ h (nest_one (suc (suc n)) (If test.value (seq does) (seq other)) (and_both _ _ k l))

nest_turn : (n : ℕ) (c : Condition) (test : Piece) (body : List Code) → ((m : ℕ) → 0 < m → Nest m test.code) →
    ((m : ℕ) → n ≤ m → Nest m body) → Nest (suc (suc (suc (suc n)))) (Loop (turn c test body) ∷ [])
nest_turn n always test body h k = and_both _ _ (k (suc (suc n)) (omega arith)) refl
nest_turn n (compares a r b) test body h k =
    and_both _ _ (nest_append (suc (suc n)) test.code _ (h (suc (suc n)) (omega arith))
    (nest_one (suc (suc n)) (If test.value (seq body) (Leave 1)) (and_both _ _ (k n (omega arith)) (above (suc n) (omega arith))))) refl

four_more : (n : ℕ) → 4 ≤ n → suc (suc (suc (suc (n - 4)))) ≡ n
four_more n h = omega arith

two_more : (n : ℕ) → 2 ≤ n → suc (suc (n - 2)) ≡ n
two_more n h = omega arith

mutual
  statement_nests : (site : Site) (s : Statement) (n : ℕ) → 4 * statement_blocks s < n → Nest n (statement_code site s).code
  statement_nests site (declares x e) n l = nest_append n (expr_steps site.scope site.next e).code _
      (nest_expr n (omega arith) site.scope site.next e)
      (nest_variable n (omega arith) (Some (expr_steps site.scope site.next e).next) (expr_steps site.scope site.next e).last)
  statement_nests site (assigns x e) n l = nest_append n (expr_steps site.scope site.next e).code _
      (nest_expr n (omega arith) site.scope site.next e)
      (nest_variable n (omega arith) (number_of x site.scope) (expr_steps site.scope site.next e).last)
  statement_nests site (chooses c body) n l =
      let test = condition_piece site.scope site.next c in
      let b = statements_nest (past site test.next) body (n - 2) (omega arith) in
      subst (λ m. Nest m (branch test (statements_code (past site test.next) body).code [])) (two_more n (omega arith))
      (nest_branch (n - 2) test _ [] (nest_condition _ (omega arith) site.scope site.next c) b refl)
  statement_nests site (chooses_one c body other) n l =
      let test = condition_piece site.scope site.next c in
      let within = (statements_code (past site test.next) body).behind in
      let b = statements_nest (past site test.next) body (n - 2) (omega arith) in
      let o = statements_nest (outside site within) other (n - 2) (omega arith) in
      subst (λ m. Nest m (branch test (statements_code (past site test.next) body).code (statements_code (outside site within) other).code))
      (two_more n (omega arith)) (nest_branch (n - 2) test _ _ (nest_condition _ (omega arith) site.scope site.next c) b o)
  statement_nests site (repeats c body) n l =
      let test = condition_piece site.scope site.next c in
      subst (λ m. Nest m (Loop (turn c test (statements_code (past site test.next) body).code) ∷ [])) (four_more n (omega arith))
      (nest_turn (n - 4) c test _ (λ m k. nest_condition m k site.scope site.next c)
      (λ m k. statements_nest (past site test.next) body m (omega arith)))
  statement_nests site (puts text) n l = leaf n (omega arith)
  statement_nests site (exits e) n l =
      nest_append n (expr_piece site.scope site.next e).code _ (nest_piece n (omega arith) site.scope site.next e) (leaf n (omega arith))

  pub statements_nest : (site : Site) (ss : Statements) (n : ℕ) → 4 * statements_blocks ss < n → Nest n (statements_code site ss).code
  statements_nest site nothing n l = refl
  statements_nest site (first s ss) n l = nest_append n (statement_code site s).code _ (statement_nests site s n (omega arith))
      (statements_nest (statement_code site s).behind ss n (omega arith))
