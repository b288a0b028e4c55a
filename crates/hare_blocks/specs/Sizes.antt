-- Sizes of trees, by which recursion over them ends: a part is less than what it stands in.
use Rattle.std.specs.Prelude.{ℕ, ◌+◌, suc, List, [], ◌∷◌}
use Rattle.hare_blocks.specs.Trees.{Expr, Terms, Term, Factors, Factor, sum_of, no_term, plus, minus, product_of, no_factor, times, number, arg_count, variable, group, Statement, Statements, declares, assigns, chooses, chooses_one, repeats, puts, exits, nothing, first}

abbrev mutual
  pub expr_size : Expr → ℕ
  expr_size (sum_of t ts) = suc (suc (term_size t) + terms_size ts)

  pub terms_size : Terms → ℕ
  terms_size no_term = 0
  terms_size (plus t ts) = suc (suc (term_size t)) + terms_size ts
  terms_size (minus t ts) = suc (suc (term_size t)) + terms_size ts

  pub term_size : Term → ℕ
  term_size (product_of f fs) = suc (factor_size f + factors_size fs)

  pub factors_size : Factors → ℕ
  factors_size no_factor = 0
  factors_size (times f fs) = suc (factor_size f) + factors_size fs

  pub factor_size : Factor → ℕ
  factor_size (number n) = 0
  factor_size arg_count = 0
  factor_size (variable x) = 0
  factor_size (group e) = suc (expr_size e)

-- a list of statements as the statements of a block
abbrev pub list_of_statements : List Statement → Statements
list_of_statements [] = nothing
list_of_statements (s ∷ ss) = first s (list_of_statements ss)

-- expressions are not counted: recursion over them is one of its own
abbrev mutual
  pub statement_size : Statement → ℕ
  statement_size (declares x e) = 0
  statement_size (assigns x e) = 0
  statement_size (chooses c body) = suc (statements_size body)
  statement_size (chooses_one c body other) = suc (statements_size body + statements_size other)
  statement_size (repeats c body) = suc (statements_size body)
  statement_size (puts text) = 0
  statement_size (exits e) = 0

  pub statements_size : Statements → ℕ
  statements_size nothing = 0
  statements_size (first s ss) = suc (statement_size s) + statements_size ss
