-- How deep parentheses are nested within an expression.
use Rattle.std.specs.Prelude.{ℕ, ◌+◌, max}
use Rattle.hare_blocks.specs.Trees.{Expr, Terms, Term, Factors, Factor, sum_of, no_term, plus, minus, product_of, no_factor, times, number, arg_count, variable, group}

abbrev mutual
  pub expr_depth : Expr → ℕ
  expr_depth (sum_of t ts) = max (term_depth t) (terms_depth ts)

  pub terms_depth : Terms → ℕ
  terms_depth no_term = 0
  terms_depth (plus t ts) = max (term_depth t) (terms_depth ts)
  terms_depth (minus t ts) = max (term_depth t) (terms_depth ts)

  pub term_depth : Term → ℕ
  term_depth (product_of f fs) = max (factor_depth f) (factors_depth fs)

  pub factors_depth : Factors → ℕ
  factors_depth no_factor = 0
  factors_depth (times f fs) = max (factor_depth f) (factors_depth fs)

  pub factor_depth : Factor → ℕ
  factor_depth (number n) = 0
  factor_depth arg_count = 1
  factor_depth (variable x) = 0
  factor_depth (group e) = 1 + expr_depth e
