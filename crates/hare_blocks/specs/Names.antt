-- The tests of names, as the reader makes them.
use Rattle.std.specs.Prelude.{ℕ, List, [], ◌∷◌, map, Bool, true, false, ◌&&◌, ◌||◌, not, bytes_eq, codes}
use Rattle.hare_blocks.specs.Trees.{Expr, Terms, Term, Factors, Factor, sum_of, no_term, plus, minus, product_of, no_factor, times, number, arg_count, variable, group, Condition, always, compares, Statement, Statements, declares, assigns, chooses, chooses_one, repeats, puts, exits, nothing, first}
use Rattle.hare_blocks.specs.Class.{declared_behind}

-- the names of a scope
abbrev pub names_of : List (List ℕ × ℕ) → List (List ℕ)
names_of bs = map (λ b. b.0) bs

-- a name stands in the list
abbrev pub has_name : List (List ℕ) → List ℕ → Bool
has_name [] x = false
has_name (y ∷ ys) x = bytes_eq y x || has_name ys x

module _ (declared : List (List ℕ)) where
  abbrev mutual
    pub expr_holds : Expr → Bool
    expr_holds (sum_of t ts) = term_holds t && terms_hold ts

    pub terms_hold : Terms → Bool
    terms_hold no_term = true
    terms_hold (plus t ts) = term_holds t && terms_hold ts
    terms_hold (minus t ts) = term_holds t && terms_hold ts

    pub term_holds : Term → Bool
    term_holds (product_of f fs) = factor_holds f && factors_hold fs

    pub factors_hold : Factors → Bool
    factors_hold no_factor = true
    factors_hold (times f fs) = factor_holds f && factors_hold fs

    pub factor_holds : Factor → Bool
    factor_holds (number n) = true
    factor_holds arg_count = true
    factor_holds (variable x) = has_name declared x
    factor_holds (group e) = expr_holds e

  abbrev pub condition_holds : Condition → Bool
  condition_holds always = true
  condition_holds (compares a r b) = expr_holds a && expr_holds b

abbrev mutual
  pub statement_holds : List (List ℕ) → Statement → Bool
  statement_holds declared (declares x e) = not (bytes_eq x (codes "rt")) && expr_holds declared e
  statement_holds declared (assigns x e) = has_name declared x && expr_holds declared e
  statement_holds declared (chooses c body) = condition_holds declared c && statements_hold declared body
  statement_holds declared (chooses_one c body other) =
      condition_holds declared c && (statements_hold declared body && statements_hold declared other)
  statement_holds declared (repeats c body) = condition_holds declared c && statements_hold declared body
  statement_holds declared (puts text) = true
  statement_holds declared (exits e) = expr_holds declared e

  pub statements_hold : List (List ℕ) → Statements → Bool
  statements_hold declared nothing = true
  statements_hold declared (first s ss) = statement_holds declared s && statements_hold (declared_behind s declared) ss
