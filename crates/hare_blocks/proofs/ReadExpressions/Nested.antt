-- Parentheses that are open at once in the tokens of expressions.
use Rattle.std.proofs.Common.{◌≡◌, ℕ, ◌<◌, ◌≤◌, ◌+◌, ◌-◌, max, List, [], ◌∷◌, ◌++◌, length, get_or, drop, append_assoc, append-nil, ◌∙◌, arith}
use Rattle.std.proofs.lemmas.List.{at_drop_more}
use Rattle.hare_blocks.specs.declared.token.Token.{Token}
use Rattle.hare_blocks.specs.declared.token.Token.TheVariants as token
use Rattle.hare_blocks.specs.Trees.{Expr, Terms, Term, Factors, Factor, sum_of, no_term, plus, minus, product_of, no_factor, times, number, arg_count, variable, group, expr_tokens, terms_tokens, term_tokens, factors_tokens, factor_tokens}
use Rattle.hare_blocks.specs.Class.{most_open, open_behind, AreLimited}
use Rattle.hare_blocks.specs.Nesting.{expr_depth, terms_depth, term_depth, factors_depth, factor_depth}

-- the parentheses that are open in front of tokens are no more than the most that are open
pub le-most_open : (depth : ℕ) (tokens : List Token) → depth ≤ most_open depth tokens
le-most_open depth [] = omega arith
le-most_open depth (t ∷ ts) = omega arith

-- at least so many are open as behind the first token
pub most_open_behind : (n : ℕ) (ts : List Token) (i : ℕ) (d : Token) → i < length ts →
    open_behind (get_or ts i d) n ≤ most_open n (drop i ts)
most_open_behind n ts i d within =
    let step = at_drop_more (most_open n) ts i d within in
    omega (arith, step, le-most_open (open_behind (get_or ts i d) n) (drop (i + 1) ts))

-- the most that are open in a part and behind it
mutual
  pub open_expr : (e : Expr) (d : ℕ) (r : List Token) → most_open d (expr_tokens e ++ r) ≡ max (d + expr_depth e) (most_open d r)
  open_expr (sum_of t ts) d r = rw (append_assoc (term_tokens t) (terms_tokens ts) r)
      (omega (arith, open_term t d (terms_tokens ts ++ r), open_terms ts d r))

  open_terms : (ts : Terms) (d : ℕ) (r : List Token) → most_open d (terms_tokens ts ++ r) ≡ max (d + terms_depth ts) (most_open d r)
  open_terms no_term d r = omega (arith, le-most_open d r)
  open_terms (plus t ts) d r = rw (append_assoc (term_tokens t) (terms_tokens ts) r)
      (omega (arith, open_term t d (terms_tokens ts ++ r), open_terms ts d r))
  open_terms (minus t ts) d r = rw (append_assoc (term_tokens t) (terms_tokens ts) r)
      (omega (arith, open_term t d (terms_tokens ts ++ r), open_terms ts d r))

  open_term : (t : Term) (d : ℕ) (r : List Token) → most_open d (term_tokens t ++ r) ≡ max (d + term_depth t) (most_open d r)
  open_term (product_of f fs) d r = rw (append_assoc (factor_tokens f) (factors_tokens fs) r)
      (omega (arith, open_factor f d (factors_tokens fs ++ r), open_factors fs d r))

  open_factors : (fs : Factors) (d : ℕ) (r : List Token) → most_open d (factors_tokens fs ++ r) ≡ max (d + factors_depth fs) (most_open d r)
  open_factors no_factor d r = omega (arith, le-most_open d r)
  open_factors (times f fs) d r = rw (append_assoc (factor_tokens f) (factors_tokens fs) r)
      (omega (arith, open_factor f d (factors_tokens fs ++ r), open_factors fs d r))

  open_factor : (f : Factor) (d : ℕ) (r : List Token) → most_open d (factor_tokens f ++ r) ≡ max (d + factor_depth f) (most_open d r)
  open_factor (number n) d r = omega (arith, le-most_open d r)
  open_factor arg_count d r = let e : d + 1 - 1 ≡ d = omega arith in rw e (omega (arith, le-most_open d r))
  open_factor (variable x) d r = omega (arith, le-most_open d r)
  open_factor (group e) d r =
      let k : d + 1 - 1 ≡ d = omega arith in
      let inner : most_open (d + 1) (expr_tokens e ++ token.CloseParen ∷ r) ≡ max (d + 1 + expr_depth e) (max (d + 1) (most_open d r)) =
      open_expr e (d + 1) (token.CloseParen ∷ r) ∙ rw k (omega arith) in
      rw (append_assoc (expr_tokens e) (token.CloseParen ∷ []) r, inner) (omega (arith, le-most_open d r))

-- the limit is one on the depth
pub depth_of_limited : (e : Expr) → AreLimited (expr_tokens e) → 0 + expr_depth e ≤ 64
depth_of_limited e l =
    let all : most_open 0 (expr_tokens e) ≡ max (0 + expr_depth e) (most_open 0 []) = rw append-nil at (open_expr e 0 []) in
    omega (arith, all, l.nested)
