-- Trees as numbers, by which the checker tells two trees apart.
use Rattle.std.specs.Prelude.{◌≡◌, ℕ, List, refl}
use Rattle.std.specs.Coded.{Coded, coded_ℕ, coded_list}
use base.Stored.{Gv, gnil, gnum, gcons}
use Rattle.hare_blocks.specs.Trees.{Expr, Terms, Term, Factors, Factor, sum_of, no_term, plus, minus, product_of, no_factor, times, number, arg_count, variable, group, Relation, less, less_equal, greater, greater_equal, equal, differ, Condition, always, compares, Statement, Statements, declares, assigns, chooses, chooses_one, repeats, puts, exits, nothing, first}

abbrev pub coded_text : Coded (List ℕ)
coded_text = coded_list coded_ℕ

-- ---- expressions

abbrev mutual
  pub expr_code : Expr → Gv
  expr_code (sum_of t ts) = gcons (term_code t) (terms_code ts)

  pub terms_code : Terms → Gv
  terms_code no_term = gnil
  terms_code (plus t ts) = gcons (gnum 0) (gcons (term_code t) (terms_code ts))
  terms_code (minus t ts) = gcons (gnum 1) (gcons (term_code t) (terms_code ts))

  pub term_code : Term → Gv
  term_code (product_of f fs) = gcons (factor_code f) (factors_code fs)

  pub factors_code : Factors → Gv
  factors_code no_factor = gnil
  factors_code (times f fs) = gcons (factor_code f) (factors_code fs)

  pub factor_code : Factor → Gv
  factor_code (number n) = gcons (gnum 0) (gnum n)
  factor_code arg_count = gnil
  factor_code (variable x) = gcons (gnum 1) (coded_text.code x)
  factor_code (group e) = gcons (gnum 2) (expr_code e)

mutual
  pub expr_inj : (x y : Expr) → expr_code x ≡ expr_code y → x ≡ y
  expr_inj (sum_of t ts) (sum_of t' ts') e =
      let a : term_code t ≡ term_code t' = cc in
      let b : terms_code ts ≡ terms_code ts' = cc in
      let a' = term_inj t t' a in
      let b' = terms_inj ts ts' b in
      cc

  pub terms_inj : (x y : Terms) → terms_code x ≡ terms_code y → x ≡ y
  terms_inj no_term no_term e = refl
  terms_inj (plus t ts) (plus t' ts') e =
      let a : term_code t ≡ term_code t' = cc in
      let b : terms_code ts ≡ terms_code ts' = cc in
      let a' = term_inj t t' a in
      let b' = terms_inj ts ts' b in
      cc
  terms_inj (minus t ts) (minus t' ts') e =
      let a : term_code t ≡ term_code t' = cc in
      let b : terms_code ts ≡ terms_code ts' = cc in
      let a' = term_inj t t' a in
      let b' = terms_inj ts ts' b in
      cc
  terms_inj _ _ e = cc

  pub term_inj : (x y : Term) → term_code x ≡ term_code y → x ≡ y
  term_inj (product_of f fs) (product_of f' fs') e =
      let a : factor_code f ≡ factor_code f' = cc in
      let b : factors_code fs ≡ factors_code fs' = cc in
      let a' = factor_inj f f' a in
      let b' = factors_inj fs fs' b in
      cc

  pub factors_inj : (x y : Factors) → factors_code x ≡ factors_code y → x ≡ y
  factors_inj no_factor no_factor e = refl
  factors_inj (times f fs) (times f' fs') e =
      let a : factor_code f ≡ factor_code f' = cc in
      let b : factors_code fs ≡ factors_code fs' = cc in
      let a' = factor_inj f f' a in
      let b' = factors_inj fs fs' b in
      cc
  factors_inj _ _ e = cc

  pub factor_inj : (x y : Factor) → factor_code x ≡ factor_code y → x ≡ y
  factor_inj (number n) (number n') e = cc
  factor_inj arg_count arg_count e = refl
  factor_inj (variable x) (variable x') e =
      let a : coded_text.code x ≡ coded_text.code x' = cc in
      let a' = coded_text.inj x x' a in
      cc
  factor_inj (group e) (group e') h =
      let a : expr_code e ≡ expr_code e' = cc in
      let a' = expr_inj e e' a in
      cc
  factor_inj _ _ e = cc

abbrev pub coded_expr : Coded Expr
coded_expr = record { code = expr_code; inj = expr_inj }

abbrev pub coded_term : Coded Term
coded_term = record { code = term_code; inj = term_inj }

-- ---- conditions

abbrev pub relation_code : Relation → Gv
relation_code less = gnum 0
relation_code less_equal = gnum 1
relation_code greater = gnum 2
relation_code greater_equal = gnum 3
relation_code equal = gnum 4
relation_code differ = gnum 5

pub relation_inj : (x y : Relation) → relation_code x ≡ relation_code y → x ≡ y
relation_inj less less e = refl
relation_inj less_equal less_equal e = refl
relation_inj greater greater e = refl
relation_inj greater_equal greater_equal e = refl
relation_inj equal equal e = refl
relation_inj differ differ e = refl
relation_inj _ _ e = cc

abbrev pub condition_code : Condition → Gv
condition_code always = gnil
condition_code (compares a r b) = gcons (expr_code a) (gcons (relation_code r) (expr_code b))

pub condition_inj : (x y : Condition) → condition_code x ≡ condition_code y → x ≡ y
condition_inj always always e = refl
condition_inj (compares a r b) (compares a' r' b') e =
    let h1 : expr_code a ≡ expr_code a' = cc in
    let h2 : relation_code r ≡ relation_code r' = cc in
    let h3 : expr_code b ≡ expr_code b' = cc in
    let k1 = expr_inj a a' h1 in
    let k2 = relation_inj r r' h2 in
    let k3 = expr_inj b b' h3 in
    cc
condition_inj _ _ e = cc

-- ---- statements

abbrev mutual
  pub statement_code : Statement → Gv
  statement_code (declares x e) = gcons (gnum 0) (gcons (coded_text.code x) (expr_code e))
  statement_code (assigns x e) = gcons (gnum 1) (gcons (coded_text.code x) (expr_code e))
  statement_code (chooses c body) = gcons (gnum 2) (gcons (condition_code c) (statements_code body))
  statement_code (chooses_one c body other) =
      gcons (gnum 3) (gcons (condition_code c) (gcons (statements_code body) (statements_code other)))
  statement_code (repeats c body) = gcons (gnum 4) (gcons (condition_code c) (statements_code body))
  statement_code (puts text) = gcons (gnum 5) (coded_text.code text)
  statement_code (exits e) = gcons (gnum 6) (expr_code e)

  pub statements_code : Statements → Gv
  statements_code nothing = gnil
  statements_code (first s ss) = gcons (statement_code s) (statements_code ss)

mutual
  pub statement_inj : (x y : Statement) → statement_code x ≡ statement_code y → x ≡ y
  statement_inj (declares x e) (declares x' e') h =
      let h1 : coded_text.code x ≡ coded_text.code x' = cc in
      let h2 : expr_code e ≡ expr_code e' = cc in
      let k1 = coded_text.inj x x' h1 in
      let k2 = expr_inj e e' h2 in
      cc
  statement_inj (assigns x e) (assigns x' e') h =
      let h1 : coded_text.code x ≡ coded_text.code x' = cc in
      let h2 : expr_code e ≡ expr_code e' = cc in
      let k1 = coded_text.inj x x' h1 in
      let k2 = expr_inj e e' h2 in
      cc
  statement_inj (chooses c body) (chooses c' body') h =
      let h1 : condition_code c ≡ condition_code c' = cc in
      let h2 : statements_code body ≡ statements_code body' = cc in
      let k1 = condition_inj c c' h1 in
      let k2 = statements_inj body body' h2 in
      cc
  statement_inj (chooses_one c body other) (chooses_one c' body' other') h =
      let h1 : condition_code c ≡ condition_code c' = cc in
      let h2 : statements_code body ≡ statements_code body' = cc in
      let h3 : statements_code other ≡ statements_code other' = cc in
      let k1 = condition_inj c c' h1 in
      let k2 = statements_inj body body' h2 in
      let k3 = statements_inj other other' h3 in
      cc
  statement_inj (repeats c body) (repeats c' body') h =
      let h1 : condition_code c ≡ condition_code c' = cc in
      let h2 : statements_code body ≡ statements_code body' = cc in
      let k1 = condition_inj c c' h1 in
      let k2 = statements_inj body body' h2 in
      cc
  statement_inj (puts text) (puts text') h =
      let h1 : coded_text.code text ≡ coded_text.code text' = cc in
      let k1 = coded_text.inj text text' h1 in
      cc
  statement_inj (exits e) (exits e') h =
      let h1 : expr_code e ≡ expr_code e' = cc in
      let k1 = expr_inj e e' h1 in
      cc
  statement_inj _ _ h = cc

  pub statements_inj : (x y : Statements) → statements_code x ≡ statements_code y → x ≡ y
  statements_inj nothing nothing h = refl
  statements_inj (first s ss) (first s' ss') h =
      let h1 : statement_code s ≡ statement_code s' = cc in
      let h2 : statements_code ss ≡ statements_code ss' = cc in
      let k1 = statement_inj s s' h1 in
      let k2 = statements_inj ss ss' h2 in
      cc
  statements_inj _ _ h = cc

abbrev pub coded_statement : Coded Statement
coded_statement = record { code = statement_code; inj = statement_inj }
