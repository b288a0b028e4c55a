-- The tests of names tell whether the names hold.
use Rattle.std.proofs.Common.{◌≡◌, ℕ, zero, suc, ◌<◌, List, [], ◌∷◌, ◌++◌, length, get_or, Bool, true, false, ◌&&◌, ◌||◌, not, bytes_eq, codes, Contains, refl, sym, subst, arith}
use Rattle.std.proofs.lemmas.Slice.Eq.{bytes_eq-Decides}
use Rattle.hare_blocks.specs.Trees.{Expr, Terms, Term, Factors, Factor, sum_of, no_term, plus, minus, product_of, no_factor, times, number, arg_count, variable, group, Condition, always, compares, Statement, Statements, declares, assigns, chooses, chooses_one, repeats, puts, exits, nothing, first}
use Rattle.hare_blocks.specs.Class.{expr_names, terms_names, term_names, factors_names, factor_names, condition_names, declared_behind, AreDeclared, NamesHold, AllNamesHold}
use Rattle.hare_blocks.specs.Names.{has_name, expr_holds, terms_hold, term_holds, factors_hold, factor_holds, condition_holds, statement_holds, statements_hold}

-- a test tells a fact
pub record Tells (b : Bool) (P : Type 0) : Type 0 where
  pub told : b ≡ true → P
  pub tells : P → b ≡ true

always_told : Tells true (Unit {0})
always_told = record { told = λ h. tt; tells = λ h. refl }

both_told : {P Q : Type 0} (a b : Bool) → Tells a P → Tells b Q → Tells (a && b) (P × Q)
both_told true b p q = record { told = λ h. (p.told refl, q.told h); tells = λ h. q.tells h.1 }
both_told false b p q = record { told = λ h. absurd cc; tells = λ h. absurd (let k = p.tells h.0 in cc) }

three_told : {P Q R : Type 0} (a b c : Bool) → Tells a P → Tells b Q → Tells c R → Tells (a && (b && c)) (P × Q × R)
three_told true true c p q r = record { told = λ h. (p.told refl, q.told refl, r.told h); tells = λ h. r.tells h.2 }
three_told true false c p q r = record { told = λ h. absurd cc; tells = λ h. absurd (let k = q.tells h.1 in cc) }
three_told false b c p q r = record { told = λ h. absurd cc; tells = λ h. absurd (let k = p.tells h.0 in cc) }

-- ---- names

tell_name : (declared : List (List ℕ)) (x : List ℕ) → Tells (has_name declared x) (Contains declared x)
tell_name [] x = record { told = λ h. absurd cc; tells = λ h. absurd (omega (arith, h.1)) }
tell_name (y ∷ ys) x = by (bytes_eq y x) refl (tell_name ys x)
  where
    later : (b : Bool) → Tells b (Contains ys x) → (bytes_eq y x ≡ false) → (k : ℕ) → k < length (y ∷ ys) → get_or (y ∷ ys) k x ≡ x →
        b ≡ true
    later b t apart zero h e = absurd (let k = (bytes_eq-Decides y x).1 e in cc)
    later b t apart (suc k) h e = t.tells (k, omega arith, e)

    by : (b : Bool) → bytes_eq y x ≡ b → Tells (has_name ys x) (Contains ys x) → Tells (b || has_name ys x) (Contains (y ∷ ys) x)
    by true e t = record { told = λ h. (zero, omega arith, (bytes_eq-Decides y x).0 e); tells = λ h. refl }
    by false e t = record {
      told = λ h. let k = t.told h in (suc k.0, omega (arith, k.1), k.2);
      tells = λ h. later (has_name ys x) t e h.0
          h.1 h.2;
    }

module _ (declared : List (List ℕ)) where
  split_declared : (a b : List (List ℕ)) → AreDeclared (a ++ b) declared → AreDeclared a declared × AreDeclared b declared
  split_declared [] b h = (tt, h)
  split_declared (x ∷ a) b h = let k = split_declared a b h.1 in ((h.0, k.0), k.1)

  join_declared : (a b : List (List ℕ)) → AreDeclared a declared → AreDeclared b declared → AreDeclared (a ++ b) declared
  join_declared [] b h k = k
  join_declared (x ∷ a) b h k = (h.0, join_declared a b h.1 k)

  tell_both : (a b : List (List ℕ)) (x y : Bool) → Tells x (AreDeclared a declared) → Tells y (AreDeclared b declared) →
      Tells (x && y) (AreDeclared (a ++ b) declared)
  tell_both a b x y p q =
      let t = both_told x y p q in
      record {
        told = λ h. let k = t.told h in join_declared a b k.0 k.1;
        tells = λ h. t.tells (split_declared a b h);
      }

  mutual
    pub tell_expr : (e : Expr) → Tells (expr_holds declared e) (AreDeclared (expr_names e) declared)
    tell_expr (sum_of t ts) = tell_both (term_names t) (terms_names ts) (term_holds declared t) (terms_hold declared ts) (tell_term t)
        (tell_terms ts)

    tell_terms : (ts : Terms) → Tells (terms_hold declared ts) (AreDeclared (terms_names ts) declared)
    tell_terms no_term = always_told
    tell_terms (plus t ts) = tell_both (term_names t) (terms_names ts) (term_holds declared t) (terms_hold declared ts) (tell_term t)
        (tell_terms ts)
    tell_terms (minus t ts) = tell_both (term_names t) (terms_names ts) (term_holds declared t) (terms_hold declared ts) (tell_term t)
        (tell_terms ts)

    tell_term : (t : Term) → Tells (term_holds declared t) (AreDeclared (term_names t) declared)
    tell_term (product_of f fs) = tell_both (factor_names f) (factors_names fs) (factor_holds declared f) (factors_hold declared fs)
        (tell_factor f) (tell_factors fs)

    tell_factors : (fs : Factors) → Tells (factors_hold declared fs) (AreDeclared (factors_names fs) declared)
    tell_factors no_factor = always_told
    tell_factors (times f fs) = tell_both (factor_names f) (factors_names fs) (factor_holds declared f) (factors_hold declared fs)
        (tell_factor f) (tell_factors fs)

    tell_factor : (f : Factor) → Tells (factor_holds declared f) (AreDeclared (factor_names f) declared)
    tell_factor (number n) = always_told
    tell_factor arg_count = always_told
    tell_factor (variable x) = let t = tell_name declared x in record { told = λ h. (t.told h, tt); tells = λ h. t.tells h.0 }
    tell_factor (group e) = tell_expr e

  pub tell_condition : (c : Condition) → Tells (condition_holds declared c) (AreDeclared (condition_names c) declared)
  tell_condition always = always_told
  tell_condition (compares a r b) = tell_both (expr_names a) (expr_names b) (expr_holds declared a) (expr_holds declared b) (tell_expr a)
      (tell_expr b)

-- the name is another
tell_other : (x : List ℕ) → Tells (not (bytes_eq x (codes "rt"))) (¬ (x ≡ codes "rt"))
tell_other x = by (bytes_eq x (codes "rt")) refl
  where
    by : (b : Bool) → bytes_eq x (codes "rt") ≡ b → Tells (not b) (¬ (x ≡ codes "rt"))
    by true e = record { told = λ h. absurd cc; tells = λ h. absurd (h ((bytes_eq-Decides x (codes "rt")).0 e)) }
    by false e = record { told = λ h k. let t = (bytes_eq-Decides x (codes "rt")).1 k in cc; tells = λ h. refl }

mutual
  tell_statement : (s : Statement) (declared : List (List ℕ)) → Tells (statement_holds declared s) (NamesHold declared s)
  tell_statement (declares x e) declared = both_told (not (bytes_eq x (codes "rt"))) (expr_holds declared e) (tell_other x)
      (tell_expr declared e)
  tell_statement (assigns x e) declared = both_told (has_name declared x) (expr_holds declared e) (tell_name declared x)
      (tell_expr declared e)
  tell_statement (chooses c body) declared =
      both_told (condition_holds declared c) (statements_hold declared body) (tell_condition declared c) (tell_statements body declared)
  tell_statement (chooses_one c body other) declared =
      three_told (condition_holds declared c) (statements_hold declared body) (statements_hold declared other) (tell_condition declared c)
      (tell_statements body declared) (tell_statements other declared)
  tell_statement (repeats c body) declared =
      both_told (condition_holds declared c) (statements_hold declared body) (tell_condition declared c) (tell_statements body declared)
  tell_statement (puts text) declared = always_told
  tell_statement (exits e) declared = tell_expr declared e

  pub tell_statements : (ss : Statements) (declared : List (List ℕ)) → Tells (statements_hold declared ss) (AllNamesHold declared ss)
  tell_statements nothing declared = always_told
  tell_statements (first s ss) declared = both_told (statement_holds declared s) (statements_hold (declared_behind s declared) ss)
      (tell_statement s declared) (tell_statements ss (declared_behind s declared))

-- where no name is declared, none is used
no_names : (xs : List (List ℕ)) → AreDeclared xs [] → xs ≡ []
no_names [] h = refl
no_names (x ∷ xs) h = absurd (omega (arith, h.0.1))

pub tell_no_names : (e : Expr) → Tells (expr_holds [] e) (expr_names e ≡ [])
tell_no_names e =
    let t = tell_expr [] e in
    record { told = λ h. no_names (expr_names e) (t.told h); tells = λ h. t.tells (subst (λ xs. AreDeclared xs []) (sym h) tt) }
