-- Lowered code sets words at the temporary of tests alone and longs at all others.
use Rattle.std.proofs.Common.{◌≡◌, ◌≢◌, ℕ, ◌<◌, ◌≤◌, Bool, true, false, ◌&&◌, List, [], ◌∷◌, ◌++◌, Option, Some, None, refl, ap, ◌∙◌, arith}
use Rattle.std.specs.Prelude.{codes, ◌||◌, ◌==◌}
use Rattle.std.proofs.lemmas.Bool.Decides.{nat_tests}
use Rattle.hx_base.specs.declared.Class.{Class}
use Rattle.hx_base.specs.declared.Class.TheVariants.{W, L}
use Rattle.flat_code.specs.declared.op.Op.{Op}
use Rattle.flat_code.specs.declared.op.Op.TheVariants.{Add, Sub, Mul}
use Rattle.flat_code.specs.declared.program.FlatProgram.{FlatProgram}
use Rattle.flat_code.specs.declared.value.Value.{Value}
use Rattle.flat_code.specs.Code.{Code, Codes, none, more, Set, If, Loop, Leave, Call, codes_of}
use Rattle.flat_code.specs.Evaluation.{function_named}
use Rattle.flat_code.specs.Temps.{same_class, code_sets, one_sets}
use Rattle.hare_blocks.specs.Trees.{Expr, Terms, Term, Factors, Factor, sum_of, no_term, plus, minus, product_of, no_factor, times, number, arg_count, variable, group, Relation, less, less_equal, greater, greater_equal, equal, differ, Condition, always, compares, Statement, Statements, declares, assigns, chooses, chooses_one, repeats, puts, exits, nothing, first}
use Rattle.hare_blocks.specs.Scopes.{number_of}
use Rattle.low_blocks.specs.declared.last.Last.{Last}
use Rattle.low_blocks.specs.declared.last.Last.TheVariants.{Operand, Operation, ArgCount}
use Rattle.low_blocks.specs.Expressions.{Scope, last_set, Steps, Piece, settled, operand_of, operated, comparison, expr_steps, terms_steps, term_steps, factors_steps, factor_steps, expr_piece, condition_piece}
use Rattle.low_blocks.specs.Statements.{Site, past, outside, variable_set, seq, turn, statement_code, statements_code}
use Rattle.low_blocks.proofs.Temporaries.Scopes.{Below, place_above}
use Rattle.low_blocks.proofs.Temporaries.Pieces.{AreFrom, joined_from, after_operand, expr_from, term_from, factor_from, piece_from}
use Rattle.low_blocks.proofs.Temporaries.Pieces.{condition_grows}
use Rattle.low_blocks.proofs.Temporaries.Sites.{IsSited, sited_past, sited_outside, statement_behind, statements_behind}

-- ---- tests

pub or_assoc : (a b c : Bool) → (a || (b || c)) ≡ ((a || b) || c)
or_assoc true b c = refl
or_assoc false b c = refl

pub and_assoc : (a b c : Bool) → (a && (b && c)) ≡ ((a && b) && c)
and_assoc true b c = refl
and_assoc false b c = refl

or_none : (a : Bool) → a ≡ false → (a || false) ≡ false
or_none a e = rw e refl

and_false : (a : Bool) → (a && false) ≡ false
and_false true = refl
and_false false = refl

differs : (a b : ℕ) → a ≢ b → (a == b) ≡ false
differs a b h = pick (a == b) refl
  where
    pick : (x : Bool) → (a == b) ≡ x → x ≡ false
    pick true e = absurd (h (grind (arith, nat_tests)))
    pick false e = refl

long_word : (t u : ℕ) → ((t == u) && same_class L W) ≡ false
long_word t u = and_false (t == u)

long_first : (t : ℕ) → 0 < t → ((t == 0) && true) ≡ false
long_first t l = rw (differs t 0 (λ e. omega arith)) refl

word_later : (u : ℕ) → 0 < u → ((0 == u) && true) ≡ false
word_later u l = rw (differs 0 u (λ e. omega arith)) refl

or_both : (a b : Bool) → a ≡ false → b ≡ false → (a || b) ≡ false
or_both a b h k = rw (h, k) refl

pub and_both : (a b : Bool) → a ≡ true → b ≡ true → (a && b) ≡ true
and_both a b h k = rw (h, k) refl

-- ---- code in parts

-- no function of a program has a name of the runtime that lowered code calls
pub record IsFree (q : FlatProgram) : Type 0 where
  pub nargs : function_named q.functions (codes "rt.nargs") ≡ None
  pub puts : function_named q.functions (codes "rt.puts") ≡ None
  pub exit : function_named q.functions (codes "rt.exit") ≡ None

module _ (q : FlatProgram) (free : IsFree q) where
  pub record IsPlain (cs : Codes) : Type 0 where
    pub words : (t : ℕ) → 0 < t → one_sets q t W cs ≡ false
    pub longs : one_sets q 0 L cs ≡ false

  pub sets_append : (t : ℕ) (class : Class) (a b : List Code) →
      one_sets q t class (codes_of (a ++ b)) ≡ (one_sets q t class (codes_of a) || one_sets q t class (codes_of b))
  sets_append t class [] b = refl
  sets_append t class (c ∷ a) b = ap (λ x. code_sets q t class c || x) (sets_append t class a b) ∙ or_assoc (code_sets q t class c) _ _

  pub plain_none : IsPlain none
  plain_none = record { words = λ t l. refl; longs = refl }

  pub plain_append : (a b : List Code) → IsPlain (codes_of a) → IsPlain (codes_of b) → IsPlain (codes_of (a ++ b))
  plain_append a b h k = record {
    words = λ t l. rw (sets_append t W a b, h.words t l, k.words t l) refl;
    longs = rw (sets_append 0 L a b, h.longs, k.longs) refl;
  }

  -- one statement of these sets
  plain_one : (c : Code) → ((t : ℕ) → 0 < t → code_sets q t W c ≡ false) → code_sets q 0 L c ≡ false → IsPlain (more c none)
  plain_one c h k = record { words = λ t l. or_none _ (h t l); longs = or_none _ k }

  -- a long is set above the temporary of tests
  pub plain_set : (t : ℕ) (op : Op) (a b : Value) → 0 < t → IsPlain (more (Set t L op a b) none)
  plain_set t op a b l = plain_one (Set t L op a b) (λ u k. long_word t u) (long_first t l)

  plain_test : (op : Op) (a b : Value) → IsPlain (more (Set 0 W op a b) none)
  plain_test op a b = plain_one (Set 0 W op a b) (λ u k. word_later u k) refl

  plain_comparison : (r : Relation) (a b : Value) → IsPlain (more (comparison r a b) none)
  plain_comparison less a b = plain_test _ a b
  plain_comparison less_equal a b = plain_test _ a b
  plain_comparison greater a b = plain_test _ b a
  plain_comparison greater_equal a b = plain_test _ b a
  plain_comparison equal a b = plain_test _ a b
  plain_comparison differ a b = plain_test _ a b

  -- ---- expressions and conditions

  plain_last : (t : ℕ) (last : Last) → 0 < t → IsPlain (more (last_set t last) none)
  plain_last t (Operand v) l = plain_set t _ v _ l
  plain_last t (Operation op a b) l = plain_set t op a b l
  plain_last t ArgCount l =
      plain_one (Call (Some t) (codes "rt.nargs") []) (λ u k. rw free.nargs (long_word t u)) (rw free.nargs (long_first t l))

  plain_settled : (last : Last) (cs : List Code) (next : ℕ) → 0 < next → IsPlain (codes_of cs) →
      IsPlain (codes_of (settled last cs next).code)
  plain_settled (Operand v) cs next l h = h
  plain_settled (Operation op a b) cs next l h = plain_append cs _ h (plain_last next (Operation op a b) l)
  plain_settled ArgCount cs next l h = plain_append cs _ h (plain_last next ArgCount l)

  plain_operand : (steps : Steps) → 0 < steps.next → IsPlain (codes_of steps.code) → IsPlain (codes_of (operand_of steps).code)
  plain_operand steps l h = plain_settled steps.last steps.code steps.next l h

  plain_joined : (op : Op) (left right : Steps) → 0 < left.next → 0 < right.next → IsPlain (codes_of left.code) →
      IsPlain (codes_of right.code) → IsPlain (codes_of (operated op (operand_of left) (operand_of right)).code)
  plain_joined op left right l m h k = plain_append (operand_of left).code _ (plain_operand left l h) (plain_operand right m k)

  module _ (scope : Scope) (bound : ℕ) (pos : 0 < bound) (below : Below bound scope) where
    mutual
      expr_plain : (t : ℕ) (e : Expr) → bound ≤ t → IsPlain (codes_of (expr_steps scope t e).code)
      expr_plain t (sum_of a ts) le =
          terms_plain t (term_steps scope t a) ts le (term_from scope bound pos below t a le) (term_plain t a le)

      terms_plain : (t : ℕ) (left : Steps) (ts : Terms) → bound ≤ t → AreFrom t left → IsPlain (codes_of left.code) →
          IsPlain (codes_of (terms_steps scope left ts).code)
      terms_plain t left no_term le i h = h
      terms_plain t left (plus a ts) le i h =
          let x = operand_of left in
          let l = after_operand scope bound pos below t left le i in
          let j = term_from scope bound pos below x.next a l in
          terms_plain t _ ts le (joined_from t Add left _ (omega arith) i j)
          (plain_joined Add left _ (omega (arith, i.grows)) (omega (arith, j.grows)) h (term_plain x.next a l))
      terms_plain t left (minus a ts) le i h =
          let x = operand_of left in
          let l = after_operand scope bound pos below t left le i in
          let j = term_from scope bound pos below x.next a l in
          terms_plain t _ ts le (joined_from t Sub left _ (omega arith) i j)
          (plain_joined Sub left _ (omega (arith, i.grows)) (omega (arith, j.grows)) h (term_plain x.next a l))

      term_plain : (t : ℕ) (a : Term) → bound ≤ t → IsPlain (codes_of (term_steps scope t a).code)
      term_plain t (product_of f fs) le =
          factors_plain t (factor_steps scope t f) fs le (factor_from scope bound pos below t f le) (factor_plain t f le)

      factors_plain : (t : ℕ) (left : Steps) (fs : Factors) → bound ≤ t → AreFrom t left → IsPlain (codes_of left.code) →
          IsPlain (codes_of (factors_steps scope left fs).code)
      factors_plain t left no_factor le i h = h
      factors_plain t left (times f fs) le i h =
          let x = operand_of left in
          let l = after_operand scope bound pos below t left le i in
          let j = factor_from scope bound pos below x.next f l in
          factors_plain t _ fs le (joined_from t Mul left _ (omega arith) i j)
          (plain_joined Mul left _ (omega (arith, i.grows)) (omega (arith, j.grows)) h (factor_plain x.next f l))

      factor_plain : (t : ℕ) (f : Factor) → bound ≤ t → IsPlain (codes_of (factor_steps scope t f).code)
      factor_plain t (number n) le = plain_none
      factor_plain t arg_count le = plain_none
      factor_plain t (variable x) le = plain_none
      factor_plain t (group e) le = expr_plain t e le

    piece_plain : (t : ℕ) (e : Expr) → bound ≤ t → IsPlain (codes_of (expr_piece scope t e).code)
    piece_plain t e le =
        let f = expr_from scope bound pos below t e le in
        plain_operand (expr_steps scope t e) (omega (arith, f.grows)) (expr_plain t e le)

    condition_plain : (t : ℕ) (c : Condition) → bound ≤ t → IsPlain (codes_of (condition_piece scope t c).code)
    condition_plain t always le = plain_none
    condition_plain t (compares a r b) le =
        let x = expr_piece scope t a in
        let y = expr_piece scope x.next b in
        let f = piece_from scope bound pos below t a le in
        plain_append x.code _ (piece_plain t a le)
        (plain_append y.code _ (piece_plain x.next b (omega (arith, f.grows))) (plain_comparison r x.value y.value))

  -- ---- statements

  plain_if : (v : Value) (does other : List Code) → IsPlain (codes_of does) → IsPlain (codes_of other) →
      IsPlain (more (If v (seq does) (seq other)) none)
  plain_if v does other h k =
      plain_one _ (λ t l. or_both _ _ (h.words t l) (k.words t l)) (or_both _ _ h.longs k.longs)

  plain_leave : (v : Value) (body : List Code) → IsPlain (codes_of body) → IsPlain (more (If v (seq body) (Leave 1)) none)
  plain_leave v body h = plain_one _ (λ t l. or_none _ (h.words t l)) (or_none _ h.longs)

  plain_loop : (cs : List Code) → IsPlain (codes_of cs) → IsPlain (more (Loop (seq cs)) none)
  plain_loop cs h = plain_one _ h.words h.longs

  plain_turn : (c : Condition) (test : Piece) (body : List Code) → IsPlain (codes_of test.code) → IsPlain (codes_of body) →
      IsPlain (more (Loop (turn c test body)) none)
  plain_turn always test body h k = plain_loop body k
  plain_turn (compares a r b) test body h k = plain_loop _ (plain_append test.code _ h (plain_leave test.value body k))

  plain_variable : (x : List ℕ) (site : Site) (last : Last) → IsSited site → (o : Option ℕ) → number_of x site.scope ≡ o →
      IsPlain (codes_of (variable_set o last))
  plain_variable x site last h None e = plain_none
  plain_variable x site last h (Some t) e = plain_last t last (place_above site.next t x site.scope h.below e)

  mutual
    statement_plain : (site : Site) (s : Statement) → IsSited site → IsPlain (codes_of (statement_code site s).code)
    statement_plain site (declares x e) h =
        let v = expr_steps site.scope site.next e in
        let f = expr_from site.scope site.next h.some h.below site.next e (omega arith) in
        plain_append v.code _ (expr_plain site.scope site.next h.some h.below site.next e (omega arith))
        (plain_last v.next v.last (omega (arith, f.grows, h.some)))
    statement_plain site (assigns x e) h =
        let v = expr_steps site.scope site.next e in
        plain_append v.code _ (expr_plain site.scope site.next h.some h.below site.next e (omega arith))
        (plain_variable x site v.last h (number_of x site.scope) refl)
    statement_plain site (chooses c body) h =
        let test = condition_piece site.scope site.next c in
        let b = statements_plain (past site test.next) body
        (sited_past site test.next h (condition_grows site.scope site.next h.some h.below site.next c (omega arith))) in
        plain_append test.code _ (condition_plain site.scope site.next h.some h.below site.next c (omega arith))
        (plain_if test.value _ [] b plain_none)
    statement_plain site (chooses_one c body other) h =
        let test = condition_piece site.scope site.next c in
        let g = condition_grows site.scope site.next h.some h.below site.next c (omega arith) in
        let inner = sited_past site test.next h g in
        let within = (statements_code (past site test.next) body).behind in
        let le : site.next ≤ within.next = omega (arith, g, (statements_behind (past site test.next) body inner).grows) in
        let b = statements_plain (past site test.next) body inner in
        let o = statements_plain (outside site within) other (sited_outside site within h le) in
        plain_append test.code _ (condition_plain site.scope site.next h.some h.below site.next c (omega arith))
        (plain_if test.value _ _ b o)
    statement_plain site (repeats c body) h =
        let test = condition_piece site.scope site.next c in
        let b = statements_plain (past site test.next) body
        (sited_past site test.next h (condition_grows site.scope site.next h.some h.below site.next c (omega arith))) in
        plain_turn c test _ (condition_plain site.scope site.next h.some h.below site.next c (omega arith)) b
    statement_plain site (puts text) h = plain_one _ (λ t l. refl) refl
    statement_plain site (exits e) h =
        let v = expr_piece site.scope site.next e in
        plain_append v.code _ (piece_plain site.scope site.next h.some h.below site.next e (omega arith))
        (plain_one (Call None (codes "rt.exit") (v.value ∷ [])) (λ t l. refl) refl)

    pub statements_plain : (site : Site) (ss : Statements) → IsSited site → IsPlain (codes_of (statements_code site ss).code)
    statements_plain site nothing h = plain_none
    statements_plain site (first s ss) h = plain_append (statement_code site s).code _ (statement_plain site s h)
        (statements_plain (statement_code site s).behind ss (statement_behind site s h).sited)
