-- A file's program needs no more temporaries than the file has bytes, so that its run costs little of the stack.
use Rattle.std.proofs.Common.{◌≡◌, ℕ, ◌+◌, ◌≤◌, List, [], ◌∷◌, ◌++◌, true, length, ap, arith}
use Rattle.std.proofs.lemmas.List.{length-append}
use Rattle.flat_code.specs.declared.op.Op.TheVariants.{Add, Sub, Mul}
use Rattle.flat_code.specs.Code.{Code, Seq, codes_of}
use Rattle.flat_code.specs.Costs.{call_cost}
use Rattle.hare_blocks.specs.declared.token.Token.{Token}
use Rattle.hare_blocks.specs.declared.token.Token.TheVariants as token
use Rattle.hare_blocks.specs.Class.{IsSource, IsOfClass}
use Rattle.hare_blocks.specs.Tokens.{IsSpelling, Spells, is_name}
use Rattle.hare_blocks.specs.Trees.{Expr, Terms, Term, Factors, Factor, sum_of, no_term, plus, minus, product_of, no_factor, times, number, arg_count, variable, group, Condition, always, compares, Statement, Statements, declares, assigns, chooses, chooses_one, repeats, puts, exits, nothing, first, Program, exit_of, block_of, relation_token, expr_tokens, terms_tokens, term_tokens, factors_tokens, factor_tokens, condition_tokens, head_tokens, in_braces, exit_tokens, statement_tokens, statements_tokens, file_tokens}
use Rattle.low_blocks.specs.declared.last.Last.{Last}
use Rattle.low_blocks.specs.declared.last.Last.TheVariants.{Operand, Operation, ArgCount}
use Rattle.low_blocks.specs.Expressions.{Scope, Steps, settled, operand_of, operated, expr_steps, terms_steps, term_steps, factors_steps, factor_steps, expr_piece, condition_piece}
use Rattle.low_blocks.specs.Statements.{Site, past, outside, statement_code, statements_code}
use Rattle.low_blocks.specs.Programs.{body_of, start, body_code, lowered_main, lowered}
use Rattle.low_blocks.specs.Shape.{little, CostsLittle}
use Rattle.low_blocks.proofs.ShapeAndCosts.Costs.{none_addressed, run_cost}
use Rattle.low_blocks.proofs.ShapeAndCosts.Fits.{statements_fit}

-- ---- temporaries of expressions

next_settled : (last : Last) (cs : List Code) (next : ℕ) → next ≤ (settled last cs next).next
next_settled (Operand v) cs next = omega arith
next_settled (Operation o a b) cs next = omega arith
next_settled ArgCount cs next = omega arith

next_operand : (s : Steps) → s.next ≤ (operand_of s).next
next_operand s = next_settled s.last s.code s.next

mutual
  expr_next : (scope : Scope) (t : ℕ) (e : Expr) → (expr_piece scope t e).next ≤ t + length (expr_tokens e)
  expr_next scope t (sum_of a ts) = omega (
    arith,
    terms_next scope (term_steps scope t a) ts,
    term_next scope t a,
    length-append
        (term_tokens a) (terms_tokens ts),
  )

  terms_next : (scope : Scope) (left : Steps) (ts : Terms) →
      (operand_of (terms_steps scope left ts)).next ≤ (operand_of left).next + length (terms_tokens ts)
  terms_next scope left no_term = omega arith
  terms_next scope left (plus a ts) =
      let x = operand_of left in
      omega (
        arith,
        terms_next scope (operated Add x (operand_of (term_steps scope x.next a))) ts,
        term_next scope x.next a,
        length-append (term_tokens a) (terms_tokens ts),
      )
  terms_next scope left (minus a ts) =
      let x = operand_of left in
      omega (
        arith,
        terms_next scope (operated Sub x (operand_of (term_steps scope x.next a))) ts,
        term_next scope x.next a,
        length-append (term_tokens a) (terms_tokens ts),
      )

  term_next : (scope : Scope) (t : ℕ) (a : Term) → (operand_of (term_steps scope t a)).next ≤ t + length (term_tokens a)
  term_next scope t (product_of f fs) = omega
      (arith, factors_next scope (factor_steps scope t f) fs, factor_next scope t f, length-append (factor_tokens f) (factors_tokens fs))

  factors_next : (scope : Scope) (left : Steps) (fs : Factors) →
      (operand_of (factors_steps scope left fs)).next ≤ (operand_of left).next + length (factors_tokens fs)
  factors_next scope left no_factor = omega arith
  factors_next scope left (times f fs) =
      let x = operand_of left in
      omega (
        arith,
        factors_next scope (operated Mul x (operand_of (factor_steps scope x.next f))) fs,
        factor_next scope x.next f,
        length-append (factor_tokens f) (factors_tokens fs),
      )

  factor_next : (scope : Scope) (t : ℕ) (f : Factor) → (operand_of (factor_steps scope t f)).next ≤ t + length (factor_tokens f)
  factor_next scope t (number n) = omega arith
  factor_next scope t arg_count = omega arith
  factor_next scope t (variable x) = omega arith
  factor_next scope t (group e) = omega (arith, expr_next scope t e, length-append (expr_tokens e) (token.CloseParen ∷ []))

condition_next : (scope : Scope) (t : ℕ) (c : Condition) → (condition_piece scope t c).next ≤ t + length (condition_tokens c)
condition_next scope t always = omega arith
condition_next scope t (compares a r b) =
    omega (
      arith,
      expr_next scope t a,
      expr_next scope (expr_piece scope t a).next b,
      length-append (expr_tokens a)
          (relation_token r ∷ expr_tokens b),
    )

-- ---- temporaries of statements

exit_length : (e : Expr) → length (expr_tokens e) ≤ length (exit_tokens e)
exit_length e = omega (arith, length-append (expr_tokens e) (token.CloseParen ∷ token.Colon ∷ token.U8 ∷ token.CloseParen ∷ []))

head_length : (keyword : Token) (c : Condition) → length (condition_tokens c) ≤ length (head_tokens keyword c)
head_length keyword c = omega (arith, length-append (condition_tokens c) (token.CloseParen ∷ []))

braces_length : (ts : List Token) → length ts ≤ length (in_braces ts)
braces_length ts = omega (arith, length-append ts (token.CloseBrace ∷ []))

mutual
  statement_next : (site : Site) (s : Statement) → (statement_code site s).behind.next ≤ site.next + length (statement_tokens s)
  statement_next site (declares x e) = omega (arith, expr_next site.scope site.next e, next_operand (expr_steps site.scope site.next e))
  statement_next site (assigns x e) = omega (arith, expr_next site.scope site.next e, next_operand (expr_steps site.scope site.next e))
  statement_next site (chooses c body) =
      let test = condition_piece site.scope site.next c in
      omega (
        arith,
        condition_next site.scope site.next c,
        statements_next (past site test.next) body,
        head_length token.If c,
        braces_length
            (statements_tokens body),
        length-append (head_tokens token.If c) (in_braces (statements_tokens body)),
      )
  statement_next site (chooses_one c body other) =
      let test = condition_piece site.scope site.next c in
      let b = statements_code (past site test.next) body in
      let rest = token.Else ∷ in_braces (statements_tokens other) in
      omega (
        arith,
        condition_next site.scope site.next c,
        statements_next (past site test.next) body,
        statements_next (outside site b.behind) other,
        head_length token.If c,
        braces_length (statements_tokens body),
        braces_length (statements_tokens other),
        length-append (in_braces (statements_tokens body)) rest,
        length-append (head_tokens token.If c) (in_braces (statements_tokens body) ++ rest),
      )
  statement_next site (repeats c body) =
      let test = condition_piece site.scope site.next c in
      omega (
        arith,
        condition_next site.scope site.next c,
        statements_next (past site test.next) body,
        head_length token.For c,
        braces_length (statements_tokens body),
        length-append (head_tokens token.For c) (in_braces (statements_tokens body)),
      )
  statement_next site (puts text) = omega arith
  statement_next site (exits e) = omega (arith, expr_next site.scope site.next e, exit_length e)

  statements_next : (site : Site) (ss : Statements) → (statements_code site ss).behind.next ≤ site.next + length (statements_tokens ss)
  statements_next site nothing = omega arith
  statements_next site (first s ss) =
      omega (
        arith,
        statement_next site s,
        statements_next (statement_code site s).behind ss,
        length-append (statement_tokens s)
            (token.Semicolon ∷ statements_tokens ss),
      )

-- ---- tokens and bytes

some_bytes : (t : Token) (s : List ℕ) → IsSpelling t s → 1 ≤ length s
some_bytes token.Use s h = omega (arith, ap length h)
some_bytes token.Export s h = omega (arith, ap length h)
some_bytes token.Function s h = omega (arith, ap length h)
some_bytes token.Void s h = omega (arith, ap length h)
some_bytes token.U8 s h = omega (arith, ap length h)
some_bytes token.Let s h = omega (arith, ap length h)
some_bytes token.If s h = omega (arith, ap length h)
some_bytes token.Else s h = omega (arith, ap length h)
some_bytes token.For s h = omega (arith, ap length h)
some_bytes token.True s h = omega (arith, ap length h)
some_bytes token.Semicolon s h = omega (arith, ap length h)
some_bytes token.OpenParen s h = omega (arith, ap length h)
some_bytes token.CloseParen s h = omega (arith, ap length h)
some_bytes token.OpenBrace s h = omega (arith, ap length h)
some_bytes token.CloseBrace s h = omega (arith, ap length h)
some_bytes token.Assign s h = omega (arith, ap length h)
some_bytes token.Colon s h = omega (arith, ap length h)
some_bytes token.PathSeparator s h = omega (arith, ap length h)
some_bytes token.Plus s h = omega (arith, ap length h)
some_bytes token.Minus s h = omega (arith, ap length h)
some_bytes token.Star s h = omega (arith, ap length h)
some_bytes token.Less s h = omega (arith, ap length h)
some_bytes token.LessEqual s h = omega (arith, ap length h)
some_bytes token.Greater s h = omega (arith, ap length h)
some_bytes token.GreaterEqual s h = omega (arith, ap length h)
some_bytes token.Equal s h = omega (arith, ap length h)
some_bytes token.Differ s h = omega (arith, ap length h)
some_bytes (token.Number n) s h = omega (arith, ap length h.1, length-append h.0 (122 ∷ []))
some_bytes (token.Name name) [] h = absurd (name_some name h.0 h.1)
  where
    name_some : (name : List ℕ) → [] ≡ name → is_name name ≡ true → ⊥
    name_some [] e h = cc
    name_some (c ∷ name) e h = cc
some_bytes (token.Name name) (c ∷ s) h = omega arith
some_bytes (token.Text text) s h = omega (arith, ap length h.0)

tokens_bytes : (ts : List Token) (text : List ℕ) → Spells ts text → length ts ≤ length text
tokens_bytes [] text h = omega arith
tokens_bytes (t ∷ ts) text (blanks, s, rest, b, spelled, l, e, on) =
    omega (arith, some_bytes t s spelled, tokens_bytes ts rest on, ap length e, length-append blanks (s ++ rest), length-append s rest)

body_length : (p : Program) → length (statements_tokens (body_of p)) ≤ length (file_tokens p)
body_length (exit_of e) = omega (arith, length-append (exit_tokens e) (token.Semicolon ∷ []))
body_length (block_of ss) = omega (
  arith,
  braces_length (statements_tokens ss),
  length-append (in_braces (statements_tokens ss))
      (token.Semicolon ∷ []),
)

file_length : (text : List ℕ) (p : Program) → IsOfClass (length text) p → length text ≤ 65536
file_length text (exit_of e) h = omega (arith, h.small)
file_length text (block_of ss) h = omega (arith, h.small)

-- ---- the stack

-- a call of the `main` of a file's program costs little
main_cost : (text : List ℕ) (p : Program) → IsSource text p → call_cost (lowered_main (body_code p)) ≤ little
main_cost text p s =
    let code = Seq (codes_of (body_code p).code) in
    let temps : (body_code p).behind.next ≤ 65537 =
    omega (
      arith,
      statements_next start (body_of p),
      body_length p,
      tokens_bytes (file_tokens p) text s.spelled,
      file_length text p
          s.of_class,
    ) in
    let none = none_addressed code (statements_fit start (body_of p)) in
    omega (arith, temps, none)

pub costs_little : (text : List ℕ) (p : Program) → IsSource text p → CostsLittle (lowered p)
costs_little text p s = record { most = λ args input fill n. omega (arith, run_cost p args input fill n, main_cost text p s) }
