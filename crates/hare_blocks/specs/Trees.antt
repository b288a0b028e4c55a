-- The programs of the class as trees, and the tokens that spell them. A program's trees have the shape of the grammar:
--
--   file      = "use" "rt" ";" "export" "fn" "main" "(" ")" "void" "=" (exit | block) ";"
--   block     = "{" {statement ";"} "}"
--   statement = "let" name "=" expr | name "=" expr | "if" "(" condition ")" block ["else" block] | "for" "(" condition ")" block
--             | "rt" "::" "puts" "(" string ")" | exit
--   exit      = "rt" "::" "exit" "(" "(" expr ")" ":" "u8" ")"
--   condition = "true" | expr ("<" | "<=" | ">" | ">=" | "==" | "!=") expr
--   expr      = term {("+" | "-") term}        term = factor {"*" factor}
--   factor    = number | "rt" "::" "nargs" "(" ")" | name | "(" expr ")"
use Rattle.std.specs.Prelude.{ℕ, List, [], ◌∷◌, ◌++◌, codes}
use Rattle.hare_blocks.specs.declared.token.Token.{Token}
use Rattle.hare_blocks.specs.declared.token.Token.TheVariants as token

-- ---- trees

mutual
  pub data Expr : Type 0 where
    sum_of : Term → Terms → Expr

  pub data Terms : Type 0 where
    no_term : Terms
    plus : Term → Terms → Terms
    minus : Term → Terms → Terms

  pub data Term : Type 0 where
    product_of : Factor → Factors → Term

  pub data Factors : Type 0 where
    no_factor : Factors
    times : Factor → Factors → Factors

  pub data Factor : Type 0 where
    number : ℕ → Factor
    arg_count : Factor
    variable : List ℕ → Factor
    group : Expr → Factor

pub data Relation : Type 0 where
  less less_equal greater greater_equal equal differ : Relation

pub data Condition : Type 0 where
  always : Condition
  compares : Expr → Relation → Expr → Condition

-- a statement, and the statements of a block
mutual
  pub data Statement : Type 0 where
    declares : List ℕ → Expr → Statement
    assigns : List ℕ → Expr → Statement
    chooses : Condition → Statements → Statement
    chooses_one : Condition → Statements → Statements → Statement
    repeats : Condition → Statements → Statement
    puts : List ℕ → Statement
    exits : Expr → Statement

  pub data Statements : Type 0 where
    nothing : Statements
    first : Statement → Statements → Statements

-- the body of `main`: one exit, or a block
pub data Program : Type 0 where
  exit_of : Expr → Program
  block_of : Statements → Program

-- ---- the tokens that spell an expression

-- rt::
abbrev pub runtime_tokens : List Token
runtime_tokens = token.Name (codes "rt") ∷ token.PathSeparator ∷ []

abbrev mutual
  pub expr_tokens : Expr → List Token
  expr_tokens (sum_of t ts) = term_tokens t ++ terms_tokens ts

  pub terms_tokens : Terms → List Token
  terms_tokens no_term = []
  terms_tokens (plus t ts) = token.Plus ∷ (term_tokens t ++ terms_tokens ts)
  terms_tokens (minus t ts) = token.Minus ∷ (term_tokens t ++ terms_tokens ts)

  pub term_tokens : Term → List Token
  term_tokens (product_of f fs) = factor_tokens f ++ factors_tokens fs

  pub factors_tokens : Factors → List Token
  factors_tokens no_factor = []
  factors_tokens (times f fs) = token.Star ∷ (factor_tokens f ++ factors_tokens fs)

  pub factor_tokens : Factor → List Token
  factor_tokens (number n) = token.Number n ∷ []
  factor_tokens arg_count = runtime_tokens ++ (token.Name (codes "nargs") ∷ token.OpenParen ∷ token.CloseParen ∷ [])
  factor_tokens (variable x) = token.Name x ∷ []
  factor_tokens (group e) = token.OpenParen ∷ (expr_tokens e ++ token.CloseParen ∷ [])

-- ---- conditions and statements

abbrev pub relation_token : Relation → Token
relation_token less = token.Less
relation_token less_equal = token.LessEqual
relation_token greater = token.Greater
relation_token greater_equal = token.GreaterEqual
relation_token equal = token.Equal
relation_token differ = token.Differ

abbrev pub condition_tokens : Condition → List Token
condition_tokens always = token.True ∷ []
condition_tokens (compares a r b) = expr_tokens a ++ (relation_token r ∷ expr_tokens b)

-- rt::exit((e): u8)
abbrev pub exit_tokens : Expr → List Token
exit_tokens e = runtime_tokens ++ (token.Name (codes "exit") ∷ token.OpenParen ∷ token.OpenParen ∷
    (expr_tokens e ++ (token.CloseParen ∷ token.Colon ∷ token.U8 ∷ token.CloseParen ∷ [])))

-- a condition in parentheses, behind the keyword that it belongs to
abbrev pub head_tokens : Token → Condition → List Token
head_tokens keyword c = keyword ∷ token.OpenParen ∷ (condition_tokens c ++ token.CloseParen ∷ [])

-- the tokens of statements between braces
abbrev pub in_braces : List Token → List Token
in_braces ts = token.OpenBrace ∷ (ts ++ token.CloseBrace ∷ [])

abbrev mutual
  pub statement_tokens : Statement → List Token
  statement_tokens (declares x e) = token.Let ∷ token.Name x ∷ token.Assign ∷ expr_tokens e
  statement_tokens (assigns x e) = token.Name x ∷ token.Assign ∷ expr_tokens e
  statement_tokens (chooses c body) = head_tokens token.If c ++ in_braces (statements_tokens body)
  statement_tokens (chooses_one c body other) =
      head_tokens token.If c ++ (in_braces (statements_tokens body) ++ (token.Else ∷ in_braces (statements_tokens other)))
  statement_tokens (repeats c body) = head_tokens token.For c ++ in_braces (statements_tokens body)
  statement_tokens (puts text) = runtime_tokens ++ (token.Name (codes "puts") ∷ token.OpenParen ∷ token.Text text ∷ token.CloseParen ∷ [])
  statement_tokens (exits e) = exit_tokens e

  pub statements_tokens : Statements → List Token
  statements_tokens nothing = []
  statements_tokens (first s ss) = statement_tokens s ++ (token.Semicolon ∷ statements_tokens ss)

-- ---- whole files

abbrev pub body_tokens : Program → List Token
body_tokens (exit_of e) = exit_tokens e
body_tokens (block_of ss) = in_braces (statements_tokens ss)

-- use rt; export fn main() void =
abbrev pub front_tokens : List Token
front_tokens = token.Use ∷ token.Name (codes "rt") ∷ token.Semicolon ∷ token.Export ∷ token.Function ∷ token.Name (codes "main") ∷
    token.OpenParen ∷ token.CloseParen ∷ token.Void ∷ token.Assign ∷ []

abbrev pub file_tokens : Program → List Token
file_tokens p = front_tokens ++ (body_tokens p ++ token.Semicolon ∷ [])
