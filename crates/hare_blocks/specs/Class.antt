-- Which files are of the class, and of which program.
--
-- What a reader must believe: `Spells` (Tokens.antt) and `file_tokens` (Trees.antt), by which the file is spelled; that each name that is
-- used was declared before in a block that is still open; and the limits.
use Rattle.std.specs.Prelude.{◌≡◌, ℕ, ◌+◌, ◌-◌, ◌≤◌, max, List, [], ◌∷◌, ◌++◌, Bool, true, false, codes, count_by, length, Contains}
use Rattle.std.specs.List.{AllByRecursion}
use Rattle.hare_blocks.specs.declared.token.Token.{Token}
use Rattle.hare_blocks.specs.declared.token.Token.TheVariants as token
use Rattle.hare_blocks.specs.Tokens.{Spells}
use Rattle.hare_blocks.specs.Trees.{Expr, Terms, Term, Factors, Factor, sum_of, no_term, plus, minus, product_of, no_factor, times, number, arg_count, variable, group, Condition, always, compares, Statement, Statements, declares, assigns, chooses, chooses_one, repeats, puts, exits, nothing, first, Program, exit_of, block_of, expr_tokens, file_tokens}

-- ---- names

-- the names that an expression uses
abbrev mutual
  pub expr_names : Expr → List (List ℕ)
  expr_names (sum_of t ts) = term_names t ++ terms_names ts

  pub terms_names : Terms → List (List ℕ)
  terms_names no_term = []
  terms_names (plus t ts) = term_names t ++ terms_names ts
  terms_names (minus t ts) = term_names t ++ terms_names ts

  pub term_names : Term → List (List ℕ)
  term_names (product_of f fs) = factor_names f ++ factors_names fs

  pub factors_names : Factors → List (List ℕ)
  factors_names no_factor = []
  factors_names (times f fs) = factor_names f ++ factors_names fs

  pub factor_names : Factor → List (List ℕ)
  factor_names (number n) = []
  factor_names arg_count = []
  factor_names (variable x) = x ∷ []
  factor_names (group e) = expr_names e

abbrev pub condition_names : Condition → List (List ℕ)
condition_names always = []
condition_names (compares a r b) = expr_names a ++ expr_names b

-- each name that is used is a declared one
abbrev pub AreDeclared : (used declared : List (List ℕ)) → Type 0
AreDeclared used declared = AllByRecursion (λ x. Contains declared x) used

-- the names that are declared behind a statement, where these are declared in front of it
abbrev pub declared_behind : Statement → List (List ℕ) → List (List ℕ)
declared_behind (declares x e) declared = x ∷ declared
declared_behind (assigns x e) declared = declared
declared_behind (chooses c body) declared = declared
declared_behind (chooses_one c body other) declared = declared
declared_behind (repeats c body) declared = declared
declared_behind (puts text) declared = declared
declared_behind (exits e) declared = declared

-- Each name that is used is declared before, in a block that is still open: what a block declares ends with it. No `rt` is declared.
abbrev mutual
  pub NamesHold : List (List ℕ) → Statement → Type 0
  NamesHold declared (declares x e) = ¬ (x ≡ codes "rt") × AreDeclared (expr_names e) declared
  NamesHold declared (assigns x e) = Contains declared x × AreDeclared (expr_names e) declared
  NamesHold declared (chooses c body) = AreDeclared (condition_names c) declared × AllNamesHold declared body
  NamesHold declared (chooses_one c body other) = AreDeclared (condition_names c) declared × AllNamesHold declared body ×
      AllNamesHold declared other
  NamesHold declared (repeats c body) = AreDeclared (condition_names c) declared × AllNamesHold declared body
  NamesHold declared (puts text) = Unit {0}
  NamesHold declared (exits e) = AreDeclared (expr_names e) declared

  pub AllNamesHold : List (List ℕ) → Statements → Type 0
  AllNamesHold declared nothing = Unit {0}
  AllNamesHold declared (first s ss) = NamesHold declared s × AllNamesHold (declared_behind s declared) ss

-- ---- limits

-- how many parentheses are open behind a token, where so many are open in front of it
abbrev pub open_behind : Token → ℕ → ℕ
open_behind token.OpenParen open_before = open_before + 1
open_behind token.CloseParen open_before = open_before - 1
open_behind t open_before = open_before

-- the most parentheses that are open at once in the tokens, where so many are open in front of them
abbrev pub most_open : ℕ → List Token → ℕ
most_open open_before [] = open_before
most_open open_before (t ∷ ts) = max open_before (most_open (open_behind t open_before) ts)

abbrev pub is_operator : Token → Bool
is_operator token.Plus = true
is_operator token.Minus = true
is_operator token.Star = true
is_operator t = false

-- the tokens have at most 64 parentheses open at once, and at most 100 operators
pub record AreLimited (ts : List Token) : Type 0 where
  pub nested : most_open 0 ts ≤ 64
  pub operators : count_by is_operator ts ≤ 100

-- the expressions of a statement that stand in no other expression
abbrev pub condition_exprs : Condition → List Expr
condition_exprs always = []
condition_exprs (compares a r b) = a ∷ b ∷ []

abbrev mutual
  pub statement_exprs : Statement → List Expr
  statement_exprs (declares x e) = e ∷ []
  statement_exprs (assigns x e) = e ∷ []
  statement_exprs (chooses c body) = condition_exprs c ++ statements_exprs body
  statement_exprs (chooses_one c body other) = condition_exprs c ++ (statements_exprs body ++ statements_exprs other)
  statement_exprs (repeats c body) = condition_exprs c ++ statements_exprs body
  statement_exprs (puts text) = []
  statement_exprs (exits e) = e ∷ []

  pub statements_exprs : Statements → List Expr
  statements_exprs nothing = []
  statements_exprs (first s ss) = statement_exprs s ++ statements_exprs ss

-- the most blocks that are open at once within a statement, and within statements
abbrev mutual
  pub statement_blocks : Statement → ℕ
  statement_blocks (declares x e) = 0
  statement_blocks (assigns x e) = 0
  statement_blocks (chooses c body) = 1 + statements_blocks body
  statement_blocks (chooses_one c body other) = 1 + max (statements_blocks body) (statements_blocks other)
  statement_blocks (repeats c body) = 1 + statements_blocks body
  statement_blocks (puts text) = 0
  statement_blocks (exits e) = 0

  pub statements_blocks : Statements → ℕ
  statements_blocks nothing = 0
  statements_blocks (first s ss) = max (statement_blocks s) (statements_blocks ss)

-- ---- whole files

-- An exit alone keeps limits of its own: no names, at most 4,096 bytes, and the limits of expressions over the whole file.
pub record IsExitFile (size : ℕ) (e : Expr) : Type 0 where
  pub names : expr_names e ≡ []
  pub limited : AreLimited (file_tokens (exit_of e))
  pub small : size ≤ 4096

-- A block has at most 65,536 bytes, 16 blocks open at once with the block of `main`, and the limits of expressions in each expression.
pub record IsBlockFile (size : ℕ) (ss : Statements) : Type 0 where
  pub names : AllNamesHold [] ss
  pub blocks : 1 + statements_blocks ss ≤ 16
  pub limited : AllByRecursion (λ e. AreLimited (expr_tokens e)) (statements_exprs ss)
  pub small : size ≤ 65536

abbrev pub IsOfClass : ℕ → Program → Type 0
IsOfClass size (exit_of e) = IsExitFile size e
IsOfClass size (block_of ss) = IsBlockFile size ss

-- the text is a file of the class, of this program
pub record IsSource (text : List ℕ) (p : Program) : Type 0 where
  pub spelled : Spells (file_tokens p) text
  pub of_class : IsOfClass (length text) p

-- the text is no file of the class
abbrev pub IsNoSource : List ℕ → Type 0
IsNoSource text = (p : Program) → ¬ (IsSource text p)
