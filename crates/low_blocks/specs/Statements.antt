-- The flat code of statements. No public clause cites it, but for the list of strings.
use Rattle.std.specs.Prelude.{ℕ, suc, List, [], ◌∷◌, ◌++◌, length, Option, None, Some, codes}
use Rattle.flat_code.specs.declared.value.Value.TheVariants.{Number, Symbol}
use Rattle.flat_code.specs.Code.{Code, Seq, If, Loop, Leave, Call, codes_of}
use Rattle.hare_blocks.specs.Trees.{Condition, always, compares, Statement, Statements, declares, assigns, chooses, chooses_one, repeats, puts, exits, nothing, first}
use Rattle.hare_blocks.specs.Scopes.{number_of}
use Rattle.low_blocks.specs.declared.last.Last.{Last}
use Rattle.low_blocks.specs.Expressions.{Scope, Piece, last_set, expr_steps, expr_piece, condition_piece}

-- where a statement stands
pub record Site : Type 0 where
  pub scope : Scope
  pub next : ℕ  -- the first temporary that nothing in front of it sets
  pub texts : ℕ  -- how many strings stand in front of it, each a global

-- what statements become, and where those behind them stand
pub record Lowered : Type 0 where
  pub code : List Code
  pub behind : Site

-- behind a block, its variables are gone
abbrev pub outside : Site → Site → Site
outside before within = record { scope = before.scope; next = within.next; texts = within.texts }

-- behind an expression
abbrev pub past : Site → ℕ → Site
past site next = record { scope = site.scope; next = next; texts = site.texts }

-- A variable, if there is one, as in each program of the class, is set by the last step of a value. That step reads its operands before it
-- sets the variable, which may be one of them.
abbrev pub variable_set : Option ℕ → Last → List Code
variable_set None last = []
variable_set (Some t) last = last_set t last ∷ []

-- statements within a statement
abbrev pub seq : List Code → Code
seq cs = Seq (codes_of cs)

-- a branch by what a condition's piece gives
abbrev pub branch : Piece → (does other : List Code) → List Code
branch c does other = c.code ++ If c.value (seq does) (seq other) ∷ []

-- One turn of a loop: where the condition does not hold, it leaves the Seq that is the turn and the Loop round it. A loop whose condition
-- always holds tests nothing.
abbrev pub turn : Condition → Piece → List Code → Code
turn always c body = seq body
turn (compares a r b) c body = seq (c.code ++ If c.value (seq body) (Leave 1) ∷ [])

abbrev mutual
  pub statement_code : Site → Statement → Lowered
  statement_code site (declares x e) =
      let v = expr_steps site.scope site.next e in
      record {
        code = v.code ++ variable_set (Some v.next) v.last;
        behind =
            record { scope = (x, v.next) ∷ site.scope; next = suc v.next; texts = site.texts };
      }
  statement_code site (assigns x e) =
      let v = expr_steps site.scope site.next e in
      record { code = v.code ++ variable_set (number_of x site.scope) v.last; behind = past site v.next }
  statement_code site (chooses c body) =
      let test = condition_piece site.scope site.next c in
      let b = statements_code (past site test.next) body in
      record { code = branch test b.code []; behind = outside site b.behind }
  statement_code site (chooses_one c body other) =
      let test = condition_piece site.scope site.next c in
      let b = statements_code (past site test.next) body in
      let o = statements_code (outside site b.behind) other in
      record { code = branch test b.code o.code; behind = outside site o.behind }
  statement_code site (repeats c body) =
      let test = condition_piece site.scope site.next c in
      let b = statements_code (past site test.next) body in
      record { code = Loop (turn c test b.code) ∷ []; behind = outside site b.behind }
  statement_code site (puts text) =
      record {
        code = Call None (codes "rt.puts") (Symbol site.texts 0 ∷ Number (length text) ∷ []) ∷ [];
        behind =
            record { scope = site.scope; next = site.next; texts = suc site.texts };
      }
  statement_code site (exits e) =
      let v = expr_piece site.scope site.next e in
      record { code = v.code ++ Call None (codes "rt.exit") (v.value ∷ []) ∷ []; behind = past site v.next }

  pub statements_code : Site → Statements → Lowered
  statements_code site nothing = record { code = []; behind = site }
  statements_code site (first s ss) =
      let a = statement_code site s in
      let b = statements_code a.behind ss in
      record { code = a.code ++ b.code; behind = b.behind }

-- ---- strings

-- the strings of statements, in the order of the text
abbrev mutual
  pub statement_texts : Statement → List (List ℕ)
  statement_texts (declares x e) = []
  statement_texts (assigns x e) = []
  statement_texts (chooses c body) = statements_texts body
  statement_texts (chooses_one c body other) = statements_texts body ++ statements_texts other
  statement_texts (repeats c body) = statements_texts body
  statement_texts (puts text) = text ∷ []
  statement_texts (exits e) = []

  pub statements_texts : Statements → List (List ℕ)
  statements_texts nothing = []
  statements_texts (first s ss) = statement_texts s ++ statements_texts ss
