-- What a reader of conditions, statements and programs finds: how the parts are spelled, which of them fit the limits, and what ends them.
use Rattle.std.specs.Prelude.{◌≡◌, ℕ, ◌+◌, ◌≤◌, List, [], ◌∷◌, ◌++◌}
use Rattle.std.specs.List.{AllByRecursion}
use Rattle.hare_blocks.specs.declared.program.Relation as read_relation
use Rattle.hare_blocks.specs.declared.token.Token.{Token}
use Rattle.hare_blocks.specs.declared.token.Token.TheVariants as token
use Rattle.hare_blocks.specs.Trees.{Expr, Condition, Statement, Statements, expr_tokens, condition_tokens, statements_tokens, in_braces, relation_token, file_tokens, Program, exit_of, block_of}
use Rattle.hare_blocks.specs.Class.{AreLimited, condition_exprs, statement_exprs, statements_exprs, statement_blocks, statements_blocks}
use Rattle.hare_blocks.specs.Shape.{relation_of}

-- an expression that stands in no other keeps the limits
abbrev pub IsLimited : Expr → Type 0
IsLimited e = AreLimited (expr_tokens e)

abbrev pub AllLimited : List Expr → Type 0
AllLimited es = AllByRecursion IsLimited es

abbrev pub ConditionFits : Condition → Type 0
ConditionFits c = AllLimited (condition_exprs c)

-- a statement within which so many blocks may be open at once
pub record StatementFits (most : ℕ) (s : Statement) : Type 0 where
  pub blocks : statement_blocks s ≤ most
  pub limited : AllLimited (statement_exprs s)

pub record StatementsFit (most : ℕ) (ss : Statements) : Type 0 where
  pub blocks : statements_blocks ss ≤ most
  pub limited : AllLimited (statements_exprs ss)

-- a block is open itself
pub record BlockFits (most : ℕ) (ss : Statements) : Type 0 where
  pub blocks : 1 + statements_blocks ss ≤ most
  pub limited : AllLimited (statements_exprs ss)

-- ( condition )
abbrev pub test_tokens : Condition → List Token
test_tokens c = token.OpenParen ∷ (condition_tokens c ++ token.CloseParen ∷ [])

-- { statements }
abbrev pub block_tokens : Statements → List Token
block_tokens ss = in_braces (statements_tokens ss)

-- statements }
abbrev pub closed_tokens : Statements → List Token
closed_tokens ss = statements_tokens ss ++ token.CloseBrace ∷ []

-- ((e): u8)
abbrev pub status_tokens : Expr → List Token
status_tokens e = token.OpenParen ∷ token.OpenParen ∷ (expr_tokens e ++ (token.CloseParen ∷ token.Colon ∷ token.U8 ∷ token.CloseParen ∷ []))

abbrev pub read_relation_token : read_relation.Relation → Token
read_relation_token r = relation_token (relation_of r)

-- a part that ends by itself
abbrev pub Anything : List Token → Type 0
Anything ts = Unit {0}

-- a semicolon stands behind a statement
abbrev pub IsEnded : List Token → Type 0
IsEnded [] = ⊥
IsEnded (t ∷ ts) = t ≡ token.Semicolon

-- the limits on trees of a program's body, but those on its text
abbrev pub ProgramFits : Program → Type 0
ProgramFits (exit_of e) = IsLimited e
ProgramFits (block_of ss) = BlockFits 16 ss

-- the tokens of a file whose program keeps these limits
pub record IsFileOf (ts : List Token) (p : Program) : Type 0 where
  pub spelled : ts ≡ file_tokens p
  pub fits : ProgramFits p
