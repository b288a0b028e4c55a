-- Each part of a tree is less than the tree, by which recursion over the program's trees ends.
use Rattle.std.specs.Prelude.{◌≡◌, ◌≤◌, ◌+◌, suc, List, [], ◌∷◌, map, refl}
use Rattle.std.proofs.Common.{arith}
use denote.Param.Weighed.{most}
use Rattle.hare_blocks.specs.declared.expr.Sign.{Sign}
use Rattle.hare_blocks.specs.declared.expr.Sign.TheVariants as sign
use Rattle.hare_blocks.specs.declared.expr.SignedTerm.{SignedTerm}
use Rattle.hare_blocks.specs.declared.expr.Factor.{Factor}
use Rattle.hare_blocks.specs.declared.expr.Factor.TheVariants as factor
use Rattle.hare_blocks.specs.declared.expr.Expr.TheDeep.{deep-Factor, deep-SignedTerm}
use Rattle.hare_blocks.specs.declared.program.Statement.{Statement}
use Rattle.hare_blocks.specs.declared.program.Statement.TheVariants as statement
use Rattle.hare_blocks.specs.declared.program.Statements.TheDeep.{deep-Statement}
use Rattle.hare_blocks.specs.Trees.{Terms, Term}
use Rattle.hare_blocks.specs.Sizes.{terms_size, term_size, factors_size, factor_size, statement_size, statements_size, list_of_statements}
use Rattle.hare_blocks.specs.Shape.{signed, terms_of, factor_of, factors_of, statement_of}

pub deep_le-factor_size : (f : Factor) → deep-Factor f ≤ factor_size (factor_of f)
deep_le-factor_size (factor.Number n) = omega arith
deep_le-factor_size factor.ArgCount = omega arith
deep_le-factor_size (factor.Variable x) = omega arith
deep_le-factor_size (factor.Group e) = omega arith

pub most_le-factors_size : (fs : List Factor) → most deep-Factor fs ≤ factors_size (factors_of fs)
most_le-factors_size [] = omega arith
most_le-factors_size (f ∷ fs) = omega (arith, most_le-factors_size fs, deep_le-factor_size f)

pub terms_size-signed : (s : Sign) (t : Term) (ts : Terms) → terms_size (signed s t ts) ≡ suc (suc (term_size t)) + terms_size ts
terms_size-signed sign.Plus t ts = refl
terms_size-signed sign.Minus t ts = refl

pub most_le-terms_size : (ts : List SignedTerm) → most deep-SignedTerm ts ≤ terms_size (terms_of ts)
most_le-terms_size [] = omega arith
most_le-terms_size (t ∷ ts) = omega (arith, most_le-terms_size ts, terms_size-signed t.sign t.term (terms_of ts))

pub deep_le-statement_size : (s : Statement) → deep-Statement s ≤ suc (statement_size (statement_of s))
deep_le-statement_size (statement.Declare x e) = omega arith
deep_le-statement_size (statement.Assign x e) = omega arith
deep_le-statement_size (statement.If c body) = omega arith
deep_le-statement_size (statement.IfElse c body other) = omega arith
deep_le-statement_size (statement.For c body) = omega arith
deep_le-statement_size (statement.Puts text) = omega arith
deep_le-statement_size (statement.Exit e) = omega arith

pub most_le-statements_size : (ss : List Statement) → most deep-Statement ss ≤ statements_size (list_of_statements (map statement_of ss))
most_le-statements_size [] = omega arith
most_le-statements_size (s ∷ ss) = omega (arith, most_le-statements_size ss, deep_le-statement_size s)
