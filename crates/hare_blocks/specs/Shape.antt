-- The trees that the program's types stand for.
use Rattle.std.specs.Prelude.{List, [], ◌∷◌}
use Rattle.hare_blocks.specs.declared.expr.Sign.{Sign}
use Rattle.hare_blocks.specs.declared.expr.Sign.TheVariants as sign
use Rattle.hare_blocks.specs.declared.expr.SignedTerm.{SignedTerm}
use Rattle.hare_blocks.specs.declared.expr.Factor as read_factor
use Rattle.hare_blocks.specs.declared.expr.Factor.TheVariants as factor
use Rattle.hare_blocks.specs.declared.program.Relation as read_relation
use Rattle.hare_blocks.specs.declared.program.Relation.TheVariants as relation
use Rattle.hare_blocks.specs.declared.program.Condition as read_condition
use Rattle.hare_blocks.specs.declared.program.Condition.TheVariants as condition
use Rattle.hare_blocks.specs.declared.program.Statement as read_statement
use Rattle.hare_blocks.specs.declared.program.Statement.TheVariants as statement
use Rattle.hare_blocks.specs.declared.program.Program as read_program
use Rattle.hare_blocks.specs.declared.program.Program.TheVariants as program
use Rattle.hare_blocks.specs.Trees.{Terms, Term, Factors, Factor, no_term, plus, minus, no_factor, times, number, arg_count, variable, group, Relation, less, less_equal, greater, greater_equal, equal, differ, Condition, always, compares, Statement, declares, assigns, chooses, chooses_one, repeats, puts, exits, Program, exit_of, block_of}
use Rattle.hare_blocks.specs.Sizes.{list_of_statements}

-- ---- expressions

-- further terms that begin with this one
abbrev pub signed : Sign → Term → Terms → Terms
signed sign.Plus t ts = plus t ts
signed sign.Minus t ts = minus t ts

abbrev pub terms_of : List SignedTerm → Terms
terms_of [] = no_term
terms_of (t ∷ ts) = signed t.sign t.term (terms_of ts)

abbrev pub factor_of : read_factor.Factor → Factor
factor_of (factor.Number n) = number n
factor_of factor.ArgCount = arg_count
factor_of (factor.Variable x) = variable x
factor_of (factor.Group e) = group e.value

abbrev pub factors_of : List read_factor.Factor → Factors
factors_of [] = no_factor
factors_of (f ∷ fs) = times (factor_of f) (factors_of fs)

-- ---- conditions, statements and programs

abbrev pub relation_of : read_relation.Relation → Relation
relation_of relation.Less = less
relation_of relation.LessEqual = less_equal
relation_of relation.Greater = greater
relation_of relation.GreaterEqual = greater_equal
relation_of relation.Equal = equal
relation_of relation.Differ = differ

abbrev pub condition_of : read_condition.Condition → Condition
condition_of condition.Always = always
condition_of (condition.Compares a r b) = compares a (relation_of r) b

abbrev pub statement_of : read_statement.Statement → Statement
statement_of (statement.Declare x e) = declares x e
statement_of (statement.Assign x e) = assigns x e
statement_of (statement.If c body) = chooses (condition_of c) (list_of_statements body)
statement_of (statement.IfElse c body other) = chooses_one (condition_of c) (list_of_statements body) (list_of_statements other)
statement_of (statement.For c body) = repeats (condition_of c) (list_of_statements body)
statement_of (statement.Puts text) = puts text
statement_of (statement.Exit e) = exits e

abbrev pub program_of : read_program.Program → Program
program_of (program.Exit e) = exit_of e
program_of (program.Block ss) = block_of (list_of_statements ss)
