use Rattle.std.proofs.Common.{◌∙◌}
use Rattle.hare_blocks.proofs.ReadStatements.Simple.{assign_no_value, assign_read}
use Rattle.hare_blocks.proofs.read_statement.assignment.Goals as goal

pub returns-in_default : goal.returns-in_default
returns-in_default c = assign_no_value c.args.left c.args.name.now c.args.tokens.now c.outer_expr.new.tokens c.outer_expr.new.tokens
    (rw c.in_default.is at c.in_ok-value.ensures)

pub returns : goal.returns
returns c = assign_read c.args.left c.args.name.now c.in_ok-name.name c.in-Some.value c.args.tokens.now c.outer_expr.new.tokens
    (c.in_ok-name.ensures ∙ c.bytes.ensures) (rw c.in-Some.is at c.in_ok-value.ensures)
