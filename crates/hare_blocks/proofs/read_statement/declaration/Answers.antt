use Rattle.std.proofs.Common.{◌∙◌, refl}
use Rattle.hare_blocks.proofs.ReadStatements.Simple.{let_no_name, let_no_assign, let_no_value, let_read}
use Rattle.hare_blocks.proofs.read_statement.declaration.Goals as goal

pub returns-in_default : goal.returns-in_default
returns-in_default c = let_no_name c.args.left c.args.tokens.now c.takes_name.new.self c.in_default.ensures.none

pub returns-then-not-takes : goal.returns-then-not-takes
returns-then-not-takes c = let_no_assign c.args.left c.in-Some.name.now c.args.tokens.now c.takes_name.new.self c.takes.new.self
    c.in-Some.ensures.some (c.if-not-takes.ensures.absent refl)

pub returns-in_default-2 : goal.returns-in_default-2
returns-in_default-2 c = let_no_value c.args.left c.in-Some.name.now c.args.tokens.now c.takes_name.new.self c.takes.new.self
    c.outer_expr.new.tokens c.outer_expr.new.tokens c.in-Some.ensures.some (c.if-not-takes.ensures.taken refl)
    (rw c.in_default-2.is at c.in_ok-value.ensures)

pub returns : goal.returns
returns c = let_read c.args.left c.in-Some.name.now c.in_ok-name.name c.in-Some-2.value c.args.tokens.now c.takes_name.new.self
    c.takes.new.self c.outer_expr.new.tokens (c.in_ok-name.ensures ∙ c.bytes.ensures) c.in-Some.ensures.some
    (c.if-not-takes.ensures.taken refl) (rw c.in-Some-2.is at c.in_ok-value.ensures)
