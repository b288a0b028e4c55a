use Rattle.std.proofs.Common.{refl}
use Rattle.hare_blocks.specs.Sizes.{list_of_statements}
use Rattle.hare_blocks.specs.Shape.{condition_of, statement_of}
use Rattle.hare_blocks.proofs.ReadStatements.Blocks.{if_no_test, if_no_body, if_read, if_no_other, if_else_read, for_no_test, for_no_body}
use Rattle.hare_blocks.proofs.ReadStatements.Blocks.{for_read, other_statement}
use Rattle.hare_blocks.proofs.ReadStatements.Sequences.{statements_more, statements_break, statements_unended, statements_end}
use Rattle.hare_blocks.proofs.read_statement.+statement.Goals as goal

-- ---- branches

pub choice-returns-in_default : goal.choice-returns-in_default
choice-returns-in_default t c = if_no_test c.args.left c.args.tokens.now c.test.new.tokens c.test.new.tokens
    (rw c.in_default.is at c.in_ok-test.ensures)

pub choice-returns-in_default-2 : goal.choice-returns-in_default-2
choice-returns-in_default-2 t c = if_no_body c.args.left (condition_of c.in-Some.test) c.args.tokens.now c.test.new.tokens
    (rw c.in-Some.is at c.in_ok-test.ensures) c.block.new.tokens c.block.new.tokens (rw c.in_default-2.is at c.in_ok-body.ensures)

pub choice-returns-then-not-takes : goal.choice-returns-then-not-takes
choice-returns-then-not-takes t c = if_read c.args.left (condition_of c.in-Some.test) c.args.tokens.now c.test.new.tokens
    (rw c.in-Some.is at c.in_ok-test.ensures) (list_of_statements c.in-Some-2.body) c.block.new.tokens
    (rw c.in-Some-2.is at c.in_ok-body.ensures) c.takes.new.self (c.if-not-takes.ensures.absent refl) (c.if-not-takes.ensures.kept refl)

pub choice-returns-in_default-3 : goal.choice-returns-in_default-3
choice-returns-in_default-3 t c = if_no_other c.args.left (condition_of c.in-Some.test) c.args.tokens.now c.test.new.tokens
    (rw c.in-Some.is at c.in_ok-test.ensures) (list_of_statements c.in-Some-2.body) c.block.new.tokens
    (rw c.in-Some-2.is at c.in_ok-body.ensures) c.takes.new.self c.block-2.new.tokens c.block-2.new.tokens
    (c.if-not-takes.ensures.taken refl) (rw c.in_default-3.is at c.in_ok-otherwise.ensures)

pub choice-returns : goal.choice-returns
choice-returns t c = if_else_read c.args.left (condition_of c.in-Some.test) c.args.tokens.now c.test.new.tokens
    (rw c.in-Some.is at c.in_ok-test.ensures) (list_of_statements c.in-Some-2.body) c.block.new.tokens
    (rw c.in-Some-2.is at c.in_ok-body.ensures) (list_of_statements c.in-Some-3.otherwise) c.takes.new.self c.block-2.new.tokens
    (c.if-not-takes.ensures.taken refl) (rw c.in-Some-3.is at c.in_ok-otherwise.ensures)

-- ---- loops

pub repetition-returns-in_default : goal.repetition-returns-in_default
repetition-returns-in_default t c = for_no_test c.args.left c.args.tokens.now c.test.new.tokens c.test.new.tokens
    (rw c.in_default.is at c.in_ok-test.ensures)

pub repetition-returns-in_default-2 : goal.repetition-returns-in_default-2
repetition-returns-in_default-2 t c = for_no_body c.args.left (condition_of c.in-Some.test) c.args.tokens.now c.test.new.tokens
    c.block.new.tokens c.block.new.tokens (rw c.in-Some.is at c.in_ok-test.ensures) (rw c.in_default-2.is at c.in_ok-body.ensures)

pub repetition-returns : goal.repetition-returns
repetition-returns t c = for_read c.args.left (condition_of c.in-Some.test) (list_of_statements c.in-Some-2.body) c.args.tokens.now
    c.test.new.tokens c.block.new.tokens (rw c.in-Some.is at c.in_ok-test.ensures) (rw c.in-Some-2.is at c.in_ok-body.ensures)

-- ---- statements

pub statement-returns-in_default-first : goal.statement-returns-in_default-first
statement-returns-in_default-first t c = other_statement c.args.left c.in-Some.first.now c.args.tokens.now c.next.new.self c.next.new.self
    c.in-Some.ensures.some c.in_default-first.not-Let c.in_default-first.not-If c.in_default-first.not-For c.in_default-first.not-Name

pub statements-returns-in_default : goal.statements-returns-in_default
statements-returns-in_default t c =
    let r = rw (c.statements-test.ensures.kept refl) at (rw c.in_default.is at c.in_ok-next.ensures) in
    statements_break c.args.left c.statements.found c.args.tokens.now c.statements.tokens c.statements.invariant
    (c.statements-test.ensures.absent refl) c.statement.new.tokens c.statement.new.tokens r

pub statements-returns-then-not-takes : goal.statements-returns-then-not-takes
statements-returns-then-not-takes t c =
    let r = rw (c.statements-test.ensures.kept refl) at (rw c.in-Some.is at c.in_ok-next.ensures) in
    statements_unended c.args.left c.statements.found c.args.tokens.now c.statements.tokens c.statements.invariant
    (c.statements-test.ensures.absent refl) (statement_of c.in-Some.next) c.statement.new.tokens c.takes-in-statements.new.self r
    (c.if-not-takes.ensures.absent refl)

pub statements-statements-preserved : goal.statements-statements-preserved
statements-statements-preserved t c =
    let r = rw (c.statements-test.ensures.kept refl) at (rw c.in-Some.is at c.in_ok-next.ensures) in
    rw c.in_ok-push.ensures.ok (statements_more c.args.left c.statements.found c.args.tokens.now c.statements.tokens c.statements.invariant
    (c.statements-test.ensures.absent refl) (statement_of c.in-Some.next) c.statement.new.tokens c.takes-in-statements.new.self r
    (c.if-not-takes.ensures.taken refl))

pub statements-returns : goal.statements-returns
statements-returns t c = statements_end c.args.left c.statements.found c.args.tokens.now c.statements.tokens c.takes.new.self
    c.statements.invariant (c.statements-test.ensures.taken refl)
