use Rattle.std.proofs.Common.{◌∙◌, sym, refl}
use Rattle.hare_blocks.proofs.ReadStatements.Simple.{exit_no_status, exit_read, call_of_other, puts_unopened, puts_no_text, puts_unclosed}
use Rattle.hare_blocks.proofs.ReadStatements.Simple.{puts_read}
use Rattle.hare_blocks.proofs.read_statement.call.Goals as goal

pub returns-in_default : goal.returns-in_default
returns-in_default c = exit_no_status c.args.left c.args.tokens.now c.takes.new.self c.status.new.tokens c.status.new.tokens
    (c.if-takes.ensures.taken refl) (rw c.in_default.is at c.in_ok-value.ensures)

pub returns-then-takes : goal.returns-then-takes
returns-then-takes c = exit_read c.args.left c.in-Some.value c.args.tokens.now c.takes.new.self c.status.new.tokens
    (c.if-takes.ensures.taken refl) (rw c.in-Some.is at c.in_ok-value.ensures)

pub returns-then-not-takes : goal.returns-then-not-takes
returns-then-not-takes c = call_of_other c.args.left c.args.tokens.now c.takes-2.new.self (c.if-takes.ensures.absent refl)
    (rw (c.if-takes.ensures.kept refl) at (c.if-not-takes.ensures.absent refl))

pub returns-then-not-takes-2 : goal.returns-then-not-takes-2
returns-then-not-takes-2 c = puts_unopened c.args.left c.args.tokens.now c.takes-2.new.self c.takes-3.new.self
    (sym (c.if-takes.ensures.kept refl) ∙ c.if-not-takes.ensures.taken refl) (c.if-not-takes-2.ensures.absent refl)

pub returns-in_default-takes_text : goal.returns-in_default-takes_text
returns-in_default-takes_text c = puts_no_text c.args.left c.args.tokens.now c.takes-2.new.self c.takes_text.new.self
    (sym (c.if-takes.ensures.kept refl) ∙ c.if-not-takes.ensures.taken refl) c.takes-3.new.self (c.if-not-takes-2.ensures.taken refl)
    c.in_default-takes_text.ensures.none

pub returns-then-not-takes-3 : goal.returns-then-not-takes-3
returns-then-not-takes-3 c = puts_unclosed c.args.left c.args.tokens.now c.takes-2.new.self c.takes-4.new.self
    (sym (c.if-takes.ensures.kept refl) ∙ c.if-not-takes.ensures.taken refl) c.in-Some-takes_text.text.now c.takes-3.new.self
    c.takes_text.new.self (c.if-not-takes-2.ensures.taken refl) c.in-Some-takes_text.ensures.some (c.if-not-takes-3.ensures.absent refl)

pub returns : goal.returns
returns c = puts_read c.args.left c.args.tokens.now c.takes-2.new.self c.takes-4.new.self
    (sym (c.if-takes.ensures.kept refl) ∙ c.if-not-takes.ensures.taken refl) c.in-Some-takes_text.text.now c.in_ok-text.text
    c.takes-3.new.self c.takes_text.new.self (c.in_ok-text.ensures ∙ c.bytes.ensures) (c.if-not-takes-2.ensures.taken refl)
    c.in-Some-takes_text.ensures.some (c.if-not-takes-3.ensures.taken refl)
