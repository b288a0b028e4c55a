use Rattle.std.proofs.Common.{arith, sym, ◌∙◌}
use Rattle.hare_lex.proofs.Turns.Steps.{value_step, value_stop}
use Rattle.hare_lex.proofs.number.value_of.Goals as goal

pub returns-in_err-value : goal.returns-in_err-value
returns-in_err-value c =
    c.from_residual.ensures ∙ value_stop c.args.radix c.args.digits.now c.loop-c.c-index c.loop-c.value (omega arith) (omega arith)
    c.loop-c.invariant.so_far (sym c.in_err-value.was ∙ c.next_value.ensures)

pub loop-c-preserved : goal.loop-c-preserved
loop-c-preserved c =
    let p = value_step c.args.radix c.args.digits.now c.loop-c.c-index c.loop-c.value c.in_ok-value.value (omega arith)
    c.loop-c.invariant.so_far (sym c.in_ok-value.was ∙ c.next_value.ensures) in
    record { so_far = p.0; small = p.1 }
