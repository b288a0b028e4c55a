use Rattle.std.proofs.Common.{◌≡◌, suc, ◌-◌, length, arith}
use Rattle.hare_above.proofs.BareLemmas.{argument-later}
use Rattle.hare_above.proofs.calls.argument_hint.Goals as goal

pub returns-clause-value : goal.returns-clause-value
returns-clause-value c w l =
    let e : length c.args.q.now.done.now ≡ suc (c.len-before.result - 1) = omega arith in
    argument-later w c.args.q.now.done.now (c.len-before.result - 1) c.callee_meaning-meaning.result c.in_ok-o.o c.hint_to.result e
    c.callee_meaning-meaning.ensures
    (c.in_ok-o.ensures.value w l) c.hint_to.ensures.value
