use Rattle.std.proofs.Common.{length, ◌≡◌, arith}
use Rattle.hare_above.proofs.BareLemmas.{written-second}
use Rattle.hare_above.proofs.statements.binding_hint.Goals as goal

pub returns-clause-variable : goal.returns-clause-variable
returns-clause-variable c w =
    let one : length c.args.q.now.done.now ≡ 1 = omega arith in
    written-second c.args.q.now.done.now c.written_hint.result one c.written_hint.ensures.value

pub returns-clause-constant : goal.returns-clause-constant
returns-clause-constant c w =
    let one : length c.args.q.now.done.now ≡ 1 = omega arith in
    written-second c.args.q.now.done.now c.written_hint.result one c.written_hint.ensures.value
