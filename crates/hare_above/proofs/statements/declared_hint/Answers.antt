use Rattle.std.proofs.Common.{length, ◌≤◌, arith}
use Rattle.hare_above.proofs.BareLemmas.{declared-fourth}
use Rattle.hare_above.proofs.statements.declared_hint.Goals as goal

pub returns-clause-constant : goal.returns-clause-constant
returns-clause-constant c w =
    let some : 3 ≤ length c.args.q.now.done.now = omega arith in
    declared-fourth c.args.q.now.done.now c.written_hint.result some c.written_hint.ensures.value

pub returns-clause-variable : goal.returns-clause-variable
returns-clause-variable c w =
    let some : 3 ≤ length c.args.q.now.done.now = omega arith in
    declared-fourth c.args.q.now.done.now c.written_hint.result some c.written_hint.ensures.value

pub returns-clause-fixed : goal.returns-clause-fixed
returns-clause-fixed c w =
    let some : 3 ≤ length c.args.q.now.done.now = omega arith in
    declared-fourth c.args.q.now.done.now c.written_hint.result some c.written_hint.ensures.value
