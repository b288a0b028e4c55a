use Rattle.std.proofs.Common.{sym, arith}
use Rattle.rule_judge.proofs.KidLemmas.{own_defined}
use Rattle.hare_above.proofs.BareLemmas.{values-later}
use Rattle.hare_above.proofs.standing.values_under.Goals as goal

pub default_in-requires : goal.default_in-requires
default_in-requires c = rw c.type_at-operand.ensures (own_defined c.args.s.now c.args.done.now 0 c.requires)

pub returns-in_ok-o-in-Switch-clause-value : goal.returns-in_ok-o-in-Switch-clause-value
returns-in_ok-o-in-Switch-clause-value c w a l =
    values-later w a c.args.done.now c.args.k c.in_ok-o-in-Switch.o c.hint_to.result c.in-Switch.is (λ e. omega (arith, e))
    (rw (sym c.type_at-operand.ensures) (c.in_ok-o-in-Switch.ensures.value w.store l)) c.hint_to.ensures.value
