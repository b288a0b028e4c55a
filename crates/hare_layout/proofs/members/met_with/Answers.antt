use Rattle.std.proofs.Common.{sym, ◌∙◌, arith}
use Rattle.hare_layout.proofs.OrderLemmas.{pass-next, pass-other}
use Rattle.hare_layout.proofs.members.met_with.Goals as goal

pub returns-then-eq-clause-value : goal.returns-then-eq-clause-value
returns-then-eq-clause-value c = λ js h. pass-next c.args.types.now c.args.met c.index-types-met.result c.args.u c.requires.types
    (omega arith) c.index-types-met.is (sym c.eq.ensures ∙ c.if-eq.true) js

pub returns-clause-value : goal.returns-clause-value
returns-clause-value c = λ js h. pass-other c.args.types.now c.args.met c.index-types-met.result c.args.u c.requires.types (omega arith)
    c.index-types-met.is (sym c.eq.ensures ∙ c.if-eq.false) js h
