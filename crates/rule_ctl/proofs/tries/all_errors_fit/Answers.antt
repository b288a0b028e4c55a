use Rattle.std.proofs.Common.{sym, ◌∙◌}
use Rattle.rule_ctl.proofs.TryLemmas.{rejected_here, rejected_none}
use Rattle.rule_ctl.proofs.tries.all_errors_fit.Goals as goal

pub is_rejected-requires-clause-error : goal.is_rejected-requires-clause-error
is_rejected-requires-clause-error c = c.requires.types c.u-item.result (c.loop-u.u-index, c.loop-u-test.true, sym c.u-item.is)

pub returns-then-is_rejected : goal.returns-then-is_rejected
returns-then-is_rejected c f l =
    rejected_here f c.args.types.now c.loop-u.u-index c.u-item.result c.u-item.result c.args.to c.loop-u-test.true c.u-item.is
    (sym c.if-is_rejected.true ∙ c.is_rejected.ensures f l)
    ∙ sym (c.loop-u.invariant f l)

pub loop-u-preserved : goal.loop-u-preserved
loop-u-preserved c f l =
    c.loop-u.invariant f l
    ∙ rejected_none f c.args.types.now c.loop-u.u-index c.u-item.result c.u-item.result c.args.to c.loop-u-test.true c.u-item.is
    (sym c.if-is_rejected.false ∙ c.is_rejected.ensures f l)
