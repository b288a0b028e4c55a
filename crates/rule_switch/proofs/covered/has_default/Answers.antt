use Rattle.std.proofs.Common.{sym, ◌∙◌}
use Rattle.rule_switch.proofs.CoverLemmas.{default_here, default_next}
use Rattle.rule_switch.proofs.covered.has_default.Goals as goal

pub returns-then-is_default : goal.returns-then-is_default
returns-then-is_default c f o =
    sym (c.loop-i.invariant f o
    ∙ default_here f o c.args.kids.now c.loop-i.i c.in-Some.case.now c.in-Some.ensures.found c.if-is_default.ensures)

pub loop-i-preserved : goal.loop-i-preserved
loop-i-preserved c f o =
    c.loop-i.invariant f o
    ∙ default_next f o c.args.kids.now c.loop-i.i c.in-Some.case.now c.in-Some.ensures.found c.if-is_default.ensures
