use Rattle.std.proofs.Common.{sym, ◌∙◌}
use Rattle.rule_ctl.proofs.declarations.judge_declaration.Goals as goal

pub judge_by-requires-clause-needs : goal.judge_by-requires-clause-needs
judge_by-requires-clause-needs c f = sym (c.is_constant.ensures f) ∙ c.if-is_constant.true

pub inconstant_fault-requires-clause-not_constant : goal.inconstant_fault-requires-clause-not_constant
inconstant_fault-requires-clause-not_constant c f = sym (c.is_constant.ensures f) ∙ c.if-is_constant.false
