use Rattle.std.proofs.Common.{sym, ◌∙◌}
use Rattle.rule_judge.proofs.BaseLemmas.{mark_stays}
use Rattle.rule_judge.proofs.errors.is_error.Goals as goal

pub returns : goal.returns
returns c f l = c.is_error.ensures ∙ sym (mark_stays c.args.s.now f c.row-law.ensures.sound l c.args.t c.requires)
