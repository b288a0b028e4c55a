use Rattle.std.proofs.Common.{sym, ◌∙◌}
use Rattle.rule_judge.proofs.BaseLemmas.{size_stays}
use Rattle.rule_judge.proofs.errors.has_size.Goals as goal

pub returns : goal.returns
returns c f l = c.has_size.ensures ∙ sym (size_stays c.args.s.now f c.row-law.ensures.sound l c.args.t c.requires)
