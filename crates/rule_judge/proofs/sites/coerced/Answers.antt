use Rattle.std.proofs.Common.{sym, ◌∙◌}
use Rattle.rule_judge.proofs.BaseLemmas.{coercion_stays}
use Rattle.rule_judge.proofs.sites.coerced.Goals as goal

pub returns-clause-value : goal.returns-clause-value
returns-clause-value c f l = c.assignable.ensures.value ∙ sym
    (coercion_stays c.args.s.now f c.row-law.ensures.sound l c.args.a.now c.args.to c.requires.value c.requires.to)
