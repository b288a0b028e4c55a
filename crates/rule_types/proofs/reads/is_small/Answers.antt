use Rattle.std.proofs.Common.{sym, ◌∙◌}
use Rattle.rule_types.proofs.SmallLemmas.{large_stays}
use Rattle.rule_types.proofs.reads.is_small.Goals as goal

pub returns-in-Some-clause-large : goal.returns-in-Some-clause-large
returns-in-Some-clause-large c e f l = large_stays c.args.s.now f c.extent.ensures.sound l c.args.t c.in-Some.x e
    (sym c.in-Some.is ∙ c.extent.ensures.value)
