use Rattle.std.proofs.Common.{sym, ◌∙◌}
use Rattle.rule_types.proofs.KnownLemmas.{size_stays}
use Rattle.rule_types.proofs.reads.has_size.Goals as goal

pub returns : goal.returns
returns c f l = c.has_size.ensures ∙ sym (size_stays c.args.s.now f c.row-law.ensures.sound l c.args.t c.requires)
