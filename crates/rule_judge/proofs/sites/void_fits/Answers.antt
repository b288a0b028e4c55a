use Rattle.std.proofs.Common.{ap, ◌∙◌, is_some}
use Rattle.rule_judge.proofs.DefinedLemmas.{defined_stays}
use Rattle.rule_judge.proofs.VoidLemmas.{void_goes}
use Rattle.rule_judge.proofs.sites.void_fits.Goals as goal

pub coerced-requires-clause-to : goal.coerced-requires-clause-to
coerced-requires-clause-to c = defined_stays c.args.s.now c.word.new.s c.declarations-law.ensures.sound c.word.ensures.grown.later c.args.to
    c.requires

pub returns-clause-value : goal.returns-clause-value
returns-clause-value c f l =
    c.is_some.ensures ∙ ap is_some (c.coerced.ensures.value f l) ∙ void_goes f l.sound c.in_ok-void.void c.args.to
    (c.in_ok-void.ensures.id f l)
