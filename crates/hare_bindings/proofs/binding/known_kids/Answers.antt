use Rattle.rule_judge.proofs.DefinedLemmas.{defined_stays}
use Rattle.hare_bindings.proofs.binding.known_kids.Goals as goal

pub returns-in_err-void-clause-defined : goal.returns-in_err-void-clause-defined
returns-in_err-void-clause-defined c t h =
    defined_stays c.args.s.now c.word.new.s c.declarations-law.ensures.sound c.word.ensures.grown.later t (c.requires.defined t h)

pub returns-in_err-kids-clause-defined : goal.returns-in_err-kids-clause-defined
returns-in_err-kids-clause-defined c t h =
    defined_stays c.args.s.now c.word.new.s c.declarations-law.ensures.sound c.word.ensures.grown.later t (c.requires.defined t h)

pub are_known-requires : goal.are_known-requires
are_known-requires c =
    let later = c.word.ensures.grown.later in
    record { known = λ t h. defined_stays c.args.s.now c.word.new.s c.declarations-law.ensures.sound later t (c.requires.defined t h) }
