use Rattle.std.proofs.lemmas.Result.{IfOk-weaker}
use Rattle.rule_judge.proofs.DefinedLemmas.{held_within, made_defined}
use Rattle.rule_judge.proofs.made.entered.Goals as goal

pub intern-requires-clause-within : goal.intern-requires-clause-within
intern-requires-clause-within c = held_within c.args.s.now c.args.r c.requires.held

pub returns-clause-defined : goal.returns-clause-defined
returns-clause-defined c =
    IfOk-weaker c.intern.result _ _
    (λ t n. made_defined c.args.s.now c.intern.new.self c.declarations-law.ensures.sound c.intern.ensures.later c.args.r t n.stands
    c.requires.held c.requires.named)
    c.intern.ensures.numbered
