use Rattle.std.proofs.lemmas.Result.{IfOk-weaker}
use Rattle.rule_judge.proofs.DefinedLemmas.{made_defined}
use Rattle.rule_types.proofs.KnownLemmas.{known_row}
use Rattle.rule_types.proofs.made.entered.Goals as goal

pub returns-clause-known : goal.returns-clause-known
returns-clause-known c = IfOk-weaker c.intern.result _ _ (λ t n h. known_row c.intern.new.self t c.args.r n.stands h)
    c.intern.ensures.numbered

pub returns-clause-defined : goal.returns-clause-defined
returns-clause-defined c =
    IfOk-weaker c.intern.result _ _
    (λ t n named held. made_defined c.args.s.now c.intern.new.self c.declarations-law.ensures.sound c.intern.ensures.later c.args.r t
    n.stands held named)
    c.intern.ensures.numbered
