use Rattle.std.proofs.lemmas.Result.{IfOk-weaker}
use Rattle.hare_rules.specs.Words.{nomem}
use Rattle.rule_judge.proofs.UnionLemmas.{name_defined}
use Rattle.rule_judge.proofs.unions.nomem.Goals as goal

pub returns-clause-defined : goal.returns-clause-defined
returns-clause-defined c =
    IfOk-weaker c.intern.result _ _ (λ t n. name_defined c.args.s.now c.intern.new.self c.declarations-law.ensures.sound
    c.intern.ensures.later t nomem n.stands c.requires) c.intern.ensures.numbered
