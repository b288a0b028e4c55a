use Rattle.rule_judge.specs.Turns.{context_in, kind_in}
use Rattle.rule_switch.proofs.CaseLemmas.{switch_typed}
use Rattle.rule_switch.proofs.operand.own_type.Goals as goal

pub returns-clause-value : goal.returns-clause-value
returns-clause-value c f l = switch_typed (context_in f c.args.t.now) (kind_in c.args.t.now) c.in_ok-joined.joined c.requires.kind
    (c.in_ok-joined.ensures.value f l)
