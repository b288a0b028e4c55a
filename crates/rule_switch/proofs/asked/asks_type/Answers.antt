use Rattle.rule_judge.specs.Turns.{context_in, kind_in}
use Rattle.rule_switch.proofs.CaseLemmas.{cases_asked}
use Rattle.rule_switch.proofs.asked.asks_type.Goals as goal

pub returns-clause-value : goal.returns-clause-value
returns-clause-value c f l = cases_asked (context_in f c.args.t.now) c.args.i (kind_in c.args.t.now) c.asks_case.result c.requires
    (c.asks_case.ensures f)
