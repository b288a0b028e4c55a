use Rattle.std.proofs.Common.{ap, ◌∙◌}
use Rattle.hare_rules.specs.Types.{type_by}
use Rattle.rule_judge.specs.Turns.{context_in, kind_in}
use Rattle.rule_match.proofs.UnmetLemmas.{is_match}
use Rattle.rule_match.proofs.cases.own_type.Goals as goal

pub returns-clause-value : goal.returns-clause-value
returns-clause-value c f l =
    ap (type_by (context_in f c.args.t.now)) (is_match (kind_in c.args.t.now) c.requires.kind) ∙ c.in_ok-a.ensures.value f l
