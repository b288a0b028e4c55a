use Rattle.std.proofs.Common.{ap, sym, ◌∙◌}
use Rattle.hare_tree.specs.Node.{head}
use Rattle.hare_rules.specs.declared.row_id.RowId.{RowId}
use Rattle.rule_judge.specs.Asked.{unmet}
use Rattle.rule_judge.specs.Turns.{context_in}
use Rattle.rule_join.proofs.UnmetLemmas.{told_given}
use Rattle.rule_switch.proofs.RepeatLemmas.{told_label, told_value}
use Rattle.rule_switch.proofs.unmet.unmet.Goals as goal

pub returns-in-SwitchConstants-clause-value : goal.returns-in-SwitchConstants-clause-value
returns-in-SwitchConstants-clause-value c f l =
    c.odd_value.ensures f ∙ told_value _ (head c.args.t.now.node.now).place ∙
    sym (ap (λ (r : RowId). unmet r (context_in f c.args.t.now)) c.in-SwitchConstants.is)

pub returns-in_ok-at-in-SwitchDistinct-clause-value : goal.returns-in_ok-at-in-SwitchDistinct-clause-value
returns-in_ok-at-in-SwitchDistinct-clause-value c f l =
    c.in_ok-at-in-SwitchDistinct.ensures.value f l ∙ told_label _ (head c.args.t.now.node.now).place
    ∙ sym (ap (λ (r : RowId). unmet r (context_in f c.args.t.now)) c.in-SwitchDistinct.is)

pub returns-in_ok-at-in-SwitchRestFits-clause-value : goal.returns-in_ok-at-in-SwitchRestFits-clause-value
returns-in_ok-at-in-SwitchRestFits-clause-value c f l =
    c.in_ok-at-in-SwitchRestFits.ensures.value f l ∙ told_given _ (head c.args.t.now.node.now).place
    ∙ sym (ap (λ (r : RowId). unmet r (context_in f c.args.t.now)) c.in-SwitchRestFits.is)
