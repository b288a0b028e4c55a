use Rattle.std.proofs.Common.{ap, sym, ◌∙◌}
use Rattle.hare_tree.specs.Node.{head}
use Rattle.hare_rules.specs.declared.row_id.RowId.{RowId}
use Rattle.rule_judge.specs.Asked.{unmet}
use Rattle.rule_judge.specs.Turns.{context_in}
use Rattle.rule_join.proofs.UnmetLemmas.{told_given}
use Rattle.rule_join.proofs.unmet.unmet.Goals as goal

pub returns-in-IfFirstDefault-clause-value : goal.returns-in-IfFirstDefault-clause-value
returns-in-IfFirstDefault-clause-value c f l =
    c.lacking.ensures f l ∙ told_given _ (head c.args.t.now.node.now).place ∙ sym
    (ap (λ (r : RowId). unmet r (context_in f c.args.t.now)) c.in-IfFirstDefault.is)

pub returns-in-BlockFirstDefault-clause-value : goal.returns-in-BlockFirstDefault-clause-value
returns-in-BlockFirstDefault-clause-value c f l =
    c.lacking-in-BlockFirstDefault.ensures f l ∙ told_given _ (head c.args.t.now.node.now).place ∙ sym
    (ap (λ (r : RowId). unmet r (context_in f c.args.t.now)) c.in-BlockFirstDefault.is)

pub returns-in-CaseFirstDefault-clause-value : goal.returns-in-CaseFirstDefault-clause-value
returns-in-CaseFirstDefault-clause-value c f l =
    c.lacking-in-CaseFirstDefault.ensures f l ∙ told_given _ (head c.args.t.now.node.now).place ∙ sym
    (ap (λ (r : RowId). unmet r (context_in f c.args.t.now)) c.in-CaseFirstDefault.is)

pub returns-in_ok-at-in-IfRestFits-clause-value : goal.returns-in_ok-at-in-IfRestFits-clause-value
returns-in_ok-at-in-IfRestFits-clause-value c f l =
    c.in_ok-at-in-IfRestFits.ensures.value f l ∙ told_given _ (head c.args.t.now.node.now).place
    ∙ sym (ap (λ (r : RowId). unmet r (context_in f c.args.t.now)) c.in-IfRestFits.is)

pub returns-in_ok-at-in-BlockRestFits-clause-value : goal.returns-in_ok-at-in-BlockRestFits-clause-value
returns-in_ok-at-in-BlockRestFits-clause-value c f l =
    c.in_ok-at-in-BlockRestFits.ensures.value f l ∙ told_given _ (head c.args.t.now.node.now).place
    ∙ sym (ap (λ (r : RowId). unmet r (context_in f c.args.t.now)) c.in-BlockRestFits.is)

pub returns-in_ok-at-in-CaseRestFits-clause-value : goal.returns-in_ok-at-in-CaseRestFits-clause-value
returns-in_ok-at-in-CaseRestFits-clause-value c f l =
    c.in_ok-at-in-CaseRestFits.ensures.value f l ∙ told_given _ (head c.args.t.now.node.now).place
    ∙ sym (ap (λ (r : RowId). unmet r (context_in f c.args.t.now)) c.in-CaseRestFits.is)
