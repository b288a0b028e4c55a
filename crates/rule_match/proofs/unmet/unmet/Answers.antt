use Rattle.std.proofs.Common.{ap, sym, ◌∙◌}
use Rattle.hare_tree.specs.Node.{head}
use Rattle.hare_rules.specs.declared.row_id.RowId.{RowId}
use Rattle.rule_judge.specs.Asked.{unmet}
use Rattle.rule_judge.specs.Turns.{context_in}
use Rattle.rule_join.proofs.UnmetLemmas.{told_given}
use Rattle.rule_match.proofs.UnmetLemmas.{told_pattern, told_case}
use Rattle.rule_match.proofs.unmet.unmet.Goals as goal

pub returns-in-MatchPatterns-clause-value : goal.returns-in-MatchPatterns-clause-value
returns-in-MatchPatterns-clause-value c f l =
    c.odd_pattern.ensures f l ∙ told_pattern _ (head c.args.t.now.node.now).place
    ∙ sym (ap (λ (r : RowId). unmet r (context_in f c.args.t.now)) c.in-MatchPatterns.is)

pub returns-in_ok-at-in-MatchDistinct-clause-value : goal.returns-in_ok-at-in-MatchDistinct-clause-value
returns-in_ok-at-in-MatchDistinct-clause-value c f l =
    c.in_ok-at-in-MatchDistinct.ensures ∙ told_case _ (head c.args.t.now.node.now).place
    ∙ sym (ap (λ (r : RowId). unmet r (context_in f c.args.t.now)) c.in-MatchDistinct.is)

pub returns-in_ok-at-in-MatchRestFits-clause-value : goal.returns-in_ok-at-in-MatchRestFits-clause-value
returns-in_ok-at-in-MatchRestFits-clause-value c f l =
    c.in_ok-at-in-MatchRestFits.ensures.value f l ∙ told_given _ (head c.args.t.now.node.now).place
    ∙ sym (ap (λ (r : RowId). unmet r (context_in f c.args.t.now)) c.in-MatchRestFits.is)
