use Rattle.rule_judge.specs.Turns.{context_in}
use Rattle.rule_switch.proofs.CoverLemmas.{labels_are, covered_default, covered_all}
use Rattle.rule_switch.proofs.covered.is_covered.Goals as goal

pub returns-then-has_default-clause-value : goal.returns-then-has_default-clause-value
returns-then-has_default-clause-value c f l =
    covered_default (context_in f c.args.t.now) _ (labels_are f c.args.t.now c.in_ok-to.to (c.in_ok-to.ensures.value f l))
    (c.if-has_default.ensures f c.in_ok-to.to)

pub returns-clause-value : goal.returns-clause-value
returns-clause-value c f l =
    covered_all (context_in f c.args.t.now) _ (labels_are f c.args.t.now c.in_ok-to.to (c.in_ok-to.ensures.value f l))
    c.in_ok-to.to c.are_all.result (c.if-has_default.ensures f c.in_ok-to.to) (c.in_ok-to.ensures.value f l) (c.are_all.ensures f l)
