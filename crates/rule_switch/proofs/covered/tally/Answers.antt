use Rattle.std.proofs.Common.{ap, ◌∙◌}
use Rattle.std.specs.Prelude.{if◌then◌else◌}
use Rattle.rule_switch.specs.Labels.{is_number_within, range_told}
use Rattle.rule_switch.proofs.CoverLemmas.{number_labelled}
use Rattle.rule_switch.proofs.covered.tally.Goals as goal

pub returns-then-is_within-clause-value : goal.returns-then-is_within-clause-value
returns-then-is_within-clause-value c f l =
    ap (λ b. if b then 1 else 0)
    (c.if-is_within.ensures
    ∙ ap (is_number_within (range_told c.args.limits))
    (c.number_label-label.ensures f l
    ∙ number_labelled c.args.s.now f c.declarations-law.ensures.sound l c.args.t c.requires.defined c.args.limits c.requires.limits
    c.args.c.now))

pub returns-clause-value : goal.returns-clause-value
returns-clause-value c f l =
    ap (λ b. if b then 1 else 0)
    (c.if-is_within.ensures
    ∙ ap (is_number_within (range_told c.args.limits))
    (c.number_label-label.ensures f l
    ∙ number_labelled c.args.s.now f c.declarations-law.ensures.sound l c.args.t c.requires.defined c.args.limits c.requires.limits
    c.args.c.now))
