use Rattle.std.proofs.Common.{sym, ◌∙◌}
use Rattle.rule_switch.proofs.LabelLemmas.{label_text, label_number}
use Rattle.rule_switch.proofs.labels.label_of.Goals as goal

pub returns-then-is_str : goal.returns-then-is_str
returns-then-is_str c f l = c.in_ok-text.ensures ∙
    label_text f c.args.to.now c.args.c.now c.in-Some.t c.in-Some.is (sym c.if-is_str.true ∙ c.is_str.ensures f l)

pub returns : goal.returns
returns c f l = c.number_label.ensures f l ∙ label_number f c.args.to.now c.args.c.now c.in-Some.t c.in-Some.is (sym c.if-is_str.false ∙
    c.is_str.ensures f l)
