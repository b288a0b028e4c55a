use Rattle.std.proofs.Common.{ap, sym, ◌∙◌}
use Rattle.std.specs.Prelude.{option_map}
use Rattle.hare_rules.specs.Constants.{text_label}
use Rattle.rule_switch.proofs.labels.text_label.Goals as goal

pub returns-in-Some : goal.returns-in-Some
returns-in-Some c = ap text_label (sym (ap (option_map (λ v. v.items)) c.in-Some.is) ∙ c.in_ok-text.ensures)

pub returns-in-None : goal.returns-in-None
returns-in-None c = ap text_label (sym (ap (option_map (λ v. v.items)) c.in-None.is) ∙ c.in_ok-text.ensures)
