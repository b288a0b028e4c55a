use Rattle.std.proofs.Common.{ap, sym, ◌∙◌}
use Rattle.hare_rules.specs.Constants.{text_in}
use Rattle.rule_switch.proofs.texts.text_in.Goals as goal

pub returns-in_default-text_words : goal.returns-in_default-text_words
returns-in_default-text_words c = c.in_default-text_words.ensures c.in-Known.objects ∙ sym (ap text_in c.in-Known.is)
