use Rattle.std.proofs.Common.{not, ap, sym, ◌∙◌}
use Rattle.hare_rules.specs.Context.{is_there}
use Rattle.rule_switch.proofs.OddLemmas.{first_kid}
use Rattle.rule_switch.proofs.covered.is_default.Goals as goal

pub returns : goal.returns
returns c = ap not (c.is_there.ensures ∙ sym (ap is_there (first_kid c.args.case.now _ _ _ c.case.view_is)))
