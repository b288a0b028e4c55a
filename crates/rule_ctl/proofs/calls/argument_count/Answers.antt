use Rattle.std.proofs.Common.{◌-◌, ap, ◌∙◌}
use Rattle.rule_ctl.proofs.CallLemmas.{arguments_counted}
use Rattle.rule_ctl.proofs.calls.argument_count.Goals as goal

pub returns : goal.returns
returns c = c.saturating_sub.ensures ∙ ap (λ n. n - 2) c.len.ensures ∙ arguments_counted c.args.kids.now
