use Rattle.std.proofs.Common.{ap, ◌∙◌, is_some}
use Rattle.hare_rules.specs.Aggregates.{function_called}
use Rattle.rule_judge.specs.Turns.{context_in}
use Rattle.rule_ctl.proofs.CallLemmas.{counted}
use Rattle.rule_ctl.proofs.calls.is_callable.Goals as goal

pub returns : goal.returns
returns c f = c.is_some.ensures ∙ ap is_some (c.called_param_count.ensures f) ∙ counted (function_called (context_in f c.args.t.now))
