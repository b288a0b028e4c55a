use Rattle.std.proofs.Common.{ap, sym, ◌∙◌}
use Rattle.hare_rules.specs.Aggregates.{called}
use Rattle.rule_judge.specs.Settings.{setting_of}
use Rattle.rule_ctl.specs.Calls.{count_of}
use Rattle.rule_ctl.proofs.calls.param_count.Goals as goal

pub returns-in-Rt : goal.returns-in-Rt
returns-in-Rt c f = c.runtime_param_count.ensures f ∙ sym (ap (λ m. count_of (called (setting_of f c.args.decls.now) m)) c.in-Rt.is)
