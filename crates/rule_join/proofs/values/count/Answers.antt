use Rattle.std.proofs.Common.{◌-◌, ap, ◌∙◌}
use Rattle.rule_join.proofs.ValueLemmas.{case_count}
use Rattle.rule_join.proofs.values.count.Goals as goal

pub returns-in-Cases : goal.returns-in-Cases
returns-in-Cases c = c.saturating_sub.ensures ∙ ap (λ n. n - 1) c.len-in-Cases.ensures ∙ case_count c.args.v c.args.t.now c.in-Cases.is
