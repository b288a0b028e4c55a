use Rattle.std.proofs.Common.{◌≡◌, suc, ◌-◌, take, length, is_some, ap, ◌∙◌, arith}
use Rattle.std.proofs.lemmas.Result.{IfOk-weaker}
use Rattle.hare_rules.specs.Above.{param_at}
use Rattle.hare_rules.specs.Aggregates.{called}
use Rattle.rule_judge.specs.Settings.{setting_of}
use Rattle.rule_ctl.proofs.CallLemmas.{argument_asked}
use Rattle.rule_ctl.proofs.calls.call_asks.Goals as goal

pub returns-clause-value : goal.returns-clause-value
returns-clause-value c =
    let e : length (take c.args.i c.args.t.now.kids.now) ≡ suc (c.kids_before-before.result - 1) = omega arith in
    IfOk-weaker c.has_param.result _ _
    (λ b h f l.
    let w = setting_of f c.args.t.now.decls.now in
    h f l ∙ ap (λ m. is_some (param_at (called w m) (c.kids_before-before.result - 1))) c.callee_meaning.ensures
    ∙ argument_asked w c.args.t.now.kids.now c.args.i (c.kids_before-before.result - 1) e)
    c.has_param.ensures.value
