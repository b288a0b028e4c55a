use Rattle.std.proofs.Common.{ap, sym, ◌∙◌}
use Rattle.hare_tree.specs.Node.{head}
use Rattle.hare_rules.specs.Control.{takes_yield}
use Rattle.hare_rules.specs.Judged.{is_type_hint}
use Rattle.rule_judge.specs.Asked.{asks_as}
use Rattle.rule_judge.specs.Turns.{context_in}
use Rattle.rule_ctl.proofs.JumpLemmas.{nearest_bare}
use Rattle.rule_ctl.proofs.hinted.asks_type.Goals as goal

pub returns-in-Let-clause-value : goal.returns-in-Let-clause-value
returns-in-Let-clause-value c f l =
    c.binding_asks.ensures.variable f ∙ ap (asks_as (context_in f c.args.t.now) c.args.i)
    (sym (sym (ap (λ n. (head n).kind) c.node.view_is) ∙ c.in-Let.is))

pub returns-in-Const-clause-value : goal.returns-in-Const-clause-value
returns-in-Const-clause-value c f l =
    c.binding_asks-in-Const.ensures.constant f ∙ ap (asks_as (context_in f c.args.t.now) c.args.i)
    (sym (sym (ap (λ n. (head n).kind) c.node.view_is) ∙ c.in-Const.is))

pub returns-in-Yield-clause-value : goal.returns-in-Yield-clause-value
returns-in-Yield-clause-value c f l =
    let x = context_in f c.args.t.now in
    sym
    (ap (asks_as x c.args.i) (sym (ap (λ n. (head n).kind) c.node.view_is) ∙ c.in-Yield.is)
    ∙ ap is_type_hint (nearest_bare (takes_yield x.head.text) c.args.t.now.case.now.inside.labels))
