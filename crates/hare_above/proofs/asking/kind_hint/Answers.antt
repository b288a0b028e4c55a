use Rattle.std.proofs.Common.{sym, ap, ◌∙◌}
use Rattle.hare_tree.specs.Node.{head}
use Rattle.hare_above.specs.Asked.{asked_as}
use Rattle.hare_above.proofs.asking.kind_hint.Goals as goal

pub returns-in-Assign-clause-value : goal.returns-in-Assign-clause-value
returns-in-Assign-clause-value c w p = c.assigned_hint.ensures.value w
    ∙ ap (asked_as w c.args.q.now) (sym c.in-Assign.is ∙ ap (λ t. (head t).kind) c.node.view_is)

pub returns-in-Let-clause-value : goal.returns-in-Let-clause-value
returns-in-Let-clause-value c w p = c.binding_hint.ensures.variable w
    ∙ ap (asked_as w c.args.q.now) (sym c.in-Let.is ∙ ap (λ t. (head t).kind) c.node.view_is)

pub returns-in-Const-clause-value : goal.returns-in-Const-clause-value
returns-in-Const-clause-value c w p = c.binding_hint-in-Const.ensures.constant w
    ∙ ap (asked_as w c.args.q.now) (sym c.in-Const.is ∙ ap (λ t. (head t).kind) c.node.view_is)

pub returns-in-Def-clause-value : goal.returns-in-Def-clause-value
returns-in-Def-clause-value c w p = c.declared_hint.ensures.constant w
    ∙ ap (asked_as w c.args.q.now) (sym c.in-Def.is ∙ ap (λ t. (head t).kind) c.node.view_is)

pub returns-in-GlobalLet-clause-value : goal.returns-in-GlobalLet-clause-value
returns-in-GlobalLet-clause-value c w p = c.declared_hint-in-GlobalLet.ensures.variable w
    ∙ ap (asked_as w c.args.q.now) (sym c.in-GlobalLet.is ∙ ap (λ t. (head t).kind) c.node.view_is)

pub returns-in-GlobalConst-clause-value : goal.returns-in-GlobalConst-clause-value
returns-in-GlobalConst-clause-value c w p = c.declared_hint-in-GlobalConst.ensures.fixed w
    ∙ ap (asked_as w c.args.q.now) (sym c.in-GlobalConst.is ∙ ap (λ t. (head t).kind) c.node.view_is)

pub returns-in-ForEach-clause-value : goal.returns-in-ForEach-clause-value
returns-in-ForEach-clause-value c w p = c.each_hint.ensures.value w
    ∙ ap (asked_as w c.args.q.now) (sym c.in-ForEach.is ∙ ap (λ t. (head t).kind) c.node.view_is)

pub returns-in-Yield-clause-value : goal.returns-in-Yield-clause-value
returns-in-Yield-clause-value c w p = c.yield_hint.ensures.value w
    ∙ ap (asked_as w c.args.q.now) (sym c.in-Yield.is ∙ ap (λ t. (head t).kind) c.node.view_is)

pub returns-in-Match-clause-value : goal.returns-in-Match-clause-value
returns-in-Match-clause-value c w p = c.operand_hint.ensures.matched w
    ∙ ap (asked_as w c.args.q.now) (sym c.in-Match.is ∙ ap (λ t. (head t).kind) c.node.view_is)

pub returns-in-Switch-clause-value : goal.returns-in-Switch-clause-value
returns-in-Switch-clause-value c w p = c.operand_hint-in-Switch.ensures.switched w
    ∙ ap (asked_as w c.args.q.now) (sym c.in-Switch.is ∙ ap (λ t. (head t).kind) c.node.view_is)

pub returns-in-ForEach-clause-defined : goal.returns-in-ForEach-clause-defined
returns-in-ForEach-clause-defined c = c.each_hint.ensures.defined c.args.s.now

pub returns-in-Yield-clause-defined : goal.returns-in-Yield-clause-defined
returns-in-Yield-clause-defined c = c.yield_hint.ensures.defined c.args.s.now c.requires.labels

pub returns-in-Match-clause-defined : goal.returns-in-Match-clause-defined
returns-in-Match-clause-defined c = c.operand_hint.ensures.defined c.args.s.now c.requires.own

pub returns-in-Switch-clause-defined : goal.returns-in-Switch-clause-defined
returns-in-Switch-clause-defined c = c.operand_hint-in-Switch.ensures.defined c.args.s.now c.requires.own
