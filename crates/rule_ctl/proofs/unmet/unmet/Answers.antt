use Rattle.std.proofs.Common.{Bool, cond, Some, None, ap, ap₂, sym, ◌∙◌}
use Rattle.hare_tree.specs.Node.{head}
use Rattle.hare_tree.specs.declared.place.Place.{Place}
use Rattle.hare_typed.specs.Order.{tree_from_front}
use Rattle.hare_rules.specs.Context.{is_there}
use Rattle.hare_rules.specs.Control.{takes_yield}
use Rattle.hare_rules.specs.Rows.{stands}
use Rattle.hare_rules.specs.declared.row_id.RowId.{RowId}
use Rattle.hare_rules.specs.declared.row_id.RowId.TheVariants as row
use Rattle.rule_judge.specs.Asked.{unmet}
use Rattle.rule_judge.specs.Turns.{context_in}
use Rattle.rule_ctl.proofs.JumpLemmas.{yield_passes}
use Rattle.rule_ctl.proofs.unmet.unmet.Goals as goal

pub returns-in-TryUndeferred-clause-value : goal.returns-in-TryUndeferred-clause-value
returns-in-TryUndeferred-clause-value c f l =
    c.unless-in-TryUndeferred.ensures
    ∙ ap₂ (λ (b : Bool) (p : Place). cond b None (Some p)) (c.is_undeferred.ensures.tried f) (ap (λ n. (head n).place) c.node.view_is)
    ∙ sym (ap (λ (r : RowId). unmet r (context_in f c.args.t.now)) c.in-TryUndeferred.is)

pub returns-in-BindingDefault-clause-value : goal.returns-in-BindingDefault-clause-value
returns-in-BindingDefault-clause-value c f l =
    c.unless-in-BindingDefault.ensures
    ∙ ap₂ (λ (b : Bool) (p : Place). cond b None (Some p)) (c.has_type.ensures f) (c.value_place.ensures f)
    ∙ sym (ap (λ (r : RowId). unmet r (context_in f c.args.t.now)) c.in-BindingDefault.is)

pub returns-in-JumpTarget-clause-value : goal.returns-in-JumpTarget-clause-value
returns-in-JumpTarget-clause-value c f l =
    c.unless-in-JumpTarget.ensures
    ∙ ap₂ (λ (b : Bool) (p : Place). cond b None (Some p)) (c.has_loop.ensures f) (ap (λ n. (head n).place) c.node.view_is)
    ∙ sym (ap (λ (r : RowId). unmet r (context_in f c.args.t.now)) c.in-JumpTarget.is)

pub returns-in-JumpInside-clause-value : goal.returns-in-JumpInside-clause-value
returns-in-JumpInside-clause-value c f l =
    c.unless-in-JumpInside.ensures
    ∙ ap₂ (λ (b : Bool) (p : Place). cond b None (Some p)) (c.has_loop_inside.ensures f) (ap (λ n. (head n).place) c.node.view_is)
    ∙ sym (ap (λ (r : RowId). unmet r (context_in f c.args.t.now)) c.in-JumpInside.is)

pub returns-in-ReturnUndeferred-clause-value : goal.returns-in-ReturnUndeferred-clause-value
returns-in-ReturnUndeferred-clause-value c f l =
    c.unless-in-ReturnUndeferred.ensures
    ∙ ap₂ (λ (b : Bool) (p : Place). cond b None (Some p)) (c.is_undeferred-in-ReturnUndeferred.ensures.returned f)
    (ap (λ n. (head n).place) c.node.view_is)
    ∙ sym (ap (λ (r : RowId). unmet r (context_in f c.args.t.now)) c.in-ReturnUndeferred.is)

pub returns-in-YieldTarget-clause-value : goal.returns-in-YieldTarget-clause-value
returns-in-YieldTarget-clause-value c f l =
    c.unless-in-YieldTarget.ensures
    ∙ ap₂ (λ (b : Bool) (p : Place). cond b None (Some p)) (c.has_block.ensures f) (ap (λ n. (head n).place) c.node.view_is)
    ∙ sym (ap (λ (r : RowId). unmet r (context_in f c.args.t.now)) c.in-YieldTarget.is)

pub returns-in-YieldInside-clause-value : goal.returns-in-YieldInside-clause-value
returns-in-YieldInside-clause-value c f l =
    c.unless-in-YieldInside.ensures
    ∙ ap₂ (λ (b : Bool) (p : Place). cond b None (Some p)) (c.has_block_inside.ensures f) (ap (λ n. (head n).place) c.node.view_is)
    ∙ sym (ap (λ (r : RowId). unmet r (context_in f c.args.t.now)) c.in-YieldInside.is)

pub returns-in_ok-met-in-BindingHasSize-clause-value : goal.returns-in_ok-met-in-BindingHasSize-clause-value
returns-in_ok-met-in-BindingHasSize-clause-value c f l =
    c.unless-in-BindingHasSize.ensures
    ∙ ap₂ (λ (b : Bool) (p : Place). cond b None (Some p)) (c.in_ok-met-in-BindingHasSize.ensures.value f l) (c.type_place.ensures f)
    ∙ sym (ap (λ (r : RowId). unmet r (context_in f c.args.t.now)) c.in-BindingHasSize.is)

pub returns-in-YieldNoValue-clause-value : goal.returns-in-YieldNoValue-clause-value
returns-in-YieldNoValue-clause-value c f l =
    let x = context_in f c.args.t.now in
    let k = c.args.t.now.case.now in
    sym
    (ap (λ (r : RowId). unmet r x) c.in-YieldNoValue.is
    ∙ ap (λ (b : Bool). cond b None (Some (stands row.YieldNoValue x)))
    (yield_passes f (is_there (tree_from_front 0 c.args.t.now.kids.now)) (takes_yield x.head.text) k.inside.labels))
