use Rattle.std.proofs.Common.{Bool, cond, Some, None, ap, ap₂, sym, ◌∙◌}
use Rattle.hare_tree.specs.declared.place.Place.{Place}
use Rattle.hare_rules.specs.Rows.{stands}
use Rattle.hare_rules.specs.declared.row_id.RowId.{RowId}
use Rattle.hare_rules.specs.declared.row_id.RowId.TheVariants as row
use Rattle.rule_judge.specs.Asked.{unmet}
use Rattle.rule_judge.specs.Turns.{context_in}
use Rattle.rule_ctl.proofs.declarations.unmet.Goals as goal

pub returns-in-BindingDefault-clause-value : goal.returns-in-BindingDefault-clause-value
returns-in-BindingDefault-clause-value c f l =
    c.unless.ensures
    ∙ ap₂ (λ (b : Bool) (p : Place). cond b None (Some p)) (c.has_type.ensures f) (c.value_place.ensures f)
    ∙ sym (ap (λ (r : RowId). unmet r (context_in f c.args.t.now)) c.in-BindingDefault.is)

pub returns-in_ok-met-in-BindingHasSize-clause-value : goal.returns-in_ok-met-in-BindingHasSize-clause-value
returns-in_ok-met-in-BindingHasSize-clause-value c f l =
    c.unless-in-BindingHasSize.ensures
    ∙ ap₂ (λ (b : Bool) (p : Place). cond b None (Some p)) (c.in_ok-met-in-BindingHasSize.ensures.value f l) (c.type_place.ensures f)
    ∙ sym (ap (λ (r : RowId). unmet r (context_in f c.args.t.now)) c.in-BindingHasSize.is)

pub returns-in-BindingConstant-clause-value : goal.returns-in-BindingConstant-clause-value
returns-in-BindingConstant-clause-value c f l =
    let x = context_in f c.args.t.now in
    sym (ap (λ (r : RowId). unmet r x) c.in-BindingConstant.is ∙ ap (λ (b : Bool). cond b None (Some (stands row.BindingConstant x)))
    (c.requires.needs f))

pub returns-in-DefScalar-clause-value : goal.returns-in-DefScalar-clause-value
returns-in-DefScalar-clause-value c f l =
    c.unless-in-DefScalar.ensures
    ∙ ap₂ (λ (b : Bool) (p : Place). cond b None (Some p)) (c.has_scalar_type.ensures f l) (c.value_place-in-DefScalar.ensures f)
    ∙ sym (ap (λ (r : RowId). unmet r (context_in f c.args.t.now)) c.in-DefScalar.is)
