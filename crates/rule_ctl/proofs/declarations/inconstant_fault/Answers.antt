use Rattle.std.proofs.Common.{ap, sym, ◌∙◌}
use Rattle.hare_tree.specs.Node.{head}
use Rattle.hare_types.proofs.LaterLemmas.{later_trans}
use Rattle.hare_rules.specs.declared.row_id.RowId.TheVariants as row
use Rattle.rule_judge.specs.Turns.{context_in, kind_in}
use Rattle.rule_ctl.proofs.DeclarationLemmas.{default_fails, size_fails, constant_fails, refused, found_stands, none_stands}
use Rattle.rule_ctl.proofs.declarations.inconstant_fault.Goals as goal

pub returns-then-not-has_type-clause-fault : goal.returns-then-not-has_type-clause-fault
returns-then-not-has_type-clause-fault c f l =
    let x = context_in f c.args.t.now in
    refused x row.BindingDefault _ _ (default_fails x (kind_in c.args.t.now) c.requires.kind
    (sym (c.has_type.ensures f) ∙ c.if-not-has_type.true)) (c.value_place.ensures f)
    c.fault.ensures

pub returns-then-not-sized-clause-fault : goal.returns-then-not-sized-clause-fault
returns-then-not-sized-clause-fault c f l =
    let x = context_in f c.args.t.now in
    refused x row.BindingHasSize _ _
    (size_fails x (kind_in c.args.t.now) c.requires.kind (sym (c.has_type.ensures f) ∙ c.if-not-has_type.false)
    (sym (c.in_ok-sized.ensures.value f l) ∙ c.if-not-sized.true))
    (c.type_place.ensures f) c.fault-then-not-sized.ensures

pub returns-in-Some-clause-fault : goal.returns-in-Some-clause-fault
returns-in-Some-clause-fault c f l =
    let x = context_in f c.args.t.now in
    let before = later_trans c.args.s.now c.has_sized_type.new.s f c.has_sized_type.ensures.grown.later l in
    refused x row.BindingConstant _ _
    (constant_fails x (kind_in c.args.t.now) c.requires.kind (sym (c.has_type.ensures f) ∙ c.if-not-has_type.false)
    (sym (c.in_ok-sized.ensures.value f l) ∙ c.if-not-sized.false) (c.requires.not_constant f))
    (found_stands x c.args.inconstant c.in-Some.place (c.requires.inconstant f before (c.requires.not_constant f)) c.in-Some.is)
    c.fault-in-Some.ensures

pub returns-in-None-clause-fault : goal.returns-in-None-clause-fault
returns-in-None-clause-fault c f l =
    let x = context_in f c.args.t.now in
    let before = later_trans c.args.s.now c.has_sized_type.new.s f c.has_sized_type.ensures.grown.later l in
    refused x row.BindingConstant _ _
    (constant_fails x (kind_in c.args.t.now) c.requires.kind (sym (c.has_type.ensures f) ∙ c.if-not-has_type.false)
    (sym (c.in_ok-sized.ensures.value f l) ∙ c.if-not-sized.false) (c.requires.not_constant f))
    (ap (λ n. (head n).place) c.node.view_is ∙ none_stands x c.args.inconstant (c.requires.inconstant f before (c.requires.not_constant f))
    c.in-None.is)
    c.fault-in-None.ensures
