use Rattle.std.proofs.Common.{◌∙◌, ap, sym}
use Rattle.hare_types.specs.declared.coercion.Ty.TheVariants as ty
use Rattle.hare_typed.specs.Typed.{head_of}
use Rattle.hare_typed.specs.ConstantForms as forms
use Rattle.hare_typed.specs.Order.{kid_from_front}
use Rattle.hare_const.proofs.PartLemmas.{kid_there, kid_absent, no_offset}
use Rattle.hare_const.proofs.measures.part_with_offset.Goals as goal

pub returns : goal.returns
returns c =
    c.part_named.ensures
    ∙ ap (λ u. forms.part_named c.args.s.now (ty.Of c.args.whole) (head_of u))
    (kid_there c.args.t.now c.in-Some.field.now _ _ c.t.inside.kids 0 c.t.view_is c.in-Some.ensures.found)
    ∙ ap (λ f. forms.part_named c.args.s.now f (head_of (kid_from_front 0 c.args.t.now))) (sym c.requires)

pub unreachable-requires : goal.unreachable-requires
unreachable-requires c =
    no_offset c.args.s.now c.args.t.now c.args.whole (kid_absent c.args.t.now _ _ c.t.inside.kids 0 c.t.view_is c.in-None.ensures.none)
    c.requires
