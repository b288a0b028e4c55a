use Rattle.std.proofs.Common.{◌∙◌, ap, sym, subst, ◌≡◌}
use Rattle.std.specs.Prelude.{IfOk}
use Rattle.std.specs.List.{All}
use Rattle.hare_tree.specs.declared.kind.Kind.TheVariants as kind
use Rattle.hare_types.specs.declared.coercion.Ty.TheVariants as ty
use Rattle.hare_typed.specs.Typed.{kids_of}
use Rattle.hare_typed.specs.Weight.{items_of}
use Rattle.hare_typed.specs.ConstantForms.{own_type}
use Rattle.hare_const.specs.declared.outcome.Outcome.{Outcome}
use Rattle.hare_typed.specs.Sizes.{HasPart}
use Rattle.hare_typed.specs.Settled.{HasParts, components_given}
use Rattle.hare_const.proofs.PartLemmas.{with_given, length_counted}
use Rattle.hare_const.proofs.parts.tuple_value.Goals as goal

pub laid-requires-clause-parts : goal.laid-requires-clause-parts
laid-requires-clause-parts c =
    let own : own_type c.args.t.now ≡ ty.Of c.in-Of.of = sym (ap own_type c.t.view_is) ∙ c.in-Of.is in
    let has : HasParts c.args.s.now (ty.Of c.in-Of.of) (components_given c.args.t.now) =
    subst (λ f. HasParts c.args.s.now f (components_given c.args.t.now)) own c.requires in
    subst (λ ns. All (HasPart c.args.s.now c.in-Of.of) ns) (sym (c.as_slice.ensures.value ∙ c.in_ok-parts.ensures)) has.1

pub returns : goal.returns
returns c =
    let own : ty.Of c.in-Of.of ≡ own_type c.args.t.now = sym c.in-Of.is ∙ ap own_type c.t.view_is in
    let same =
    with_given c.args.s.now (ty.Of c.in-Of.of) (own_type c.args.t.now) c.as_slice.result.now (components_given c.args.t.now) 0
    (items_of kind.Tuple (kids_of c.args.t.now))
    c.args.kids.now (c.as_slice.ensures.value ∙ c.in_ok-parts.ensures) (length_counted 0 (items_of kind.Tuple (kids_of c.args.t.now)))
    own in
    subst (λ (x : Outcome). IfOk c.laid.result (λ o. o ≡ x)) same c.laid.ensures
