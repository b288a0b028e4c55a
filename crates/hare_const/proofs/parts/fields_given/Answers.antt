use Rattle.std.proofs.Common.{◌∙◌, ap, sym, arith, ◌≡◌, ◌++◌, ◌∷◌, [], ◌+◌}
use Rattle.hare_tree.specs.declared.kind.Kind.TheVariants as kind
use Rattle.hare_types.specs.declared.coercion.Ty.TheVariants as ty
use Rattle.hare_typed.specs.Typed.{kids_of, head_of}
use Rattle.hare_typed.specs.Weight.{items_of}
use Rattle.hare_typed.specs.ConstantForms as forms
use Rattle.hare_const.proofs.NodeLemmas.{count-kids}
use Rattle.hare_const.proofs.PartLemmas.{fields_more, fields_all, kid_there}
use Rattle.hare_const.proofs.parts.fields_given.Goals as goal

pub loop-i-preserved : goal.loop-i-preserved
loop-i-preserved c =
    let s = c.args.s.now in
    let t = c.args.t.now in
    let there = kid_there t c.in-Some.field.now _ _ c.t.inside.kids (c.loop-i.i + 1) c.t.view_is c.in-Some.ensures.found in
    fields_more s (ty.Of c.args.of) t c.loop-i.i c.saturating_sub-i-end.result c.part_named.result c.loop-i.places.items
    c.push.new.self.items
    (forms.fields_from s (ty.Of c.args.of) 1 c.saturating_sub-i-end.result t) c.loop-i-test.true c.loop-i.invariant
    (c.part_named.ensures ∙ ap (λ u. forms.part_named s (ty.Of c.args.of) (head_of u)) there)
    (c.in_ok-push.ensures.items ∙ ap (λ n. c.loop-i.places.items ++ n ∷ []) c.in_ok-part_number.ensures)

pub returns : goal.returns
returns c =
    let s = c.args.s.now in
    let t = c.args.t.now in
    let all = count-kids t _ _ c.t.inside.kids c.t.view_is in
    let many : c.saturating_sub-i-end.result ≡ items_of kind.StructLit (kids_of t) =
    omega (arith, all, c.saturating_sub-i-end.ensures, c.len.ensures) in
    fields_all s (ty.Of c.args.of) t c.loop-i.i c.saturating_sub-i-end.result c.loop-i.places.items
    (forms.fields_from s (ty.Of c.args.of) 1 c.saturating_sub-i-end.result t) c.loop-i-test.false c.loop-i.invariant
    ∙ ap (λ n. forms.fields_from s (ty.Of c.args.of) 1 n t) many
    ∙ ap (λ f. forms.fields_from s f 1 (items_of kind.StructLit (kids_of t)) t) (sym c.requires)
