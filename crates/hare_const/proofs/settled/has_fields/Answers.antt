use Rattle.std.proofs.Common.{◌≡◌, ◌∙◌, ap, sym, subst, refl, arith, ◌+◌, ◌-◌}
use Rattle.std.specs.List.{All}
use Rattle.hare_tree.specs.declared.kind.Kind.TheVariants as kind
use Rattle.hare_types.specs.declared.coercion.Ty.TheVariants as ty
use Rattle.hare_typed.specs.Typed.{kids_of, head_of}
use Rattle.hare_typed.specs.Weight.{items_of}
use Rattle.hare_typed.specs.ConstantForms.{part_named, fields_from}
use Rattle.hare_typed.specs.Sizes.{HasPart}
use Rattle.hare_const.proofs.NodeLemmas.{count-kids}
use Rattle.hare_const.proofs.PartLemmas.{kid_there}
use Rattle.hare_const.proofs.SettledLemmas.{field_there, field_here, fields_there}
use Rattle.hare_const.proofs.settled.has_fields.Goals as goal

pub loop-i-init : goal.loop-i-init
loop-i-init c =
    let s = c.args.s.now in
    let n = c.saturating_sub-i-end.result in
    let all : n ≡ n - 0 = omega arith in
    let P = HasPart s c.args.of in
    record {
      found = λ p. subst (λ k. All P (fields_from s (ty.Of c.args.of) 1 k c.args.t.now)) (sym all) p;
      back = λ p. subst (λ k. All P (fields_from s (ty.Of c.args.of) 1 k c.args.t.now)) all p;
    }

pub loop-i-preserved : goal.loop-i-preserved
loop-i-preserved c =
    let s = c.args.s.now in
    let t = c.args.t.now in
    let n = c.saturating_sub-i-end.result in
    let there = kid_there t c.in-Some.field.now _ _ c.t.inside.kids (c.loop-i.i + 1) c.t.view_is c.in-Some.ensures.found in
    let named = c.part_named.ensures ∙ ap (λ u. part_named s (ty.Of c.args.of) (head_of u)) there in
    record {
      found =
          field_there s (ty.Of c.args.of) t c.args.of c.loop-i.i n c.part_named.result
          (All (HasPart s c.args.of) (fields_from s (ty.Of c.args.of) 1 n t)) c.loop-i-test.true named
          (c.has_part.ensures.0 c.if-not-has_part.false) c.loop-i.invariant.found;
      back = λ p.
          (field_here s (ty.Of c.args.of) t c.args.of c.loop-i.i n c.part_named.result c.loop-i-test.true named
          (c.loop-i.invariant.back p)).1;
    }

pub returns-then-not-has_part : goal.returns-then-not-has_part
returns-then-not-has_part c =
    let s = c.args.s.now in
    let t = c.args.t.now in
    let n = c.saturating_sub-i-end.result in
    let there = kid_there t c.in-Some.field.now _ _ c.t.inside.kids (c.loop-i.i + 1) c.t.view_is c.in-Some.ensures.found in
    let named = c.part_named.ensures ∙ ap (λ u. part_named s (ty.Of c.args.of) (head_of u)) there in
    let all = count-kids t _ _ c.t.inside.kids c.t.view_is in
    let many : n ≡ items_of kind.StructLit (kids_of t) = omega (arith, all, c.saturating_sub-i-end.ensures, c.len.ensures) in (
      λ e. absurd cc,
      λ h.
          let own : All (HasPart s c.args.of) (fields_from s (ty.Of c.args.of) 1 (items_of kind.StructLit (kids_of t)) t)
          = subst (λ f. All (HasPart s c.args.of) (fields_from s f 1 (items_of kind.StructLit (kids_of t)) t)) c.requires.own h in
          let whole : All (HasPart s c.args.of) (fields_from s (ty.Of c.args.of) 1 n t)
          = subst (λ k. All (HasPart s c.args.of) (fields_from s (ty.Of c.args.of) 1 k t)) (sym many) own in
          let here =
          (field_here s (ty.Of c.args.of) t c.args.of c.loop-i.i n c.part_named.result c.loop-i-test.true named
          (c.loop-i.invariant.back whole)).0 in
          let both = sym c.if-not-has_part.true ∙ c.has_part.ensures.1 here in
          absurd cc,
    )

pub returns : goal.returns
returns c =
    let s = c.args.s.now in
    let t = c.args.t.now in
    let all = count-kids t _ _ c.t.inside.kids c.t.view_is in
    let many : c.saturating_sub-i-end.result ≡ items_of kind.StructLit (kids_of t) =
    omega (arith, all, c.saturating_sub-i-end.ensures, c.len.ensures) in
    let whole : All (HasPart s c.args.of) (fields_from s (ty.Of c.args.of) 1 c.saturating_sub-i-end.result t)
    = fields_there s (ty.Of c.args.of) t c.args.of c.loop-i.i c.saturating_sub-i-end.result _ c.loop-i-test.false
    c.loop-i.invariant.found in (
      λ e.
          subst (λ f. All (HasPart s c.args.of) (fields_from s f 1 (items_of kind.StructLit (kids_of t)) t)) (sym c.requires.own)
          (subst (λ n. All (HasPart s c.args.of) (fields_from s (ty.Of c.args.of) 1 n t)) many whole),
      λ h. refl,
    )
