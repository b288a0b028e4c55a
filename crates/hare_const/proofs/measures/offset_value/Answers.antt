use Rattle.std.proofs.Common.{◌≡◌, ◌∙◌, sym, subst, ◌∷◌, []}
use Rattle.std.proofs.lemmas.List.Elements.{recursion_from_All}
use Rattle.hare_types.specs.declared.coercion.Ty.TheVariants as ty
use Rattle.hare_typed.specs.Sizes.{HasPart}
use Rattle.hare_typed.specs.Settled.{type_with_offset, part_with_offset, HasParts}
use Rattle.hare_const.proofs.PartLemmas.{type_with_parts}
use Rattle.hare_const.proofs.measures.offset_value.Goals as goal

pub unreachable-requires : goal.unreachable-requires
unreachable-requires c =
    let of = type_with_parts c.args.s.now (type_with_offset c.args.s.now c.args.t.now) (part_with_offset c.args.s.now c.args.t.now ∷ [])
    c.requires in
    c.in_default.not-Of of.0 (c.type_with_offset.ensures ∙ of.1)

pub part_with_offset-requires : goal.part_with_offset-requires
part_with_offset-requires c = sym c.type_with_offset.ensures ∙ c.in-Of.is

pub offset_of-requires-clause-part : goal.offset_of-requires-clause-part
offset_of-requires-clause-part c =
    let s = c.args.s.now in
    let t = c.args.t.now in
    let whole : type_with_offset s t ≡ ty.Of c.in-Of.whole = sym c.type_with_offset.ensures ∙ c.in-Of.is in
    let has : HasParts s (ty.Of c.in-Of.whole) (part_with_offset s t ∷ []) =
    subst (λ f. HasParts s f (part_with_offset s t ∷ [])) whole c.requires in
    let part : c.in_ok-part.part ≡ part_with_offset s t = c.in_ok-part.ensures ∙ c.part_with_offset.ensures in
    subst (HasPart s c.in-Of.whole) (sym part) (recursion_from_All (HasPart s c.in-Of.whole) (part_with_offset s t ∷ []) has.1).0
