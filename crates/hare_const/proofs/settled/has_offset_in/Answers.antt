use Rattle.std.proofs.Common.{◌∙◌, sym, subst, [], ◌∷◌}
use Rattle.std.proofs.lemmas.List.Elements.{All-nil, All-cons, recursion_from_All}
use Rattle.hare_typed.specs.Sizes.{HasPart}
use Rattle.hare_typed.specs.Settled.{HasParts, part_with_offset}
use Rattle.hare_const.proofs.settled.has_offset_in.Goals as goal

pub part_with_offset-requires : goal.part_with_offset-requires
part_with_offset-requires c = c.requires ∙ c.in-Of.is

pub returns-then-fits : goal.returns-then-fits
returns-then-fits c =
    let s = c.args.s.now in
    let n = part_with_offset s c.args.t.now in
    let P = HasPart s c.in-Of.of in (
      λ e.
          let here : HasPart s c.in-Of.of n = subst P c.part_with_offset.ensures (c.has_part.ensures.0 e) in
          subst (λ f. HasParts s f (n ∷ [])) (sym c.in-Of.is) (c.fits.ensures.0 c.if-fits.true, All-cons P n [] here (All-nil P)),
      λ h.
          let parts = subst (λ f. HasParts s f (n ∷ [])) c.in-Of.is h in
          c.has_part.ensures.1 (subst P (sym c.part_with_offset.ensures) (recursion_from_All P (n ∷ []) parts.1).0),
    )
