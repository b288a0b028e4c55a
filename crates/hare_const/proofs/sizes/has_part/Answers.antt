use Rattle.std.proofs.Common.{◌<◌, sym, length, arith}
use Rattle.hare_typed.specs.Sizes.{parts_in}
use Rattle.hare_const.proofs.SizeLemmas.{has_part, part_within, no_part}
use Rattle.hare_const.proofs.sizes.has_part.Goals as goal

pub returns-in-Some : goal.returns-in-Some
returns-in-Some c =
    let s = c.args.s.now in
    let row = c.in-Some.row.now in (
      λ e.
          let part : c.args.k < length (parts_in row) = grind (arith, e, c.part_count.ensures) in
          has_part s c.args.t c.args.k row c.requires (sym c.in-Some.ensures) part,
      λ h.
          let part : c.args.k < length (parts_in row) = part_within s c.args.t c.args.k row c.requires (sym c.in-Some.ensures) h in
          grind (arith, part, c.part_count.ensures),
    )

pub returns-in-None : goal.returns-in-None
returns-in-None c = (
  λ e. absurd cc,
  λ h. absurd (no_part c.args.s.now c.args.t c.args.k c.requires (sym c.in-None.ensures) h),
)
