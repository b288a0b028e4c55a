use Rattle.std.proofs.Common.{Some, ap, sym, ◌∙◌}
use Rattle.hare_known.proofs.FollowedNames.Extents.{extent-at-sized, extent-at-finite}
use Rattle.hare_known.proofs.FollowedNames.Words.{base-at-within, base-at-unsized, base-at-finite}
use Rattle.hare_known.proofs.define.measured.Goals as goal

pub returns-then-is_some-clause-sized : goal.returns-then-is_some-clause-sized
returns-then-is_some-clause-sized c =
    extent-at-sized c.args.s.now c.extent.ensures.sound c.args.t c.extent.result c.extent.ensures.some
    (sym c.is_some.ensures ∙ c.if-is_some.true)

pub returns-then-is_some-clause-finite : goal.returns-then-is_some-clause-finite
returns-then-is_some-clause-finite c =
    extent-at-finite c.args.s.now c.extent.ensures.sound c.args.t c.extent.result c.extent.ensures.some
    (sym c.is_some.ensures ∙ c.if-is_some.true)

pub row-requires : goal.row-requires
row-requires c = base-at-within c.args.s.now c.base.ensures.sound c.args.t c.in_ok-b.b c.in_ok-b.ensures.some

pub returns-clause-sized : goal.returns-clause-sized
returns-clause-sized c =
    base-at-unsized c.args.s.now c.base.ensures.sound c.args.t c.in_ok-b.b c.in_ok-b.ensures.some c.in-Scalar.k
    (c.row.ensures.row ∙ ap Some c.in-Scalar.is) (sym c.if-not-lacks_size.false ∙ c.lacks_size.ensures)

pub returns-clause-finite : goal.returns-clause-finite
returns-clause-finite c =
    base-at-finite c.args.s.now c.base.ensures.sound c.args.t c.in_ok-b.b c.in_ok-b.ensures.some c.in-Scalar.k
    (c.row.ensures.row ∙ ap Some c.in-Scalar.is) (sym c.if-not-lacks_size.false ∙ c.lacks_size.ensures)
