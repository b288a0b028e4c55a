use Rattle.std.proofs.Common.{refl, sym, ◌∙◌, inl, inr}
use Rattle.hare_layout.proofs.ReduceLemmas.{measured-ids, other-spreads, other-unsized, other-sized, other-passes, other-reduction}
use Rattle.hare_layout.proofs.reduce.reduce_other.Goals as goal

pub lacks_size-requires : goal.lacks_size-requires
lacks_size-requires c = measured-ids c.args.s.now c.args.r.now.row c.requires.within

pub returns-then-lacks_size-clause-err : goal.returns-then-lacks_size-clause-err
returns-then-lacks_size-clause-err c =
    inr (
      other-spreads c.args.s.now c.args.r.now c.requires.other c.args.place,
      inl (
        refl,
        (
          other-unsized c.args.s.now c.args.r.now c.requires.other (measured-ids c.args.s.now c.args.r.now.row c.requires.within)
              (sym c.lacks_size.ensures ∙ c.if-lacks_size.true),
          refl,
        ),
      ),
    )

pub returns-clause-passes : goal.returns-clause-passes
returns-clause-passes c =
    other-passes c.args.s.now c.args.r.now c.requires.other c.args.place
    (other-sized c.args.s.now c.args.r.now c.requires.other (sym c.lacks_size.ensures ∙ c.if-lacks_size.false))

pub returns-clause-ok : goal.returns-clause-ok
returns-clause-ok c = other-reduction c.args.s.now c.args.r.now c.requires.other c.requires.within c.in_ok-row.row c.in_ok-row.ensures
