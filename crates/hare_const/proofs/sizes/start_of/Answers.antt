use Rattle.std.proofs.Common.{◌≡◌, ◌+◌, ◌-◌, ◌∷◌, Some, ap, sym, ◌∙◌, subst, arith}
use Rattle.std.specs.Prelude.{slice_get}
use Rattle.hare_types.specs.Layout.{field_start}
use Rattle.hare_types.specs.ByIds.{extent_at}
use Rattle.hare_typed.specs.Sizes.{parts_in}
use Rattle.hare_const.proofs.SizeLemmas.{known_next, start_next, start_here}
use Rattle.hare_const.proofs.sizes.start_of.Goals as goal

pub returns-in-None : goal.returns-in-None
returns-in-None c xs e =
    let rest = c.loop-i.invariant.value xs e in
    let next = known_next (extent_at c.args.s.now) (parts_in c.args.row.now) c.loop-i.i c.part_at.result rest.0 c.part_at.ensures rest.1 in
    let both = c.in-None.ensures.value ∙ next.2 in
    absurd cc

pub loop-i-preserved : goal.loop-i-preserved
loop-i-preserved c = record {
  end = omega (arith, c.round_up.ensures.within, c.in-Some.ensures.modest.size, c.loop-i.invariant.end);
  value = λ xs e.
      let rest = c.loop-i.invariant.value xs e in
      let next = known_next (extent_at c.args.s.now)
      (parts_in c.args.row.now) c.loop-i.i c.part_at.result rest.0 c.part_at.ensures rest.1 in
      let both = c.in-Some.ensures.value ∙ next.2 in
      let same : c.in-Some.x ≡ next.0 = cc in (
        next.1,
        next.3,
        ap (λ n. field_start (n + c.in-Some.x.size) next.1 (c.args.k - (c.loop-i.i + 1))) c.round_up.ensures.value
            ∙ sym (start_next c.loop-i.end c.in-Some.x next.1 c.args.k c.loop-i.i c.loop-i-test.true)
            ∙ ap (λ x. field_start c.loop-i.end (x ∷ next.1) (c.args.k - c.loop-i.i)) same
            ∙ ap (λ l. field_start c.loop-i.end l (c.args.k - c.loop-i.i)) (sym next.4) ∙ rest.2,
      );
}

pub returns-in-Some-extent_of : goal.returns-in-Some-extent_of
returns-in-Some-extent_of c xs e =
    let rest = c.loop-i.invariant.value xs e in
    let last : c.args.k ≡ c.loop-i.i = omega arith in
    let part = subst (λ m. slice_get (parts_in c.args.row.now) m ≡ Some c.part_at-2.result) last c.part_at-2.ensures in
    let next = known_next (extent_at c.args.s.now) (parts_in c.args.row.now) c.loop-i.i c.part_at-2.result rest.0 part rest.1 in
    let both = c.in-Some-extent_of.ensures.value ∙ next.2 in
    let same : c.in-Some-extent_of.x ≡ next.0 = cc in
    ap Some c.round_up-in-Some-extent_of.ensures.value
    ∙ sym (start_here c.loop-i.end c.in-Some-extent_of.x next.1 c.args.k c.loop-i.i (omega arith))
    ∙ ap (λ x. field_start c.loop-i.end (x ∷ next.1) (c.args.k - c.loop-i.i)) same
    ∙ ap (λ l. field_start c.loop-i.end l (c.args.k - c.loop-i.i)) (sym next.4) ∙ rest.2

pub returns-in-None-extent_of : goal.returns-in-None-extent_of
returns-in-None-extent_of c xs e =
    let rest = c.loop-i.invariant.value xs e in
    let last : c.args.k ≡ c.loop-i.i = omega arith in
    let part = subst (λ m. slice_get (parts_in c.args.row.now) m ≡ Some c.part_at-2.result) last c.part_at-2.ensures in
    let next = known_next (extent_at c.args.s.now) (parts_in c.args.row.now) c.loop-i.i c.part_at-2.result rest.0 part rest.1 in
    let both = c.in-None-extent_of.ensures.value ∙ next.2 in
    absurd cc
