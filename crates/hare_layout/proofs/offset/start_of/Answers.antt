use Rattle.std.proofs.Common.{◌≡◌, ◌≤◌, ◌+◌, ◌-◌, ◌∷◌, length, map, Some, ap, sym, ◌∙◌, subst, arith}
use Rattle.std.specs.Prelude.{slice_get, option_map}
use Rattle.hare_types.specs.ByIds.{extent_at}
use Rattle.hare_types.specs.Kept.{told, parts_of, all_known}
use Rattle.hare_types.specs.Layout.{field_start}
use Rattle.hare_layout.proofs.OffsetLemmas.{next_known, start_next, start_here, start_past}
use Rattle.hare_layout.proofs.offset.start_of.Goals as goal

pub returns-then-k-part_count : goal.returns-then-k-part_count
returns-then-k-part_count c = record {
  value = λ r xs e g.
      let here = c.row-row.ensures.row in
      let same : r ≡ c.row-row.result.now = cc in
      let many : length (parts_of c.row-row.result.now) ≤ c.args.k = omega arith in
      start_past (extent_at c.args.s.now) (parts_of c.row-row.result.now) c.args.k xs
      (subst (λ q. all_known (extent_at c.args.s.now) (parts_of q) ≡ Some xs) same g) many;
}

pub returns-in-None : goal.returns-in-None
returns-in-None c = record {
  value = λ r xs e g.
      let here = c.row-row.ensures.row in
      let same : r ≡ c.row-row.result.now = cc in
      let rest = c.loop-i.invariant.value xs (subst (λ q. all_known (extent_at c.args.s.now) (parts_of q) ≡ Some xs) same g) in
      let next = next_known (extent_at c.args.s.now) (parts_of c.row-row.result.now) c.loop-i.i c.part_at.result rest.0 c.part_at.ensures
      rest.1 in
      let both = c.in-None.ensures.value ∙ ap (option_map told) next.2 in
      absurd cc;
}

pub loop-i-preserved : goal.loop-i-preserved
loop-i-preserved c = record {
  end = omega (arith, c.round_up.ensures.within, c.in-Some.ensures.within.size, c.loop-i.invariant.end);
  value = λ xs g.
      let rest = c.loop-i.invariant.value xs g in
      let next = next_known (extent_at c.args.s.now) (parts_of c.row-row.result.now) c.loop-i.i c.part_at.result rest.0 c.part_at.ensures
      rest.1 in
      let both = c.in-Some.ensures.value ∙ ap (option_map told) next.2 in
      let same : c.in-Some.x ≡ told next.0 = cc in (
        next.1,
        next.3,
        ap (λ e. field_start (e + c.in-Some.x.size) (map told next.1) (c.args.k - (c.loop-i.i + 1))) c.round_up.ensures.value
            ∙ sym (start_next c.loop-i.end c.in-Some.x (map told next.1) c.args.k c.loop-i.i c.loop-i-test.true)
            ∙ ap (λ x. field_start c.loop-i.end (x ∷ map told next.1) (c.args.k - c.loop-i.i)) same
            ∙ ap (λ l. field_start c.loop-i.end (map told l) (c.args.k - c.loop-i.i)) (sym next.4)
            ∙ rest.2,
      );
}

pub returns-in-Some-extent : goal.returns-in-Some-extent
returns-in-Some-extent c = record {
  value = λ r xs e g.
      let here = c.row-row.ensures.row in
      let same : r ≡ c.row-row.result.now = cc in
      let rest = c.loop-i.invariant.value xs (subst (λ q. all_known (extent_at c.args.s.now) (parts_of q) ≡ Some xs) same g) in
      let last : c.args.k ≡ c.loop-i.i = omega arith in
      let part = subst (λ m. slice_get (parts_of c.row-row.result.now) m ≡ Some c.part_at-2.result) last c.part_at-2.ensures in
      let next = next_known (extent_at c.args.s.now) (parts_of c.row-row.result.now) c.loop-i.i c.part_at-2.result rest.0 part rest.1 in
      let both = c.in-Some-extent.ensures.value ∙ ap (option_map told) next.2 in
      let same_extent : c.in-Some-extent.x ≡ told next.0 = cc in
      ap Some c.round_up-in-Some-extent.ensures.value
      ∙ sym (start_here c.loop-i.end c.in-Some-extent.x (map told next.1) c.args.k c.loop-i.i (omega arith))
      ∙ ap (λ x. field_start c.loop-i.end (x ∷ map told next.1) (c.args.k - c.loop-i.i)) same_extent
      ∙ ap (λ l. field_start c.loop-i.end (map told l) (c.args.k - c.loop-i.i)) (sym next.4)
      ∙ rest.2;
}

pub returns-in-None-extent : goal.returns-in-None-extent
returns-in-None-extent c = record {
  value = λ r xs e g.
      let here = c.row-row.ensures.row in
      let same : r ≡ c.row-row.result.now = cc in
      let rest = c.loop-i.invariant.value xs (subst (λ q. all_known (extent_at c.args.s.now) (parts_of q) ≡ Some xs) same g) in
      let last : c.args.k ≡ c.loop-i.i = omega arith in
      let part = subst (λ m. slice_get (parts_of c.row-row.result.now) m ≡ Some c.part_at-2.result) last c.part_at-2.ensures in
      let next = next_known (extent_at c.args.s.now) (parts_of c.row-row.result.now) c.loop-i.i c.part_at-2.result rest.0 part rest.1 in
      let both = c.in-None-extent.ensures.value ∙ ap (option_map told) next.2 in
      absurd cc;
}
