use Rattle.std.proofs.Common.{◌≡◌, ◌∙◌, ◌≤◌, ◌∷◌, arith, sym, ap, length}
use Rattle.hare_types.specs.ByIds.{extent_at}
use Rattle.hare_types.specs.Layout.{round_up}
use Rattle.hare_typed.specs.Sizes.{parts_in}
use Rattle.hare_const.proofs.SizeLemmas.{field_starts, known_next, starts_more, starts_all}
use Rattle.hare_const.proofs.sizes.starts_in.Goals as goal

pub loop-i-preserved : goal.loop-i-preserved
loop-i-preserved c = record {
  end = omega (arith, c.if-start-gt-MOST_BYTES.false, c.in-Some.ensures.modest.size);
  value = λ xs e.
      let rest = c.loop-i.invariant.value xs e in
      let next = known_next (extent_at c.args.s.now) (parts_in c.args.row.now) c.loop-i.i c.part_at.result rest.0 c.part_at.ensures
      rest.1 in
      let both = c.in-Some.ensures.value ∙ next.2 in
      let same : c.in-Some.x ≡ next.0 = cc in (
        next.1,
        next.3,
        starts_more c.loop-i.end c.round_up-start.result c.in-Some.x next.1 rest.0 c.loop-i.starts.items c.push.new.self.items
            (field_starts 0 xs)
            (next.4 ∙ ap (λ x. x ∷ next.1) (sym same))
            (c.round_up-start.ensures.value ∙ ap (λ n. round_up n c.in-Some.x.align) c.from.ensures)
            c.in_ok-push.ensures.items rest.2,
      );
}

pub returns : goal.returns
returns c xs e k =
    let rest = c.loop-i.invariant.value xs e in
    let past : length (parts_in c.args.row.now) ≤ c.loop-i.i = omega (arith, c.loop-i-test.false, c.part_count-i-end.ensures) in
    starts_all (extent_at c.args.s.now) (parts_in c.args.row.now) c.loop-i.i c.loop-i.end xs rest.0 c.loop-i.starts.items past rest.1 rest.2
    k
