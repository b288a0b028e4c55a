use Rattle.std.proofs.Common.{ap, sym, ◌∙◌, arith, drop, ◌+◌}
use Rattle.std.specs.Prelude.{option_map}
use Rattle.hare_types.specs.Waiting.{extents}
use Rattle.hare_types.specs.Kept.{parts_of, known, all_known}
use Rattle.hare_types.specs.Run.{with_parts}
use Rattle.hare_types.proofs.PartLemmas.{parts-step, parts-none}
use Rattle.hare_types.proofs.measure.parts.Goals as goal

pub with_part-run-requires : goal.with_part-run-requires
with_part-run-requires c = record {
  run = c.loop-i.invariant.run;
  end = omega (arith, c.loop-i.invariant.end);
  bounded = c.requires _ _ (sym c.in-Some.ensures);
}

pub returns-in-None : goal.returns-in-None
returns-in-None c = record {
  value = parts-none (known (extents c.args.kept.now)) (parts_of c.args.row.now) c.loop-i.i c.part_at.result c.loop-i.run c.part_at.ensures
      c.in-None.ensures ∙ c.loop-i.invariant.value;
  within = tt;
}

pub loop-i-preserved : goal.loop-i-preserved
loop-i-preserved c =
    let ps = parts_of c.args.row.now in
    record {
      run = c.with_part-run.ensures.within;
      end = omega (arith, c.with_part-run.ensures.end, c.loop-i.invariant.end);
      value = ap (λ r. option_map (with_parts r) (all_known (known (extents c.args.kept.now)) (drop (c.loop-i.i + 1) ps)))
          c.with_part-run.ensures.value ∙ sym
          (parts-step (known (extents c.args.kept.now)) ps c.loop-i.i c.part_at.result c.loop-i.run c.in-Some.x c.part_at.ensures
          c.in-Some.ensures) ∙ c.loop-i.invariant.value;
    }
