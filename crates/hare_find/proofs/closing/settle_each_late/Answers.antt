use Rattle.std.proofs.Common.{ap, ◌∙◌, arith}
use Rattle.hare_rules.specs.Flow.{Flow}
use Rattle.hare_find.proofs.Behind.Closed.{late_taken}
use Rattle.hare_find.proofs.closing.settle_each_late.Goals as goal

pub loop-i-preserved : goal.loop-i-preserved
loop-i-preserved c =
    let settled = c.in_ok-settle_late.ensures.ok in
    let now = c.loop-i.invariant in
    record {
      within = omega arith;
      locals = ap (λ (f : Flow). f.locals) settled ∙ now.locals;
      yields = ap (λ (f : Flow). f.yields) settled ∙ now.yields;
      coercions = ap (λ (f : Flow). f.coercions) settled ∙ now.coercions;
      late =
          late_taken c.args.late.now c.loop-i.i c.index-late-i.result c.args.seen.now.late c.loop-i.seen.late c.settle_late.new.self.late
          (omega arith)
          c.index-late-i.is now.late (ap (λ (f : Flow). f.late) settled);
    }
