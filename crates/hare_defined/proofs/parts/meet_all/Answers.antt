use Rattle.std.proofs.Common.{◌∙◌, ap, sym, Some}
use Rattle.std.proofs.lemmas.Option.{slice_get-get_or}
use Rattle.hare_defined.proofs.PartLemmas.{TakesIn-next, HoldsAll-next}
use Rattle.hare_defined.proofs.parts.meet_all.Goals as goal

pub returns-in_err-meet-clause-takes : goal.returns-in_err-meet-clause-takes
returns-in_err-meet-clause-takes c =
    let here = slice_get-get_or c.args.types.now c.loop-t.t-index c.t-item.result c.loop-t-test.true ∙ ap Some (sym c.t-item.is) in
    TakesIn-next _ _ _ c.args.types.now c.loop-t.t-index c.t-item.result here c.in_err-meet.ensures.takes c.loop-t.invariant.takes

pub loop-t-preserved : goal.loop-t-preserved
loop-t-preserved c =
    let here = slice_get-get_or c.args.types.now c.loop-t.t-index c.t-item.result c.loop-t-test.true ∙ ap Some (sym c.t-item.is) in
    record {
      takes = TakesIn-next _ _ _ c.args.types.now c.loop-t.t-index c.t-item.result here c.in_ok-meet.ensures.takes c.loop-t.invariant.takes;
      holds = HoldsAll-next c.args.met.now.keys _ _ c.args.types.now c.loop-t.t-index c.t-item.result here c.in_ok-meet.ensures.takes
          c.in_ok-meet.ensures.ok c.loop-t.invariant.holds;
    }
