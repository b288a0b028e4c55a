use Rattle.std.proofs.Common.{get_or}
use Rattle.std.proofs.lemmas.Option.{slice_get-get_or}
use Rattle.hare_typed.specs.declared.cell.Cell.TheVariants as cell
use Rattle.hare_const.proofs.ReachedLemmas.{adds_nothing, adds_more, adds_alike}
use Rattle.hare_const.proofs.reached.meet_led.Goals as goal

pub loop-cell-init : goal.loop-cell-init
loop-cell-init c = record { numbers = c.requires; order = adds_nothing c.args.met.now.order.items }

pub loop-cell-preserved : goal.loop-cell-preserved
loop-cell-preserved c =
    let ks = c.kept-kept.result.now in
    let i = c.loop-cell.cell-index in
    record {
      numbers = c.in_ok-meet_from.ensures.numbers;
      order =
          adds_more ks i (get_or ks i (cell.Byte 0)) c.args.met.now.order.items c.loop-cell.met.order.items c.meet_from.new.met.order.items
          (slice_get-get_or ks i (cell.Byte 0) c.loop-cell-test.true) c.loop-cell.invariant.order c.in_ok-meet_from.ensures.order;
    }

pub returns : goal.returns
returns c = record {
  numbers = c.loop-cell.invariant.numbers;
  order =
      adds_alike c.kept-kept.result.now c.args.cells.now c.loop-cell.cell-index c.args.met.now.order.items c.loop-cell.met.order.items
      c.loop-cell-test.false c.kept-kept.ensures c.loop-cell.invariant.order;
}
