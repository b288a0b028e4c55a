use Rattle.std.proofs.Common.{◌≡◌, take}
use Rattle.hare_types.specs.Unions.{ascending}
use Rattle.hare_typed.specs.Leads.{leads}
use Rattle.hare_const.specs.Statics.{Adds}
use Rattle.hare_const.proofs.reached.meet_led.Given as goal

-- those are met to which the cells so far lead
abbrev pub invariant-loop-cell : goal.invariant-loop-cell
invariant-loop-cell l =
    record {
      numbers : l.met.numbers.keys ≡ ascending l.met.order.items;
      order : Adds (leads (take l.cell-index l.kept)) l.initial.met.order.items l.met.order.items;
    }
