use Rattle.std.proofs.Common.{◌≡◌}
use Rattle.std.specs.Ordering.{nat_cmp}
use Rattle.std.specs.BTreeMap.{get}
use Rattle.hare_types.specs.Unions.{ascending}
use Rattle.hare_const.proofs.ReachedLemmas.{Reaches}
use Rattle.hare_const.proofs.reached.numbers_reached.Given as goal

-- so many of those that were met have met the ones to which they lead
abbrev pub invariant-loop-i : goal.invariant-loop-i
invariant-loop-i l =
    record {
      numbers : l.met.numbers.keys ≡ ascending l.met.order.items;
      order : Reaches (get nat_cmp l.table) l.cells l.i l.met.order.items;
    }
