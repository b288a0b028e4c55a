use Rattle.std.proofs.Common.{◌≡◌, map, drop, fold}
use Rattle.hare_modules.specs.Order.{earlier, first_in}
use Rattle.hare_modules.specs.Takings.{taking}
use Rattle.hare_modules.specs.Taken.{tables_of, tables_with, repeated_faults}
use Rattle.hare_modules.proofs.taken.take_all.Given as goal

abbrev pub invariant-loop-claim : goal.invariant-loop-claim
invariant-loop-claim l = record {
  first : fold earlier l.first (repeated_faults (tables_of l.taken) (map taking (drop l.claim-index l.claims))) ≡
      first_in (repeated_faults (tables_of l.fn.taken) (map taking l.claims));
  taken : fold tables_with (tables_of l.taken) (map taking (drop l.claim-index l.claims)) ≡
      fold tables_with (tables_of l.fn.taken) (map taking l.claims);
}
