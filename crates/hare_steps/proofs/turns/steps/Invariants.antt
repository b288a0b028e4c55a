use Rattle.std.proofs.Common.{◌≡◌, drop, length, map}
use Rattle.hare_whole.specs.Listing.{Listing, saids}
use Rattle.hare_steps.specs.Plans.{step_of}
use Rattle.hare_steps.specs.Taken.{GoesOn}
use Rattle.hare_steps.proofs.turns.steps.Given as goal

abbrev pub invariant-loop-decl : goal.invariant-loop-decl
invariant-loop-decl l = record {
  sized : length l.judged.items ≡ length l.saids;
  goes : (p : Listing) → saids p ≡ l.saids → GoesOn p l.order (drop l.decl-index l.order) l.judged.items (map step_of l.steps.items);
}
