use Rattle.std.proofs.Common.{◌≡◌, take}
use Rattle.hare_copies.proofs.known.copy_types.Given as goal

abbrev pub invariant-loop-t : goal.invariant-loop-t
invariant-loop-t l = l.copy ≡ take l.t-index l.t-items
