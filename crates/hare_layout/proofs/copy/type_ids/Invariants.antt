use Rattle.std.proofs.Common.{◌≡◌, take}
use Rattle.hare_layout.proofs.copy.type_ids.Given as goal

abbrev pub invariant-loop-t : goal.invariant-loop-t
invariant-loop-t l = l.ids ≡ take l.t-index l.types
