use Rattle.std.proofs.Common.{◌≡◌, false, take}
use Rattle.std.specs.List.{list_any}
use Rattle.hare_layout.specs.Ids.{unsized_at}
use Rattle.hare_layout.proofs.sized.any_unsized.Given as goal

abbrev pub invariant-loop-t : goal.invariant-loop-t
invariant-loop-t l = list_any (unsized_at l.s) (take l.t-index l.types) ≡ false
