use Rattle.std.proofs.Common.{◌≡◌, ◌≤◌, length, map, take}
use Rattle.hare_rules.specs.Judged.{open_of}
use Rattle.hare_rules.specs.Control.{takes_yield, nearest}
use Rattle.hare_find.proofs.looked.meant.Given as goal

-- it stands among those that are left, or nowhere
abbrev pub invariant-loop-left : goal.invariant-loop-left
invariant-loop-left l = record {
  within : l.left ≤ length l.labels;
  rest : nearest (takes_yield l.name) (map open_of l.labels) ≡ nearest (takes_yield l.name) (map open_of (take l.left l.labels));
}

abbrev pub decreases-loop-left : goal.decreases-loop-left
decreases-loop-left l = l.left
