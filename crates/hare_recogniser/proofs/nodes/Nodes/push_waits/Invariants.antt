use Rattle.std.proofs.Common.{◌≡◌, ◌≤◌, ◌++◌, length, drop}
use Rattle.hare_nesting.specs.Gauge.{nodes_in}
use Rattle.hare_ll_table.specs.Seen.{waited}
use Rattle.hare_recogniser.proofs.nodes.Nodes.push_waits.Given as goal

abbrev pub invariant-loop-left : goal.invariant-loop-left
invariant-loop-left l = record {
  within : l.left ≤ length l.waits;
  so_far : l.self ≡
      nodes_in (waited (drop l.left l.waits)) ++ l.initial.self;
}

abbrev pub decreases-loop-left : goal.decreases-loop-left
decreases-loop-left l = l.left
