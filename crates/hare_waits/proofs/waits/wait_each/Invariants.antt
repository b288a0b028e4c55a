use Rattle.std.proofs.Common.{take}
use Rattle.hare_waits.specs.Lists.{Awaits}
use Rattle.hare_waits.proofs.waits.wait_each.Given as goal

-- the nodes that were looked at wait
abbrev pub invariant-loop-node : goal.invariant-loop-node
invariant-loop-node l = Awaits l.s l.initial.lists l.lists (take l.node-index l.nodes)
