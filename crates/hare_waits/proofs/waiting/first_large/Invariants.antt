use Rattle.std.proofs.Common.{take}
use Rattle.hare_waits.specs.Nodes.{IsFirstOf}
use Rattle.hare_waits.proofs.waiting.first_large.Given as goal

-- the first of the nodes that were looked at
abbrev pub invariant-loop-node : goal.invariant-loop-node
invariant-loop-node l = IsFirstOf l.s (take l.node-index l.nodes) l.first
