use Rattle.std.proofs.Common.{arith}
use Rattle.hare_tree.specs.Node.{nodes_of}
use Rattle.hare_ways.proofs.KidLemmas.{nodes_from-next, nodes_from-none}
use Rattle.hare_ways.proofs.part.next_kid.Goals as goal

pub returns-then-i-len : goal.returns-then-i-len
returns-then-i-len c = nodes_from-next c.args.i (nodes_of c.args.kids.now)

pub returns-else-i-len : goal.returns-else-i-len
returns-else-i-len c = nodes_from-none c.args.kids.now c.args.i (omega arith)
