use Rattle.std.proofs.Common.{ap, sym, arith}
use Rattle.hare_tree.proofs.TreeKids.KidsFrom.{nodes_from-one, nodes_from-past}
use Rattle.hare_ways.specs.Edges.{behind_kid}
use Rattle.hare_ways.proofs.edge.behind_kid.Goals as goal

pub returns-then-i-len : goal.returns-then-i-len
returns-then-i-len c =
    let one = nodes_from-one c.args.kids.now c.args.i (omega arith) in
    ap (λ ts. behind_kid ts c.args.i c.args.end) (sym one.1)

pub returns-else-i-len : goal.returns-else-i-len
returns-else-i-len c =
    ap (λ ts. behind_kid ts c.args.i c.args.end) (sym (nodes_from-past c.args.kids.now c.args.i (omega arith)))
