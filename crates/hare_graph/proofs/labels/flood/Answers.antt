use Rattle.std.proofs.Common.{◌≡◌, [], get_or, length, arith}
use Rattle.hare_graph.proofs.Elements.{no-elements}
use Rattle.hare_graph.proofs.FloodLemmas.{flooding-start, flooding-on, flooding-less, flooded}
use Rattle.hare_graph.proofs.labels.flood.Goals as goal

pub loop-node-init : goal.loop-node-init
loop-node-init c =
    flooding-start c.args.graph.now c.args.start c.args.label c.args.labels.now.items c.visit.new.labels.items
    c.new-left.result.items c.visit.new.left.items c.new-left.ensures.items c.in_ok-visit.ensures

pub loop-node-smaller : goal.loop-node-smaller
loop-node-smaller c =
    flooding-less c.args.label c.loop-node.labels.items c.go_on.new.labels.items c.loop-node.left.items c.pop.new.self.items
    c.go_on.new.left.items (get_or c.args.graph.now c.in-Some.node []) c.in-Some.node c.in-Some.ensures.items c.in_ok-go_on.ensures

pub loop-node-preserved : goal.loop-node-preserved
loop-node-preserved c =
    flooding-on c.args.graph.now c.args.start c.args.label c.args.labels.now.items c.loop-node.labels.items
    c.go_on.new.labels.items c.loop-node.left.items c.pop.new.self.items c.go_on.new.left.items c.in-Some.node c.in-Some.ensures.items
    c.in_ok-go_on.ensures c.loop-node.invariant

pub returns : goal.returns
returns c =
    let none : length c.loop-node.left.items ≡ 0 = omega (arith, c.in_default.ensures.cases) in
    flooded c.args.graph.now c.args.start c.args.label c.args.labels.now.items c.loop-node.labels.items c.loop-node.left.items
    (no-elements c.loop-node.left.items none) c.loop-node.invariant
