use Rattle.std.proofs.Common.{◌≡◌, [], get_or, length, sym, subst, arith}
use Rattle.hare_graph.proofs.Elements.{no-elements}
use Rattle.hare_graph.proofs.FloodLemmas.{Gathering, flooding-start, flooding-on, flooding-less, flooded, gathering-start, gathering-on, gathered}
use Rattle.hare_graph.proofs.labels.spread.Goals as goal

pub loop-node-init : goal.loop-node-init
loop-node-init c = record {
  flooding = flooding-start c.args.graph.now c.args.start c.args.label c.args.labels.now.items c.visit.new.labels.items
      c.new-left.result.items c.visit.new.left.items c.new-left.ensures.items c.in_ok-visit.ensures;
  gathering = gathering-start c.args.graph.now c.args.start c.args.label c.args.labels.now.items c.visit.new.labels.items
      c.new-left.result.items c.visit.new.left.items c.new-found.result.items c.new-left.ensures.items c.new-found.ensures.items
      c.in_ok-visit.ensures;
}

pub loop-node-smaller : goal.loop-node-smaller
loop-node-smaller c =
    flooding-less c.args.label c.loop-node.labels.items c.go_on.new.labels.items c.loop-node.left.items c.pop.new.self.items
    c.go_on.new.left.items (get_or c.args.graph.now c.in-Some.node []) c.in-Some.node c.in-Some.ensures.items c.in_ok-go_on.ensures

pub loop-node-preserved : goal.loop-node-preserved
loop-node-preserved c = record {
  flooding = flooding-on c.args.graph.now c.args.start c.args.label c.args.labels.now.items c.loop-node.labels.items
      c.go_on.new.labels.items c.loop-node.left.items c.pop.new.self.items c.go_on.new.left.items c.in-Some.node c.in-Some.ensures.items
      c.in_ok-go_on.ensures c.loop-node.invariant.flooding;
  gathering =
      subst (λ ns. Gathering c.args.graph.now c.args.start c.args.labels.now.items c.go_on.new.labels.items c.go_on.new.left.items ns)
      (sym c.in_ok-push.ensures.items)
      (gathering-on c.args.graph.now c.args.start c.args.label c.args.labels.now.items c.loop-node.labels.items c.go_on.new.labels.items
      c.loop-node.left.items c.pop.new.self.items c.go_on.new.left.items c.loop-node.found.items c.in-Some.node c.in-Some.ensures.items
      c.in_ok-go_on.ensures c.loop-node.invariant.flooding c.loop-node.invariant.gathering);
}

pub returns-clause-spreads : goal.returns-clause-spreads
returns-clause-spreads c =
    let none : length c.loop-node.left.items ≡ 0 = omega (arith, c.in_default.ensures.cases) in
    flooded c.args.graph.now c.args.start c.args.label c.args.labels.now.items c.loop-node.labels.items c.loop-node.left.items
    (no-elements c.loop-node.left.items none) c.loop-node.invariant.flooding

pub returns-clause-nodes : goal.returns-clause-nodes
returns-clause-nodes c =
    let none : length c.loop-node.left.items ≡ 0 = omega (arith, c.in_default.ensures.cases) in
    gathered c.args.graph.now c.args.start c.args.labels.now.items c.loop-node.labels.items c.loop-node.left.items c.loop-node.found.items
    (no-elements c.loop-node.left.items none) c.loop-node.invariant.gathering
