use Rattle.std.proofs.Common.{List, ◌∷◌, length}
use Rattle.hare_tree.specs.Node.{head}
use Rattle.hare_typed.specs.Typed.{TypedNode}
use Rattle.hare_walk.specs.Spots.{spot}
use Rattle.hare_check.specs.Nodes.{Walks, IsAtNode}
use Rattle.hare_check.proofs.NodeAtHand.Same.{same-walks, same-node, node-later, same-finding, same-turned}
use Rattle.hare_check.proofs.Kept.Relied.{each-kept}
use Rattle.hare_check.proofs.Walks.Growing.{walking-grown}
use Rattle.hare_check.proofs.walker.WalkerWalk.turn.Goals as goal

pub find-found-requires : goal.find-found-requires
find-found-requires c = record {
  walks = c.requires.ready;
  part = c.requires.part;
  whole = c.requires.whole;
  inferred = c.requires.inferred;
  hand = c.requires.hand;
  kept = each-kept c.args.s.now c.args.kids c.requires.kept;
}

pub close-tree-requires-clause-node : goal.close-tree-requires-clause-node
close-tree-requires-clause-node c =
    let w = c.args.self.now in
    let s = c.args.s.now in
    let r = c.find-found.new.s in
    let n = c.args.node.now in
    let xs : List TypedNode = c.args.kids in
    let a : IsAtNode s w n xs =
    record {
      walks = c.requires.ready;
      part = c.requires.part;
      whole = c.requires.whole;
      inferred = c.requires.inferred;
      hand = c.requires.hand;
      kept = each-kept s xs c.requires.kept;
    } in
    same-node r w c.find-found.new.self n xs c.find-found.ensures.same
    (node-later s r w n xs c.declarations-law.ensures.sound c.declarations-sound.ensures.sound c.find-found.ensures.grown a)

pub close-tree-requires-clause-found : goal.close-tree-requires-clause-found
close-tree-requires-clause-found c =
    same-finding c.find-found.new.s c.args.self.now c.find-found.new.self c.args.node.now c.args.kids c.in_ok-found.found
    c.find-found.ensures.same c.in_ok-found.ensures.ok

pub returns-clause-ok : goal.returns-clause-ok
returns-clause-ok c =
    same-turned c.close-tree.new.s c.args.self.now c.find-found.new.self c.args.node.now c.args.kids c.in_ok-tree.tree
    c.close-tree.new.self.seen c.find-found.ensures.same c.in_ok-tree.ensures.ok

pub returns-clause-ready : goal.returns-clause-ready
returns-clause-ready c ps h =
    let w = c.args.self.now in
    let s = c.args.s.now in
    let r = c.find-found.new.s in
    let here = spot (head c.args.node.now).kind (length c.args.kids) ∷ ps in
    let later : Walks r here w =
    walking-grown s r c.declarations-law.ensures.sound c.declarations-sound.ensures.sound c.find-found.ensures.grown here w.decls.now
    w.standing w.seen w.told w.begun h in
    c.in_ok-tree.ensures.walks ps (same-walks r here w c.find-found.new.self c.find-found.ensures.same later)

pub returns-clause-kept : goal.returns-clause-kept
returns-clause-kept c = c.in_ok-tree.ensures.kept
