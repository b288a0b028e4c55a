use Rattle.std.proofs.Common.{◌≡◌, ◌≤◌, ◌<◌, ◌++◌, length, drop, true}
use Rattle.hare_tree.specs.Node.{head, kids_of, nodes_of}
use Rattle.hare_tree.specs.Forms.{form_of}
use Rattle.hare_tree.specs.Judged.{nodes_from}
use Rattle.hare_ways.specs.Ways.{ways}
use Rattle.hare_ways.specs.Walk.{at_depth, pieces_walk, row_ways}
use Rattle.hare_ways.proofs.walk.+walk.Given as goal

-- what is put so far and the pieces from here on are the tree, and no more brackets are open than tokens stand in front
abbrev pub invariant-put_tree-loop-j : goal.invariant-put_tree-loop-j
invariant-put_tree-loop-j l = record {
  text : l.out.items
      ++ at_depth l.depth
      (pieces_walk l.comments (head l.t) l.breaks l.at.inside (drop l.j (form_of (head l.t).kind)) (length l.out.items)
      (nodes_from l.at.kid (kids_of l.t)))
      ≡ l.initial.out.items ++ at_depth l.depth (ways l.comments (length l.initial.out.items) l.t);
  within : l.depth ≤ length l.out.items;
  deeper : l.at.inside ≡ true → l.depth < length l.out.items;
}

-- what is put so far and the kids from here on are all
abbrev pub invariant-put_row-loop-i : goal.invariant-put_row-loop-i
invariant-put_row-loop-i l = record {
  text : l.out.items
      ++ at_depth l.stand.depth
      (row_ways l.comments l.stand.kind l.stand.start l.lead (length l.out.items) (nodes_from l.i (nodes_of l.kids)))
      ≡ l.initial.out.items
      ++ at_depth l.stand.depth
      (row_ways l.comments l.stand.kind l.stand.start l.lead (length l.initial.out.items) (nodes_from l.from (nodes_of l.kids)));
  within : l.stand.depth ≤ length l.out.items;
}
