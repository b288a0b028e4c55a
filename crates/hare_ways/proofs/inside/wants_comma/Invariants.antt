use Rattle.std.proofs.Common.{◌≡◌, false}
use Rattle.hare_tree.specs.Node.{nodes_of}
use Rattle.hare_tree.specs.Judged.{nodes_from}
use Rattle.hare_ways.specs.Breaks.{wants_comma}
use Rattle.hare_ways.specs.Parts.{items_of}
use Rattle.hare_ways.proofs.inside.wants_comma.Given as goal

-- the items from here on want a comma as all do
abbrev pub invariant-loop-i : goal.invariant-loop-i
invariant-loop-i l =
    wants_comma l.wants (items_of (nodes_from l.i (nodes_of l.kids))) ≡ wants_comma false (items_of (nodes_from l.from (nodes_of l.kids)))
