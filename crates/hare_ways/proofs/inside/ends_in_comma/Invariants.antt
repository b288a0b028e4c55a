use Rattle.std.proofs.Common.{◌≡◌}
use Rattle.hare_tree.specs.Node.{nodes_of}
use Rattle.hare_tree.specs.Judged.{nodes_from}
use Rattle.hare_ways.specs.Breaks.{ends_in_comma}
use Rattle.hare_ways.specs.Parts.{items_of}
use Rattle.hare_ways.proofs.inside.ends_in_comma.Given as goal

-- the items from here on end as all do
abbrev pub invariant-loop-i : goal.invariant-loop-i
invariant-loop-i l =
    ends_in_comma (items_of (nodes_from l.i (nodes_of l.kids))) ≡ ends_in_comma (items_of (nodes_from l.from (nodes_of l.kids)))
