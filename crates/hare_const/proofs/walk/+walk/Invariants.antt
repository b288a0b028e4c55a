use Rattle.std.proofs.Common.{◌≡◌, ◌++◌, take}
use Rattle.hare_typed.specs.Typed.{typed_nodes}
use Rattle.hare_typed.specs.Folded.{tagged_by_id}
use Rattle.hare_typed.specs.Constants.{own_kind}
use Rattle.hare_const.specs.NodeValues.{operands_of}
use Rattle.hare_const.specs.Made.{made_by_kids, made_by_each}
use Rattle.hare_const.proofs.WalkLemmas.{Valued}
use Rattle.hare_const.proofs.walk.+walk.Given as goal

abbrev pub decreases-tree_value : goal.decreases-tree_value
decreases-tree_value l = goal.size-tree_value l

abbrev pub decreases-kid_values : goal.decreases-kid_values
decreases-kid_values l = goal.size-kid_values l

-- the kids so far have their values, and none of them is refused; those of their objects stand there that the node takes
abbrev pub invariant-kid_values-loop-i : goal.invariant-kid_values-loop-i
invariant-kid_values-loop-i l =
    record {
      valued : Valued l.s l.own l.kids l.i l.values.items;
      made : l.made ≡ l.initial.made
          ++ made_by_kids l.node (operands_of (own_kind l.node)) l.values.items
          (made_by_each (tagged_by_id l.s) l.own (typed_nodes (take l.i l.kids)));
    }
