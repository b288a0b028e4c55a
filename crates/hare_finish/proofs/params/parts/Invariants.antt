use Rattle.std.proofs.Common.{◌≡◌, ℕ, ◌+◌, ◌<◌, ◌++◌, drop, slice_get, Some}
use Rattle.hare_tree.specs.Node.{Node}
use Rattle.hare_finish.specs.Made.{parts_as, IsPartShaped}
use Rattle.hare_finish.proofs.params.parts.Given as goal

-- the trees so far and those of the parts that are left are all, and each part so far has as many kids as it should
abbrev pub invariant-loop-i : goal.invariant-loop-i
invariant-loop-i l = record {
  made : l.trees ++ parts_as l.void (l.first + l.taken) (drop l.i l.kids) (drop l.taken l.types) ≡ parts_as l.void l.first l.kids l.types;
  shaped : (k : ℕ) (t : Node) → k < l.i → slice_get l.kids k ≡ Some t → IsPartShaped t;
}
