use Rattle.std.proofs.Common.{◌≡◌, min, drop}
use Rattle.hare_typed.specs.Typed.{typed_nodes, size_of, sizes_of}
use Rattle.hare_costs.specs.Amounts.{most}
use Rattle.hare_bytes.specs.Bytes.{slices_among}
use Rattle.hare_bytes.proofs.slices.+slices.Given as goal

abbrev pub decreases-slices_in : goal.decreases-slices_in
decreases-slices_in l = size_of l.t.now

abbrev pub decreases-slices_among : goal.decreases-slices_among
decreases-slices_among l = sizes_of (typed_nodes l.kids.now)

-- those of the trees from one on
abbrev pub invariant-slices_among-loop-i : goal.invariant-slices_among-loop-i
invariant-slices_among-loop-i l = l.all ≡ min (slices_among l.s (typed_nodes (drop l.i l.kids))) most
