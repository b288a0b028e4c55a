-- The bytes of declarations, as they are told. No public clause cites it.
use Rattle.std.specs.Prelude.{ℕ, cond, min, sum_by}
use Rattle.hare_types.specs.Store.{Store}
use Rattle.hare_typed.specs.Typed.{TypedNode, TypedNodes, mark_of}
use Rattle.hare_typed.specs.Order.{check_order, check_order_each}
use Rattle.hare_typed.specs.Evaluated.{makes_slice}
use Rattle.hare_typed.specs.Given.{size_in}
use Rattle.hare_costs.specs.Amounts.{most}
use Rattle.hare_whole.specs.Limits.{global_bytes}

abbrev pub told_bytes : Store → TypedNode → ℕ
told_bytes s d = min (global_bytes s d) most

-- the bytes of the array that a node is, where it is made a slice
abbrev pub own_slice : Store → TypedNode → ℕ
own_slice s t = cond (makes_slice s t) (size_in s (mark_of t).ty) 0

-- those of all nodes of a tree, and of some trees
abbrev pub slices_under : Store → TypedNode → ℕ
slices_under s t = sum_by (own_slice s) (check_order t)

abbrev pub slices_among : Store → TypedNodes → ℕ
slices_among s ts = sum_by (own_slice s) (check_order_each ts)
