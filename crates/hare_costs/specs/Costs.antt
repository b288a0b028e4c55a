-- What declarations cost as wholes.
use Rattle.std.specs.Prelude.{ℕ, ◌*◌, cond, List, [], ◌∷◌, sum_by}
use Rattle.hare_types.specs.Store.{Store}
use Rattle.hare_typed.specs.Typed.{TypedNode}
use Rattle.hare_typed.specs.Numbers.{kind_of, is_param}
use Rattle.hare_typed.specs.Weight.{weight_of}
use Rattle.hare_typed.specs.Copies.{Copied}
use Rattle.hare_typed.specs.Frame.{node_frame, copied_weight, frame_bound}
use Rattle.hare_costs.specs.declared.amount.Amount.{Amount}
use Rattle.hare_costs.specs.Amounts.{amount}

-- the sum of what nodes have each, as often as each has copies
abbrev pub total : (TypedNode → ℕ) → List Copied → ℕ
total v xs = sum_by (λ x. x.times * v x.tree) xs

-- what nodes cost together
abbrev pub cost_of : Store → List Copied → Amount
cost_of s xs = amount (total (weight_of s) xs) (total (node_frame s) xs)

-- what one copy of a node costs
abbrev pub own_cost : Store → TypedNode → Amount
own_cost s t = amount (weight_of s t) (node_frame s t)

-- what a declaration costs: its copied weight and its frame bound, as far as they are told
abbrev pub told_cost : Store → TypedNode → Amount
told_cost s f = amount (copied_weight s f) (frame_bound s f)

-- the tree, if it is a parameter
abbrev pub as_parameter : TypedNode → List TypedNode
as_parameter t = cond (is_param (kind_of t)) (t ∷ []) []
