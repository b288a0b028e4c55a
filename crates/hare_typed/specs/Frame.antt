-- What a function costs as a whole: a bound on the bytes of its frame, and the weight of all that it is made of.
use Rattle.std.specs.Prelude.{ℕ, ◌+◌, ◌*◌, max, sum_by, Option, Some, None}
use Rattle.hare_tree.specs.declared.kind.Kind.{Kind}
use Rattle.hare_tree.specs.declared.kind.Kind.TheVariants as kind
use Rattle.hare_types.specs.Layout.{round_up}
use Rattle.hare_types.specs.Store.{Store}
use Rattle.hare_types.specs.ByIds.{size_at}
use Rattle.hare_typed.specs.Typed.{TypedNode, TypedNodes, marked, typed_none, typed_more}
use Rattle.hare_typed.specs.Order.{missing}
use Rattle.hare_typed.specs.Numbers.{kind_of}
use Rattle.hare_typed.specs.Given.{size_in, first_given, second_given, element}
use Rattle.hare_typed.specs.Weight.{weight_of}
use Rattle.hare_typed.specs.Copies.{counted}

abbrev pub size_of_element : Store → Option ℕ → ℕ
size_of_element s None = 0
size_of_element s (Some t) = size_at s t

-- the first kid, where there is one
abbrev pub first_of : TypedNodes → TypedNode
first_of typed_none = missing
first_of (typed_more t ts) = t

-- What a loop over elements binds: a pointer to the element where its binding is by reference, and else the element.
abbrev pub turn_size : Store → Kind → TypedNodes → ℕ
turn_size s kind.ByRef ts = 8
turn_size s _ ts = size_of_element s (element s (second_given ts))

abbrev pub by_reference : TypedNode → Kind
by_reference (marked h m ts) = kind_of (first_of ts)

-- the size of the type of what the node binds, if it binds something
abbrev pub bound_size : Store → Kind → TypedNodes → ℕ
bound_size s kind.Let ts = size_in s (second_given ts)
bound_size s kind.Const ts = size_in s (second_given ts)
bound_size s kind.Param ts = size_in s (first_given ts)
bound_size s kind.PatternLet ts = size_in s (first_given ts)
bound_size s kind.ForEach ts = turn_size s (by_reference (first_of ts)) ts
bound_size s _ ts = 0

-- the size of a node: the greatest of those of its type, of the type that its coercion gives, and of the type of what it binds
abbrev pub node_size : Store → TypedNode → ℕ
node_size s (marked h m ts) = max (size_in s m.ty) (max (size_in s m.coerce.to) (bound_size s h.kind ts))

-- the bytes that one node adds to a frame: 256 for each unit of its weight, and twice its size, which takes at least one byte and is
-- rounded up
abbrev pub node_frame : Store → TypedNode → ℕ
node_frame s t = 256 * weight_of s t + 2 * round_up (max 1 (node_size s t)) 16

-- the frame bound of a function, in bytes
abbrev pub frame_bound : Store → TypedNode → ℕ
frame_bound s f = 64 + sum_by (λ x. x.times * node_frame s x.tree) (counted f)

-- the copied weight of a function: that of each node, as often as it has copies
abbrev pub copied_weight : Store → TypedNode → ℕ
copied_weight s f = sum_by (λ x. x.times * weight_of s x.tree) (counted f)
