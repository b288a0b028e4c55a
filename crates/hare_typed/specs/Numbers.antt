-- Which nodes of a declaration are numbered, and how.
use Rattle.std.specs.Prelude.{◌≡◌, ℕ, suc, Bool, true, false, cond, List, [], ◌∷◌, ◌++◌, map, flat_map, All}
use Rattle.hare_tree.specs.declared.kind.Kind.{Kind}
use Rattle.hare_tree.specs.declared.kind.Kind.TheVariants as kind
use Rattle.hare_typed.specs.Typed.{TypedNode, TypedNodes, marked, typed_none, typed_more, head_of, mark_of, kids_of, listed_nodes}
use Rattle.hare_typed.specs.Order.{check_order, check_order_each, kid_from_front}

abbrev pub kind_of : TypedNode → Kind
kind_of t = (head_of t).kind

abbrev pub number_of : TypedNode → ℕ
number_of t = (mark_of t).node

abbrev pub is_param : Kind → Bool
is_param kind.Param = true
is_param _ = false

-- those of the trees that stand for parameters
abbrev pub params_among : TypedNodes → List TypedNode
params_among typed_none = []
params_among (typed_more t ts) = cond (is_param (kind_of t)) (t ∷ []) [] ++ params_among ts

-- the last of some trees, where there is one
abbrev pub last_of : List TypedNode → List TypedNode
last_of [] = []
last_of (t ∷ []) = t ∷ []
last_of (t ∷ u ∷ us) = last_of (u ∷ us)

-- what a declaration has as its body or its value: the last kid of a function, of a def and of a global
abbrev pub body_of : TypedNode → List TypedNode
body_of t = last_of (listed_nodes (kids_of t))

-- the parameters of a function, in their order
abbrev pub parameters_of : TypedNode → List TypedNode
parameters_of t = params_among (kids_of (kid_from_front 2 t))

abbrev pub numbered_by : Kind → TypedNode → List TypedNode
numbered_by kind.Fn t = flat_map check_order (body_of t) ++ parameters_of t
numbered_by kind.Def t = flat_map check_order (body_of t)
numbered_by kind.GlobalLet t = flat_map check_order (body_of t)
numbered_by kind.GlobalConst t = flat_map check_order (body_of t)
numbered_by _ t = []

-- The numbered nodes of a declaration, by ascending number: all nodes of the body or value in check order, wrappers and parts that are left
-- out among them, and then the parameters. A type has none.
abbrev pub numbered : TypedNode → List TypedNode
numbered t = numbered_by (kind_of t) t

-- ---- the others

abbrev pub except_last : TypedNodes → List TypedNode
except_last typed_none = []
except_last (typed_more t typed_none) = []
except_last (typed_more t (typed_more u us)) = check_order t ++ except_last (typed_more u us)

-- what stands in the parameters of a function beside them: their types, and a comma
abbrev pub beside_params : TypedNodes → List TypedNode
beside_params typed_none = []
beside_params (typed_more t ts) = cond (is_param (kind_of t)) (check_order_each (kids_of t)) (check_order t) ++ beside_params ts

abbrev pub beside_body : TypedNodes → List TypedNode
beside_body (typed_more e (typed_more n (typed_more (marked h m ts) us))) =
    check_order e ++ check_order n ++ (beside_params ts ++ marked h m ts ∷ []) ++ except_last us
beside_body _ = []

abbrev pub unnumbered_by : Kind → TypedNode → List TypedNode
unnumbered_by kind.Fn t = beside_body (kids_of t) ++ t ∷ []
unnumbered_by kind.Def t = except_last (kids_of t) ++ t ∷ []
unnumbered_by kind.GlobalLet t = except_last (kids_of t) ++ t ∷ []
unnumbered_by kind.GlobalConst t = except_last (kids_of t) ++ t ∷ []
unnumbered_by _ t = check_order t

-- the other nodes of a declaration: itself, names, and the types of its signature with all that stands in them
abbrev pub unnumbered : TypedNode → List TypedNode
unnumbered t = unnumbered_by (kind_of t) t

-- ---- numbers

-- so many numbers from the first on
abbrev pub numbers_from : {A : Type 0} → ℕ → List A → List ℕ
numbers_from n [] = []
numbers_from n (x ∷ xs) = n ∷ numbers_from (suc n) xs

-- In a declaration of a checked program the numbered nodes count from 0, and any other node has the number 0.
pub record IsNumbered (t : TypedNode) : Type 0 where
  pub counted : map number_of (numbered t) ≡ numbers_from 0 (numbered t)
  pub others : All (λ u. number_of u ≡ 0) (unnumbered t)
