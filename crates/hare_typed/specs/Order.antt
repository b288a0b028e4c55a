-- The order in which nodes are checked and evaluated, and the kids of a node by number.
use Rattle.std.specs.Prelude.{ℕ, zero, suc, List, [], ◌∷◌, ◌++◌}
use Rattle.hare_tree.specs.declared.kind.Kind.TheVariants as kind
use Rattle.hare_tree.specs.declared.token.Meaning.TheVariants as meant
use Rattle.hare_tree.specs.declared.token.Suffix.TheVariants as suffix
use Rattle.hare_types.specs.declared.coercion.Ty.TheVariants as kept
use Rattle.hare_typed.specs.declared.constant.Const.TheVariants as constant
use Rattle.hare_typed.specs.Typed.{TypedNode, TypedNodes, marked, typed_none, typed_more, kids_of, listed_nodes}

-- check order: a node's kids from left to right, with all that stands in them, then the node
abbrev mutual
  pub check_order : TypedNode → List TypedNode
  check_order (marked h m ts) = check_order_each ts ++ marked h m ts ∷ []

  pub check_order_each : TypedNodes → List TypedNode
  check_order_each typed_none = []
  check_order_each (typed_more t ts) = check_order t ++ check_order_each ts

-- ---- kids by number

-- What stands for a kid whose number is past the last: a part that is left out, at no place. No tree of a file has it, since lines begin at
-- 1.
abbrev pub missing : TypedNode
missing =
    marked record { kind = kind.None; place = record { file = 0; line = 0; column = 0 }; text = []; number = 0; suffix = suffix.None }
    record { node = 0; ty = kept.Empty; coerce = record { row = 1; to = kept.Empty }; meaning = meant.None; value = constant.Absent }
    typed_none

-- the tree with so many before it
abbrev pub tree_from_front : ℕ → List TypedNode → TypedNode
tree_from_front n [] = missing
tree_from_front zero (t ∷ ts) = t
tree_from_front (suc n) (t ∷ ts) = tree_from_front n ts

abbrev pub backwards : List TypedNode → List TypedNode
backwards [] = []
backwards (t ∷ ts) = backwards ts ++ t ∷ []

-- the kid with so many kids before it
abbrev pub kid_from_front : ℕ → TypedNode → TypedNode
kid_from_front n t = tree_from_front n (listed_nodes (kids_of t))

-- the kid with so many kids behind it
abbrev pub kid_from_end : ℕ → TypedNode → TypedNode
kid_from_end n t = tree_from_front n (backwards (listed_nodes (kids_of t)))
