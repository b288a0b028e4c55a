-- What stands in the first kid of a node.
use Rattle.std.proofs.Common.{◌≡◌, ℕ, List, [], ◌∷◌, Option, Some, None, is_some, refl, ap, sym, ◌∙◌, subst}
use Rattle.std.specs.Prelude.{option_copied}
use Rattle.hare_tree.specs.Node.{Head}
use Rattle.hare_types.specs.Store.{Store}
use Rattle.hare_typed.specs.Typed.{TypedNode, Mark, marked, kids_of, typed_nodes, listed_nodes}
use Rattle.hare_typed.specs.Order.{tree_from_front, kid_from_front}
use Rattle.rule_judge.specs.Defined.{IsDefinedTree, AreDefinedTrees}

listed-typed : (ts : List TypedNode) → listed_nodes (typed_nodes ts) ≡ ts
listed-typed [] = refl
listed-typed (t ∷ ts) = ap (λ us. t ∷ us) (listed-typed ts)

pub kid-front : (n : ℕ) (h : Head) (m : Mark) (ts : List TypedNode) (t : TypedNode) → marked h m (typed_nodes ts) ≡ t →
    tree_from_front n ts ≡ kid_from_front n t
kid-front n h m ts t v = ap (tree_from_front n) (sym (listed-typed ts)) ∙ ap (kid_from_front n) v

pub kids_defined : (s : Store) (h : Head) (m : Mark) (ts : List TypedNode) (t : TypedNode) → marked h m (typed_nodes ts) ≡ t →
    IsDefinedTree s t → AreDefinedTrees s (typed_nodes ts)
kids_defined s h m ts t v d = (subst (IsDefinedTree s) (sym v) d).2
