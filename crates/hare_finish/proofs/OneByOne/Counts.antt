-- How many nodes stand in the trees that are left.
use Rattle.std.proofs.Common.{◌≡◌, ℕ, ◌+◌, ◌≤◌, List, length, drop, Some, ap}
use Rattle.std.specs.Prelude.{slice_get}
use Rattle.std.proofs.lemmas.List.{drop_all}
use Rattle.hare_typed.specs.Typed.{TypedNode, typed_nodes}
use Rattle.hare_typed.specs.Erased.{erase, erase_each}
use Rattle.hare_rules.specs.Above.{trees_in, trees_in_each}
use Rattle.hare_finish.proofs.OneByOne.Lists.{drop-next}

pub trees-next : (ts : List TypedNode) (i : ℕ) (t : TypedNode) → slice_get ts i ≡ Some t →
    trees_in_each (erase_each (typed_nodes (drop i ts))) ≡ trees_in (erase t) + trees_in_each (erase_each (typed_nodes (drop (i + 1) ts)))
trees-next ts i t e = ap (λ us. trees_in_each (erase_each (typed_nodes us))) (drop-next ts i t e)

pub trees-none : (ts : List TypedNode) (i : ℕ) → length ts ≤ i → trees_in_each (erase_each (typed_nodes (drop i ts))) ≡ 0
trees-none ts i h = ap (λ us. trees_in_each (erase_each (typed_nodes us))) (drop_all i ts h)
