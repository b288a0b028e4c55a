-- Which unions hold which.
use Rattle.std.specs.Prelude.{◌≡◌, ℕ, Bool, ◌==◌, List, Some}
use Rattle.std.specs.List.{list_all, list_any}
use Rattle.hare_types.specs.Trees.{Trees, Union, AllAmong}
use Rattle.hare_types.specs.Store.{Store, tree_at}

-- the type with this id is a union
abbrev pub IsUnion : Store → ℕ → Type 0
IsUnion s t = (ts : Trees) × (tree_at s t ≡ Some (Union ts))

-- each member of the union a is a member of the union b
abbrev pub HoldsMembers : Store → ℕ → ℕ → Type 0
HoldsMembers s a b = (ts : Trees) × (us : Trees) × (tree_at s a ≡ Some (Union ts)) × (tree_at s b ≡ Some (Union us)) × AllAmong ts us

-- each of the first ids is one of the others
abbrev pub all_among : List ℕ → List ℕ → Bool
all_among is js = list_all (λ i. list_any (λ j. j == i) js) is
