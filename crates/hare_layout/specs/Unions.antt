-- Types that are put together into a union by their ids alone, and the union that is spelled with them as its members.
use Rattle.std.specs.Prelude.{◌≡◌, ℕ, ◌<◌, false, List, length, All, Some}
use Rattle.hare_types.specs.Trees.{Tree}
use Rattle.hare_types.specs.Store.{Store, tree_at}
use Rattle.hare_types.specs.Sound.{IsStore}
use Rattle.hare_types.specs.Unions.{left_of, reduced_of}
use Rattle.hare_layout.specs.declared.spelled.Spelled.{Spelled}
use Rattle.hare_layout.specs.Reduction.{written, is_spread, AreLeft, IsReducedTo}

-- a union is spelled with these ids of the store as its members, of which none is spread
pub record IsSpelled (s : Store) (r : Spelled) (is : List ℕ) : Type 0 where
  pub members : written r.row ≡ Some is
  pub within : All (λ i. i < length s.rows) is
  pub plain : (k : ℕ) → is_spread r k ≡ false

-- What is left of the ids is what is left in the spelled union, and the id that they are reduced to stands for the type that the spelled
-- union is reduced to.
pub record UnionsMean (s : Store) (r : Spelled) (is : List ℕ) : Type 0 where
  pub left : AreLeft s r (left_of s is)
  pub reduced : (t : ℕ) (u : Tree) → reduced_of s is ≡ Some t → tree_at s t ≡ Some u → IsReducedTo s r u

abbrev pub UnionsMeanTrees : Type 0
UnionsMeanTrees = (s : Store) → IsStore s → (r : Spelled) (is : List ℕ) → IsSpelled s r is → UnionsMean s r is
