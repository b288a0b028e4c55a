-- Ranks of nodes: no edge leads down. What leads up in rank leads back by no way.
use Rattle.std.specs.Prelude.{◌≡◌, ℕ, ◌<◌, ◌≤◌, List, Bool, false, nat_lt, length, Option, Some, None}
use Rattle.hare_graph.specs.Graphs.{Graph, HasEdge, label_of}

-- no edge leads from a node to one of a lower rank
abbrev pub AreRanks : Graph → List (Option ℕ) → Type 0
AreRanks g rs = (a b j : ℕ) → HasEdge g a b → label_of rs b ≡ Some j → (i : ℕ) × (label_of rs a ≡ Some i) × (i ≤ j)

-- each edge leads to a node
abbrev pub StaysWithin : Graph → Type 0
StaysWithin g = (a b : ℕ) → HasEdge g a b → b < length g

-- the second graph has each edge of the first the other way round
pub record IsReverse (g h : Graph) : Type 0 where
  pub size : length h ≡ length g
  pub back : (a b : ℕ) → HasEdge g a b → HasEdge h b a

abbrev pub is_higher : Option ℕ → Option ℕ → Bool
is_higher None j = false
is_higher (Some i) None = false
is_higher (Some i) (Some j) = nat_lt i j

-- the second node has a higher rank
abbrev pub leads_up : List (Option ℕ) → ℕ → ℕ → Bool
leads_up rs a b = is_higher (label_of rs a) (label_of rs b)
