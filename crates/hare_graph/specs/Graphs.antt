-- Graphs: of each node, by its number, the nodes to which it leads.
use Rattle.std.specs.Prelude.{◌≡◌, ℕ, ◌<◌, List, [], ◌∷◌, ◌++◌, Bool, ◌&&◌, ◌⊎◌, length, nat_lt, slice_index_or, slice_set, Option, Some, None, is_none, Contains, count_by, replicate, if◌then◌else◌}

abbrev pub Graph : Type 0
Graph = List (List ℕ)

-- so many nodes that lead nowhere
abbrev pub edgeless : ℕ → Graph
edgeless n = replicate n []

-- the node leads to one more, where there is such a node
abbrev pub with_edge : Graph → ℕ → ℕ → Graph
with_edge g from to = if nat_lt from (length g) then slice_set g from (slice_index_or g from [] ++ to ∷ []) else g

-- the first node leads to the second
abbrev pub HasEdge : Graph → ℕ → ℕ → Type 0
HasEdge g a b = Contains (slice_index_or g a []) b

-- the node is the start, or is reached from it by edges
pub data Reached (g : Graph) (start : ℕ) : ℕ → Type 0 where
  at_start : Reached g start start
  along : (a b : ℕ) → Reached g start a → HasEdge g a b → Reached g start b

-- the label of a node, if it has one
abbrev pub label_of : List (Option ℕ) → ℕ → Option ℕ
label_of ls n = slice_index_or ls n None

-- the node has a label
abbrev pub IsLabelled : List (Option ℕ) → ℕ → Type 0
IsLabelled ls n = (l : ℕ) × (label_of ls n ≡ Some l)

-- ---- labels that spread

-- labels, and the nodes that are left to be gone on from
pub record Marks : Type 0 where
  pub labels : List (Option ℕ)
  pub left : List ℕ

-- there is such a node, and it has no label
abbrev pub is_free : List (Option ℕ) → ℕ → Bool
is_free ls n = nat_lt n (length ls) && is_none (label_of ls n)

-- the node gets the label, where it has none
abbrev pub visited : ℕ → Marks → ℕ → Marks
visited k m n = if is_free m.labels n then record { labels = slice_set m.labels n (Some k); left = m.left ++ n ∷ [] } else m

abbrev pub marks : List (Option ℕ) → List ℕ → Marks
marks ls ns = record { labels = ls; left = ns }

-- how many nodes have no label
abbrev pub count_free : List (Option ℕ) → ℕ
count_free ls = count_by is_none ls

-- A label has spread from a node over all that can be reached from it over nodes without one.
pub record Spreads (g : Graph) (start k : ℕ) (old new : List (Option ℕ)) : Type 0 where
  pub size : length new ≡ length old
  pub kept : (n l : ℕ) → label_of old n ≡ Some l → label_of new n ≡ Some l
  pub fresh : (n l : ℕ) → label_of new n ≡ Some l → (label_of old n ≡ Some l) ⊎ ((label_of old n ≡ None) × (l ≡ k) × Reached g start n)
  pub started : start < length old → IsLabelled new start
  pub closed : (a b : ℕ) → label_of old a ≡ None → IsLabelled new a → HasEdge g a b → b < length old → IsLabelled new b

-- the nodes that have a label now and had none
pub record AreNew (g : Graph) (start : ℕ) (old new : List (Option ℕ)) (ns : List ℕ) : Type 0 where
  pub all : (n : ℕ) → label_of old n ≡ None → IsLabelled new n → Contains ns n
  pub only : (n : ℕ) → Contains ns n → (label_of old n ≡ None) × Reached g start n

-- the node loses its label, where there is such a node
abbrev pub cleared : List (Option ℕ) → ℕ → List (Option ℕ)
cleared ls n = if nat_lt n (length ls) then slice_set ls n None else ls
