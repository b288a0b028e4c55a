-- Which declarations lack a size, by what is seen of each. No public clause cites it.
use Rattle.std.specs.Prelude.{◌≡◌, ◌↔◌, ℕ, suc, ◌<◌, List, length, slice_get, Option, Some, None, option_and_then}
use Rattle.hare_graph.specs.Graphs.{Graph, HasEdge, with_edge, IsLabelled}
use Rattle.hare_declare.specs.declared.outline.SizeSeen.{SizeSeen}
use Rattle.hare_declare.specs.declared.outline.SizeSeen.TheVariants as seen
use Rattle.hare_declare.specs.declared.outline.Outline.{Outline}

-- what is seen of the size of declaration number n
abbrev pub Sees : List Outline → ℕ → SizeSeen → Type 0
Sees os n z = (o : Outline) × (slice_get os n ≡ Some o) × (o.size ≡ z)

-- It lacks a size by itself, or names one of these declarations that lacks it.
pub data Lacks (os : List Outline) : ℕ → Type 0 where
  itself : (n : ℕ) → Sees os n seen.Lacks → Lacks os n
  by_name : (n m : ℕ) → Sees os n (seen.ThatOf m) → Lacks os m → Lacks os n

-- each names one of them, if any
abbrev pub AreWithin : List Outline → Type 0
AreWithin os = (n m : ℕ) → Sees os n (seen.ThatOf m) → m < length os

-- the declarations that lack a size have a label, and no others
abbrev pub TellsLacking : List Outline → List (Option ℕ) → Type 0
TellsLacking os ls = (n : ℕ) → n < length os → IsLabelled ls n ↔ Lacks os n

-- ---- the graph of names

-- from which node a declaration has that it lacks a size; behind the declarations stands a node for those that lack it by themselves
abbrev pub source_of : ℕ → SizeSeen → Option ℕ
source_of root seen.Has = None
source_of root seen.Lacks = Some root
source_of root (seen.ThatOf m) = Some m

abbrev pub with_source : Graph → ℕ → Option ℕ → Graph
with_source g n None = g
with_source g n (Some a) = with_edge g a n

abbrev pub source_at : List Outline → ℕ → Option ℕ
source_at os n = option_and_then (λ o. source_of (length os) o.size) (slice_get os n)

-- the first so many declarations stand in the graph
pub record IsGraphBelow (os : List Outline) (below : ℕ) (g : Graph) : Type 0 where
  pub size : length g ≡ suc (length os)
  pub only : (a b : ℕ) → HasEdge g a b → (b < below) × (source_at os b ≡ Some a)
  pub all : (a b : ℕ) → b < below → source_at os b ≡ Some a → a < length g → HasEdge g a b
