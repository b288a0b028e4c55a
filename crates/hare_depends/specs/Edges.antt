-- The graph of dependence, which is as large as what is said. A declaration has three nodes: itself, what it mentions, and what its written
-- type names. So a value that depends on all that others mention has one edge for each of them. No public clause cites it.
use Rattle.std.specs.Prelude.{◌≡◌, ◌↔◌, ℕ, zero, suc, ◌+◌, ◌<◌, List, [], ◌∷◌, ◌++◌, Bool, true, length, fold, slice_get, Option, Some, None, Contains, if◌then◌else◌}
use Rattle.hare_tree.specs.declared.place.Place.{Place}
use Rattle.hare_tree.specs.declared.place.Fault.{Fault}
use Rattle.hare_tree.specs.Spell.{start_of}
use Rattle.hare_graph.specs.Graphs.{Graph, HasEdge, Reached, IsLabelled, with_edge, edgeless}
use Rattle.hare_depends.specs.declared.said.Said.{Said}
use Rattle.hare_depends.specs.declared.said.Sort.{Sort}
use Rattle.hare_depends.specs.declared.said.Sort.TheVariants as so
use Rattle.hare_depends.specs.declared.edges.Edge.{Edge}
use Rattle.hare_depends.specs.Sorts.{is_type, is_constant, is_global}
use Rattle.hare_depends.specs.Dependence.{is_at}

-- ---- nodes and edges, where there are so many declarations

abbrev pub edge : ℕ → ℕ → Edge
edge a b = record { from = a; to = b }

-- what a declaration mentions
abbrev pub mention : ℕ → ℕ → ℕ
mention n d = n + d

-- what its written type names
abbrev pub written : ℕ → ℕ → ℕ
written n d = (n + n) + d

-- what is needed of a declaration alone
abbrev pub with_held : ℕ → List Edge → ℕ → List Edge
with_held a es e = es ++ edge a e ∷ []

-- what is needed of it, and all that it mentions
abbrev pub with_value : ℕ → ℕ → List Edge → ℕ → List Edge
with_value n a es e = (es ++ edge a e ∷ []) ++ edge a (mention n e) ∷ []

-- the same for a global with a type, which is looked through
abbrev pub with_through : List Said → ℕ → ℕ → List Edge → ℕ → List Edge
with_through ds n a es e = if is_at is_global ds e then es ++ edge a (written n e) ∷ [] else with_value n a es e

-- a type that is mentioned, and all that it mentions
abbrev pub with_mention : List Said → ℕ → ℕ → List Edge → ℕ → List Edge
with_mention ds n a es e = if is_at is_type ds e then with_value n a es e else es

-- ---- of one declaration

abbrev pub with_needs : List Said → ℕ → ℕ → Sort → Said → List Edge → List Edge
with_needs ds n d so.Type s es = fold (with_held d) es s.needed
with_needs ds n d so.Function s es = fold (with_held d) es s.needed
with_needs ds n d so.Constant s es = fold (with_value n d) es s.named
with_needs ds n d so.Global s es = fold (with_through ds n d) es s.named

abbrev pub with_written : ℕ → ℕ → Said → List Edge → List Edge
with_written n d s es = fold (with_value n (written n d)) es s.written

abbrev pub with_mentions : List Said → ℕ → ℕ → Said → List Edge → List Edge
with_mentions ds n d s es = fold (with_mention ds n (mention n d)) es s.named

abbrev pub with_said : List Said → ℕ → ℕ → Option Said → List Edge → List Edge
with_said ds n d None es = es
with_said ds n d (Some s) es = with_mentions ds n d s (with_written n d s (with_needs ds n d s.sort s es))

-- ---- of the first declarations

abbrev pub edges_below : List Said → ℕ → List Edge
edges_below ds zero = []
edges_below ds (suc d) = with_said ds (length ds) d (slice_get ds d) (edges_below ds d)

abbrev pub edges_of : List Said → List Edge
edges_of ds = edges_below ds (length ds)

-- ---- graphs

abbrev pub nodes : List Said → ℕ
nodes ds = (length ds + length ds) + length ds

abbrev pub with_forward : Graph → Edge → Graph
with_forward g e = with_edge g e.from e.to

abbrev pub with_backward : Graph → Edge → Graph
with_backward g e = with_edge g e.to e.from

abbrev pub forward_of : ℕ → List Edge → Graph
forward_of n es = fold with_forward (edgeless n) es

abbrev pub backward_of : ℕ → List Edge → Graph
backward_of n es = fold with_backward (edgeless n) es

-- ---- what is found in them

-- the node leads back to itself
abbrev pub Returns : Graph → ℕ → Type 0
Returns g d = (x : ℕ) × HasEdge g d x × Reached g x d

-- the first of so many nodes that does, or that none does
abbrev pub TellsReturn : Graph → ℕ → Option ℕ → Type 0
TellsReturn g n None = (d : ℕ) → d < n → ¬ Returns g d
TellsReturn g n (Some d) = (d < n) × Returns g d × ((e : ℕ) → e < d → ¬ Returns g e)

-- a label tells of each node whether it is reached
abbrev pub TellsReached : Graph → ℕ → List (Option ℕ) → Type 0
TellsReached g start ls = (b : ℕ) → IsLabelled ls b ↔ Reached g start b

-- a def or a global without a type to which the node leads, and which leads to it
abbrev pub HasConstantIn : List Said → Graph → ℕ → Type 0
HasConstantIn ds g d = (e : ℕ) × (e < length ds) × (is_at is_constant ds e ≡ true) × Reached g d e × Reached g e d

-- the same by labels
abbrev pub HasLabelled : List Said → (ahead behind : List (Option ℕ)) → Type 0
HasLabelled ds ls ks = (e : ℕ) × (e < length ds) × (is_at is_constant ds e ≡ true) × IsLabelled ls e × IsLabelled ks e

-- the node leads to each of these
abbrev pub AreTargets : Graph → ℕ → List ℕ → Type 0
AreTargets g d ts = (x : ℕ) → Contains ts x → HasEdge g d x

-- one of these leads to the node
abbrev pub SomeLeads : Graph → ℕ → List ℕ → Type 0
SomeLeads g d ts = (x : ℕ) × Contains ts x × Reached g x d

-- ---- the fault

abbrev pub place_in : Option Said → Place
place_in None = start_of 0
place_in (Some s) = s.place

abbrev pub circle_fault : List Said → ℕ → Bool → Fault
circle_fault ds d constant = record { number = if constant then 23 else 17; place = place_in (slice_get ds d) }
