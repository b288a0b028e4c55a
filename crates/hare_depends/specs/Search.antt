-- How the order of declarations is searched for, in depth. No public clause cites it.
use Rattle.std.specs.Prelude.{◌≡◌, ◌↔◌, ℕ, ◌+◌, ◌*◌, ◌<◌, ◌≤◌, List, [], ◌∷◌, ◌++◌, ◌⊎◌, Bool, ◌&&◌, nat_lt, is_some, length, fold, slice_index_or, Option, Some, None, Contains, if◌then◌else◌}
use Rattle.std.specs.List.Sorted.{IsNonDecreasing}
use Rattle.hare_graph.specs.Graphs.{Graph, HasEdge, Reached, label_of, IsLabelled, with_edge, edgeless, count_free}
use Rattle.hare_graph.specs.Ranks.{StaysWithin}
use Rattle.hare_depends.specs.declared.said.Said.{Said}
use Rattle.hare_depends.specs.declared.edges.Edge.{Edge}
use Rattle.hare_depends.specs.declared.search.Frame.{Frame}
use Rattle.hare_depends.specs.declared.search.Search.{Search}
use Rattle.hare_depends.specs.Dependence.{DependsOn}
use Rattle.hare_depends.specs.Order.{IsFirstLeft, IsAny, AreInTurn}

-- ---- the graph of what declarations depend on at once

-- the fourth node of a declaration, from which what it needs leads
abbrev pub source : ℕ → ℕ → ℕ
source n d = ((n + n) + n) + d

-- where the edges of a node begin
abbrev pub start_of : ℕ → ℕ → ℕ
start_of n a = if nat_lt a n then source n a else a

abbrev pub with_start : ℕ → Graph → Edge → Graph
with_start n g e = with_edge g (start_of n e.from) e.to

abbrev pub at_once : ℕ → List Edge → Graph
at_once n es = fold (with_start n) (edgeless (source n n)) es

-- what is reached from the fourth node of a declaration are those on which it depends
pub record IsDependence (ds : List Said) (g : Graph) : Type 0 where
  pub nodes : length g ≡ source (length ds) (length ds)
  pub stays : StaysWithin g
  pub ends : (a b : ℕ) → a < length ds → HasEdge g a b → ⊥
  pub depends : (d e : ℕ) → d < length ds → e < length ds → Reached g (source (length ds) d) e → DependsOn ds d e
  pub reached : (d e : ℕ) → DependsOn ds d e → Reached g (source (length ds) d) e
  pub within : (d e : ℕ) → DependsOn ds d e → (d < length ds) × (e < length ds)

-- ---- labels

-- what has a label leads only to what has one
abbrev pub IsClosed : Graph → List (Option ℕ) → Type 0
IsClosed g ls = (a b : ℕ) → IsLabelled ls a → HasEdge g a b → IsLabelled ls b

-- of declarations those that are done have one
pub record AreSpent (ds : List Said) (g : Graph) (done : List ℕ) (ls : List (Option ℕ)) : Type 0 where
  pub size : length ls ≡ length g
  pub tells : (e : ℕ) → e < length ds → IsLabelled ls e ↔ Contains done e
  pub closed : IsClosed g ls

abbrev pub is_below : ℕ → ℕ → Bool
is_below n x = nat_lt x n

-- the declarations that are reached and have no label, in ascending order; labels are as before
pub record AreLeft (g : Graph) (n start : ℕ) (old new : List (Option ℕ)) (xs : List ℕ) : Type 0 where
  pub size : length new ≡ length old
  pub same : (a : ℕ) → IsLabelled new a ↔ IsLabelled old a
  pub sorted : IsNonDecreasing xs
  pub only : (e : ℕ) → Contains xs e → (e < n) × Reached g start e
  pub all : (e : ℕ) → e < n → Reached g start e → label_of old e ≡ None → Contains xs e

-- ---- the way

-- what is asked for from a declaration, or from none
abbrev pub wants : List Said → Option ℕ → ℕ → Type 0
wants ds None = IsAny
wants ds (Some c) = DependsOn ds c

-- the last declaration on the way behind this one, if there is one
abbrev pub last_of : Option ℕ → List Frame → Option ℕ
last_of o [] = o
last_of o (f ∷ fs) = last_of (Some f.decl) fs

abbrev pub IsOnWay : List Frame → ℕ → Type 0
IsOnWay [] e = ⊥
IsOnWay (f ∷ fs) e = (f.decl ≡ e) ⊎ IsOnWay fs e

-- a frame has all on which its declaration depends and which is not done
pub record IsFrame (ds : List Said) (done : List ℕ) (f : Frame) : Type 0 where
  pub sorted : IsNonDecreasing f.left.items
  pub only : (e : ℕ) → Contains f.left.items e → DependsOn ds f.decl e
  pub all : (e : ℕ) → DependsOn ds f.decl e → Contains done e ⊎ Contains f.left.items e
  pub passed : (j : ℕ) → j < f.next → j < length f.left.items → Contains done (slice_index_or f.left.items j 0)

-- each on the way is the first of those that are left on which the one before it depends
abbrev pub IsWay : List Said → List ℕ → Option ℕ → List Frame → Type 0
IsWay ds done o [] = Unit {0}
IsWay ds done o (f ∷ fs) = IsFirstLeft ds done (wants ds o) f.decl × IsFrame ds done f × IsWay ds done (Some f.decl) fs

-- and this one is the next on it
abbrev pub IsNextOn : List Said → List ℕ → List Frame → ℕ → Type 0
IsNextOn ds done way d = IsFirstLeft ds done (wants ds (last_of None way)) d

-- ---- the search

-- it is done or on the way
abbrev pub IsUnder : List ℕ → List Frame → ℕ → Type 0
IsUnder done way e = Contains done e ⊎ IsOnWay way e

pub record AreEntered (ds : List Said) (done : List ℕ) (way : List Frame) (ls : List (Option ℕ)) : Type 0 where
  pub size : length ls ≡ length ds
  pub under : (e : ℕ) → IsLabelled ls e → IsUnder done way e

-- what holds of a search at each step
pub record Stands (ds : List Said) (g : Graph) (done : List ℕ) (ls es : List (Option ℕ)) (fs : List Frame) : Type 0 where
  pub in_turn : AreInTurn ds done
  pub spent : AreSpent ds g done ls
  pub entered : AreEntered ds done fs es
  pub way : IsWay ds done None fs

-- what is left to do: each declaration is entered and is put out
abbrev pub work : Search → ℕ
work s = (count_free s.entered.items + count_free s.entered.items) + length s.way.items

-- it goes on, with less to do; what was under way still is, or is done
pub record Continues (ds : List Said) (g : Graph) (s : Search) (d left : ℕ) (t : Search) : Type 0 where
  pub stands : Stands ds g t.done.items t.spent.items t.entered.items t.way.items
  pub under : (e : ℕ) → IsUnder s.done.items s.way.items e ⊎ (d ≡ e) → IsUnder t.done.items t.way.items e
  pub less : work t < left

-- there is such an element, and it has a label
abbrev pub is_passed : List (Option ℕ) → List ℕ → ℕ → Bool
is_passed ls xs i = nat_lt i (length xs) && is_some (label_of ls (slice_index_or xs i 0))

-- the frame has gone over some that have labels, up to one that has none or the end
pub record Skips (ls : List (Option ℕ)) (f h : Frame) : Type 0 where
  pub decl : h.decl ≡ f.decl
  pub left : h.left.items ≡ f.left.items
  pub passed : (j : ℕ) → j < h.next → j < length f.left.items → (j < f.next) ⊎ IsLabelled ls (slice_index_or f.left.items j 0)
  pub stops : h.next < length f.left.items → label_of ls (slice_index_or f.left.items h.next 0) ≡ None

-- all below a number are done, and nothing is under way
pub record IsAt (ds : List Said) (g : Graph) (k : ℕ) (s : Search) : Type 0 where
  pub stands : Stands ds g s.done.items s.spent.items s.entered.items s.way.items
  pub empty : s.way.items ≡ []
  pub before : (e : ℕ) → e < k → Contains s.done.items e
