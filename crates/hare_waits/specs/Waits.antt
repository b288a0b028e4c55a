-- What waits while declarations are judged, and which type turns out to be too large once a name is defined.
use Rattle.std.specs.Prelude.{◌≡◌, ◌≢◌, ℕ, ◌<◌, List, slice_get, Some, Contains}
use Rattle.hare_tree.specs.declared.place.Place.{Place}
use Rattle.hare_tree.specs.Node.{head}
use Rattle.hare_types.specs.Store.{Store, definition_of}
use Rattle.hare_types.specs.Later.{IsLater}
use Rattle.hare_typed.specs.Typed.{TypedNode}
use Rattle.hare_typed.specs.Erased.{erase}
use Rattle.hare_rules.specs.Context.{place_of}
use Rattle.hare_seen.specs.Sizes.{nodes_of_types, AllFit, StandIn, IsFirstLarge}
use Rattle.hare_waits.specs.declared.waiting.Waiting.{Waiting}
use Rattle.hare_waits.specs.Held.{WaitsFor}
use Rattle.hare_waits.specs.Nodes.{IsUnmeasured, kept_of}
use Rattle.hare_waits.specs.Lists.{IsAwaited}

-- ---- what waits

-- the node stands in the written types of this declaration, behind so many others in check order
pub record IsNode (js : List (ℕ × List TypedNode)) (m o : ℕ) (y : TypedNode) : Type 0 where
  pub types : List TypedNode
  pub judged : Contains js (m, types)
  pub stands : slice_get (nodes_of_types types) o ≡ Some y

-- what is kept of a node whose bytes are not known, under a name for which its type waits
pub record IsWaiting (s : Store) (js : List (ℕ × List TypedNode)) (n : ℕ) (w : Waiting) : Type 0 where
  pub node : TypedNode
  pub stands : IsNode js w.decl w.order node
  pub unmeasured : IsUnmeasured s node w.ty
  pub place : place_of node ≡ w.place
  pub waits : WaitsFor s w.ty n

-- Of the written types of declarations that were judged, each with these: all are in the store, and each node fits as far as its bytes are
-- known. A node whose bytes are not known is entered under a name for which it waits, and nothing else is entered.
pub record AreAwaited (s : Store) (q : List (ℕ × Waiting)) (js : List (ℕ × List TypedNode)) : Type 0 where
  pub stand : (m : ℕ) (ts : List TypedNode) → Contains js (m, ts) → StandIn s ts
  pub fit : (m : ℕ) (ts : List TypedNode) → Contains js (m, ts) → AllFit s ts
  pub awaited : (m o u : ℕ) (y : TypedNode) → IsNode js m o y → IsUnmeasured s y u → IsAwaited s q (kept_of m o y u)
  pub no_other : (n : ℕ) (w : Waiting) → Contains q (n, w) → IsWaiting s js n w

-- ---- once a name is defined

-- the later store defines this name, and no other one more
pub record DefinesAlso (s0 s : Store) (n : ℕ) : Type 0 where
  pub later : IsLater s0 s
  pub others : (d : ℕ) → d ≢ n → definition_of s d ≡ definition_of s0 d

-- Of the declarations that were judged this is the first, by number, that has a type that is too large; its first such node in check order
-- has this place.
pub record IsLate (s : Store) (js : List (ℕ × List TypedNode)) (m : ℕ) (p : Place) : Type 0 where
  pub types : List TypedNode
  pub judged : Contains js (m, types)
  pub node : TypedNode
  pub order : ℕ
  pub first : IsFirstLarge s types order node
  pub place : (head (erase node)).place ≡ p
  pub before : (k : ℕ) (us : List TypedNode) → Contains js (k, us) → k < m → AllFit s us
