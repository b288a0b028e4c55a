-- Lists of nodes that wait, by the names for which they wait.
use Rattle.std.specs.Prelude.{◌≡◌, ◌≢◌, ◌⊎◌, ℕ, nat_eq, List, [], map, flat_map, None, Contains}
use Rattle.std.specs.Map.{lookup}
use Rattle.std.specs.Option.{unwrap_or}
use Rattle.hare_types.specs.Store.{Store}
use Rattle.hare_types.specs.ByIds.{extent_at}
use Rattle.hare_waits.specs.declared.waiting.Waiting.{Waiting}
use Rattle.hare_waits.specs.Held.{WaitsFor}

-- the nodes that are listed under a name
abbrev pub listed_under : List (ℕ × List Waiting) → ℕ → List Waiting
listed_under es n = unwrap_or (lookup (nat_eq n) es) []

-- each name with each node that is listed under it
abbrev pub pairs_of : List (ℕ × List Waiting) → List (ℕ × Waiting)
pairs_of es = flat_map (λ e. map (λ w. (e.0, w)) (listed_under es e.0)) es

-- one pair more
pub record Adds (old new : List (ℕ × Waiting)) (x : ℕ × Waiting) : Type 0 where
  pub added : Contains new x
  pub kept : (y : ℕ × Waiting) → Contains old y → Contains new y
  pub only : (y : ℕ × Waiting) → Contains new y → Contains old y ⊎ (y ≡ x)

-- all nodes that wait for a name are taken out
pub record Takes (old new : List (ℕ × Waiting)) (name : ℕ) (ws : List Waiting) : Type 0 where
  pub found : (w : Waiting) → Contains old (name, w) → Contains ws w
  pub taken : (w : Waiting) → Contains ws w → Contains old (name, w)
  pub kept : (n : ℕ) (w : Waiting) → Contains old (n, w) → n ≢ name → Contains new (n, w)
  pub only : (n : ℕ) (w : Waiting) → Contains new (n, w) → Contains old (n, w) × (n ≢ name)

-- the node is entered under a name for which its type waits
pub record IsAwaited (s : Store) (q : List (ℕ × Waiting)) (w : Waiting) : Type 0 where
  pub name : ℕ
  pub entered : Contains q (name, w)
  pub waits : WaitsFor s w.ty name

-- those of some nodes whose bytes are not known wait too
pub record Awaits (s : Store) (old new : List (ℕ × Waiting)) (ws : List Waiting) : Type 0 where
  pub kept : (x : ℕ × Waiting) → Contains old x → Contains new x
  pub awaited : (w : Waiting) → Contains ws w → extent_at s w.ty ≡ None → IsAwaited s new w
  pub only : (n : ℕ) (w : Waiting) → Contains new (n, w) → Contains old (n, w) ⊎ (Contains ws w × WaitsFor s w.ty n)
