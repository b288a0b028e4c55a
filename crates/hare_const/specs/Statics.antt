-- The objects to which a constant may lead: those of strings and of constants that stand in its tree, and those that its evaluation makes.
use Rattle.std.specs.Prelude.{◌≡◌, ℕ, zero, suc, List, [], ◌∷◌, ◌++◌, flat_map, Contains, Option, Some, None, unwrap_or}
use Rattle.hare_types.specs.Store.{Store}
use Rattle.hare_types.specs.Unions.{put_all}
use Rattle.hare_typed.specs.declared.cell.Cell.{Cell}
use Rattle.hare_typed.specs.declared.constant.ConstObject.{ConstObject}
use Rattle.hare_typed.specs.Typed.{TypedNode}
use Rattle.hare_typed.specs.ConstantValues.{listed_objects}
use Rattle.hare_typed.specs.Coherent.{statics_in}
use Rattle.hare_typed.specs.Leads.{leads}
use Rattle.hare_typed.specs.Folded.{objects_behind}
use Rattle.hare_const.specs.Made.{made_by}

-- all that there are when the evaluation comes to cells: those that it makes come last
abbrev pub objects_in : Store → (own : ℕ) → TypedNode → List ConstObject
objects_in s own t = statics_in own t ++ made_by s own t

-- those of them to which cells lead, directly or through such objects
abbrev pub objects_led_to : List ConstObject → List Cell → List ConstObject
objects_led_to os cs = objects_behind (listed_objects os) cs

-- ---- what is reached where the cells of objects are looked up

-- an object that is not there has no cells
abbrev pub cells_by : (ℕ → Option (List Cell)) → ℕ → List Cell
cells_by find n = unwrap_or (find n) []

-- the numbers that are reached from these in so many steps, in ascending order
abbrev pub reached_by : (ℕ → Option (List Cell)) → ℕ → List ℕ → List ℕ
reached_by find zero ns = ns
reached_by find (suc k) ns = reached_by find k (put_all (flat_map (λ n. leads (cells_by find n)) ns) ns)

abbrev pub listed_by : (ℕ → Option (List Cell)) → List ℕ → List ConstObject
listed_by find [] = []
listed_by find (n ∷ ns) = record { object = n; cells = cells_by find n } ∷ listed_by find ns

-- to what the object with this number leads, where there is a number
abbrev pub led_from : (ℕ → Option (List Cell)) → Option ℕ → List ℕ
led_from find None = []
led_from find (Some n) = leads (cells_by find n)

-- behind those that stood there stand others: with them all of these do, and none that is not one of these
pub record Adds (ns old new : List ℕ) : Type 0 where
  pub others : List ℕ
  pub behind : new ≡ old ++ others
  pub all : (n : ℕ) → Contains ns n → Contains new n
  pub only : (n : ℕ) → Contains others n → Contains ns n
