-- How the calls of limits stop, and what they find.
use Rattle.std.specs.Prelude.{◌≡◌, ◌⊎◌, ℕ, List, length, map, min, slice_get, Option, Some, None, Contains}
use Rattle.hare_tree.specs.declared.place.Fault.{Fault}
use Rattle.hare_tree.specs.declared.stop.Stop.{Stop}
use Rattle.hare_tree.specs.declared.stop.Stop.TheVariants as stop
use Rattle.hare_types.specs.Store.{Store}
use Rattle.hare_typed.specs.Typed.{TypedNode}
use Rattle.hare_typed.specs.Erased.{erase}
use Rattle.hare_costs.specs.Amounts.{most}
use Rattle.hare_whole.specs.Limits.{IsEntryFault, IsFrameFault, IsFramed, global_bytes, IsWithin, IsSumFault, IsLimitFault}

-- a stop at the fault of the entry, or for want of memory
abbrev pub StopsAtEntry : List (List ℕ) → List TypedNode → Stop Fault → Type 0
StopsAtEntry paths ds (stop.Fault f) = IsEntryFault paths (map erase ds) f
StopsAtEntry paths ds stop.Memory = Unit {0}

-- the fault of the first function whose frame is too large, or that there is none
abbrev pub TellsFrame : Store → List TypedNode → Option Fault → Type 0
TellsFrame s ds None = (d : TypedNode) → Contains ds d → IsFramed s d
TellsFrame s ds (Some f) = IsFrameFault s ds f

-- ---- sums

-- These are the bytes of the declarations, of each up to 2^40.
abbrev pub AreBytes : Store → List TypedNode → List ℕ → Type 0
AreBytes s ds bs = (k : ℕ) (d : TypedNode) → slice_get ds k ≡ Some d → slice_get bs k ≡ Some (min (global_bytes s d) most)

-- the fault of the first sum that passes its limit, or that none does
abbrev pub TellsSum : Store → List TypedNode → Option Fault → Type 0
TellsSum s ds None = IsWithin s ds (length ds)
TellsSum s ds (Some f) = IsSumFault s ds f

-- ---- all limits

-- the fault of a frame, or else of a sum, or that there is none
abbrev pub TellsPassed : Store → List TypedNode → Option Fault → Type 0
TellsPassed s ds None = TellsFrame s ds None × TellsSum s ds None
TellsPassed s ds (Some f) = IsFrameFault s ds f ⊎ (TellsFrame s ds None × IsSumFault s ds f)

-- a stop at the first fault of limits, or for want of memory
abbrev pub StopsAtLimit : List (List ℕ) → Store → List TypedNode → Stop Fault → Type 0
StopsAtLimit paths s ds (stop.Fault f) = IsLimitFault paths s ds f
StopsAtLimit paths s ds stop.Memory = Unit {0}
