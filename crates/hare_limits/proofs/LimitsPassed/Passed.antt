-- How the faults of limits come one behind another.
use Rattle.std.proofs.Common.{ℕ, List, map, None, ◌⊎◌, inl, inr}
use Rattle.hare_tree.specs.declared.place.Fault.{Fault}
use Rattle.hare_tree.specs.declared.stop.Stop.{Stop}
use Rattle.hare_tree.specs.declared.stop.Stop.TheVariants as stop
use Rattle.hare_types.specs.Store.{Store}
use Rattle.hare_typed.specs.Typed.{TypedNode}
use Rattle.hare_typed.specs.Erased.{erase}
use Rattle.hare_whole.specs.Limits.{IsEntry, IsFrameFault, IsSumFault, IsLimitFault, of_entry, of_frame, of_sum}
use Rattle.hare_limits.specs.Stops.{StopsAtEntry, TellsFrame, StopsAtLimit}

pub entry-stops : (paths : List (List ℕ)) (s : Store) (ds : List TypedNode) (e : Stop Fault)
    → StopsAtEntry paths ds e → StopsAtLimit paths s ds e
entry-stops paths s ds (stop.Fault f) h = of_entry h
entry-stops paths s ds stop.Memory h = tt

-- where there is an entry, the fault of a frame or else of a sum is the first
pub passed-limit : (paths : List (List ℕ)) (s : Store) (ds : List TypedNode) (n : ℕ) (f : Fault) → IsEntry paths (map erase ds) n
    → IsFrameFault s ds f ⊎ (TellsFrame s ds None × IsSumFault s ds f) → IsLimitFault paths s ds f
passed-limit paths s ds n f e (inl h) = of_frame n e h
passed-limit paths s ds n f e (inr h) = of_sum n e h.0 h.1
