-- What the judging of the value of a declaration comes to, where it has a fault.
use Rattle.std.specs.Prelude.{ℕ, List}
use Rattle.hare_tree.specs.declared.place.Fault.{Fault}
use Rattle.hare_tree.specs.declared.stop.Stop.{Stop}
use Rattle.hare_tree.specs.declared.stop.Stop.TheVariants.{Fault as Refused, Memory}
use Rattle.hare_tree.specs.Node.{Node}
use Rattle.hare_types.specs.Store.{Store}
use Rattle.hare_typed.specs.Typed.{TypedNode}
use Rattle.hare_rules.specs.declared.declared.DeclType.{DeclType}
use Rattle.hare_whole.specs.Listing.{Listing}
use Rattle.hare_turns.specs.Laws.{IsValueFaulty}

-- a fault that is told is in each later store that of the value, or of the declaration itself; of want of memory nothing is said
abbrev pub IsValueStop : Listing → List DeclType → Store → ℕ → Node → List TypedNode → Stop Fault → Type 0
IsValueStop p ds s n t ts Memory = Unit {0}
IsValueStop p ds s n t ts (Refused f) = IsValueFaulty p ds s n t ts f
