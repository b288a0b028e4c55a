-- What the judging of the written types of a declaration comes to.
use Rattle.std.specs.Prelude.{ℕ, List}
use Rattle.hare_tree.specs.declared.place.Fault.{Fault}
use Rattle.hare_tree.specs.declared.stop.Stop.{Stop}
use Rattle.hare_tree.specs.declared.stop.Stop.TheVariants.{Fault as Refused, Memory}
use Rattle.hare_tree.specs.Node.{Node}
use Rattle.hare_types.specs.Store.{Store}
use Rattle.hare_typed.specs.Typed.{TypedNode}
use Rattle.hare_seen.specs.Sizes.{AllFit}
use Rattle.hare_rules.specs.declared.declared.DeclType.{DeclType}
use Rattle.hare_whole.specs.Listing.{Listing}
use Rattle.hare_turns.specs.Stages.{AreTypesOf}
use Rattle.hare_turns.specs.Laws.{AreTypesFaulty}

-- the written types of the declaration have these trees, and no type of them is too large so far
pub record IsSignature (p : Listing) (ds : List DeclType) (s : Store) (n : ℕ) (t : Node) (ts : List TypedNode) : Type 0 where
  pub types : AreTypesOf p ds s n t ts
  pub fit : AllFit s ts

-- a fault that is told is theirs as long as no more is known of the bytes of types; of want of memory nothing is said
abbrev pub IsSignatureStop : Listing → List DeclType → Store → ℕ → Node → Stop Fault → Type 0
IsSignatureStop p ds s n t Memory = Unit {0}
IsSignatureStop p ds s n t (Refused f) = AreTypesFaulty p ds s n t f
