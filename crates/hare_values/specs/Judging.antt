-- What is asked before a value is judged, and what the checker says of it.
use Rattle.std.specs.Prelude.{ℕ, List}
use Rattle.hare_tree.specs.declared.place.Fault.{Fault}
use Rattle.hare_tree.specs.declared.stop.Stop.{Stop}
use Rattle.hare_tree.specs.Node.{Node}
use Rattle.hare_types.specs.Store.{Store}
use Rattle.hare_types.specs.Later.{IsLater}
use Rattle.hare_typed.specs.Typed.{TypedNode}
use Rattle.hare_rules.specs.declared.declared.DeclType.{DeclType}
use Rattle.hare_rules.specs.declared.hint.Hint.{Hint}
use Rattle.hare_rules.specs.Finished.{IsTheTree}
use Rattle.hare_agree.specs.Agree.{AgreeOnValues}
use Rattle.hare_walk.specs.Walks.{IsAnswer}
use Rattle.hare_above.specs.Ready.{IsKnown}
use Rattle.hare_check.specs.Walking.{AreKnownDecls}
use Rattle.hare_whole.specs.Declared.{over_value, before_value}
use Rattle.hare_whole.specs.Listing.{Listing}
use Rattle.hare_steps.specs.Plans.{listing}
use Rattle.hare_turns.specs.Stages.{over, AreReadable}
use Rattle.rule_judge.specs.Defined.{IsDefinedHint}
use Rattle.hare_values.specs.declared.value.Program.{Program}

-- the declarations of its files, and what its paths mean
abbrev pub listing_of : Program → Listing
listing_of p = listing p.names.now p.files.now

-- What the value names is known, and what is ready says the same of it; all types of what is ready are defined, and so is the type that is
-- asked for.
pub record CanJudge (p : Listing) (all ready : List DeclType) (s : Store) (h : Hint) (t : Node) : Type 0 where
  pub readable : AreReadable p all t
  pub enough : AgreeOnValues (over p ready s) (over p all s) t
  pub known : IsKnown s ready
  pub decls : AreKnownDecls s ready
  pub hint : IsDefinedHint s h

-- in each later store this is the one typed tree of the value of declaration number n, which is asked for this
abbrev pub IsTreeOf : Listing → List DeclType → Store → ℕ → Hint → Node → TypedNode → Type 0
IsTreeOf p ds s n h t x =
    (f : Store) → IsLater s f → IsTheTree (over p ds f) (over_value (over p ds f) n h) (before_value t) t x

-- In each later store a fault that is told is its first; of want of memory nothing is said.
abbrev pub IsStopOf : Listing → List DeclType → Store → ℕ → Hint → Node → Stop Fault → Type 0
IsStopOf p ds s n h t e =
    (f : Store) → IsLater s f → IsAnswer (over p ds f) (over_value (over p ds f) n h) (before_value t) t e
