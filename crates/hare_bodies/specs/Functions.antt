-- What is said of the body of one function, and what is asked of what is known before bodies are judged.
use Rattle.std.specs.Prelude.{◌≡◌, ℕ, List}
use Rattle.hare_tree.specs.declared.place.Fault.{Fault}
use Rattle.hare_tree.specs.declared.place.Place.{Place}
use Rattle.hare_tree.specs.declared.stop.Stop.{Stop}
use Rattle.hare_tree.specs.declared.stop.Stop.TheVariants.{Fault as Refused, Memory}
use Rattle.hare_tree.specs.declared.token.Meaning.{Meaning}
use Rattle.hare_tree.specs.Node.{Node}
use Rattle.hare_types.specs.Store.{Store}
use Rattle.hare_types.specs.Later.{IsLater}
use Rattle.hare_typed.specs.Typed.{TypedNode}
use Rattle.hare_names.specs.Answers.{meaning_in}
use Rattle.hare_rules.specs.declared.declared.DeclType.{DeclType}
use Rattle.hare_above.specs.Ready.{IsKnown}
use Rattle.hare_check.specs.Walking.{AreKnownDecls}
use Rattle.hare_whole.specs.Listing.{Listing}
use Rattle.hare_whole.specs.Turns.{IsFaultOfBody}
use Rattle.hare_turns.specs.Stages.{over}
use Rattle.hare_turns.specs.Ends.{IsBodyOf}

-- all types that are told of declarations mention only names that are defined
pub record CanJudge (s : Store) (ds : List DeclType) : Type 0 where
  pub known : IsKnown s ds
  pub decls : AreKnownDecls s ds

-- The body of the function with this number and this declaration has this tree in each later store, where paths mean what these names say.
abbrev pub IsTreeOf : List (Place × Meaning) → List DeclType → Store → ℕ → Node → TypedNode → Type 0
IsTreeOf names ds s n t x = (p : Listing) → p.means ≡ meaning_in names → IsBodyOf p ds s n t x

-- The fault that is told is the first of its body, in each later store; of want of memory nothing is said.
abbrev pub IsStopOf : List (Place × Meaning) → List DeclType → Store → ℕ → Node → Stop Fault → Type 0
IsStopOf names ds s n t Memory = Unit {0}
IsStopOf names ds s n t (Refused f) = (p : Listing) → p.means ≡ meaning_in names → (r : Store) → IsLater s r →
    IsFaultOfBody (over p ds r) n t f
