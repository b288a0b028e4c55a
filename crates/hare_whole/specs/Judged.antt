-- The first fault of a program whose files and names have none: of circles, then of declarations, then of bodies, then of limits. A later
-- phase is looked at where all earlier ones found nothing.
use Rattle.std.specs.Prelude.{◌≡◌, ℕ, List, map}
use Rattle.hare_tree.specs.declared.place.Fault.{Fault}
use Rattle.hare_types.specs.Store.{Store}
use Rattle.hare_typed.specs.Typed.{TypedNode}
use Rattle.hare_typed.specs.Erased.{erase}
use Rattle.hare_tree.specs.Node.{Node}
use Rattle.hare_depends.specs.declared.said.Sort.TheVariants as so
use Rattle.hare_depends.specs.Sorts.{sort_of}
use Rattle.hare_depends.specs.Circles.{IsCircleFault}
use Rattle.hare_whole.specs.Listing.{Listing, saids, IsDecl, IsDeclared, DefinesNomem}
use Rattle.hare_whole.specs.Turns.{Stage, setting_at, AreJudged, HasWellBody, IsDeclarationFault, IsBodyFault}
use Rattle.hare_whole.specs.Limits.{IsLimitFault}
use Rattle.hare_whole.specs.Programs.{setting_of, AreWell, AreDefined}

-- these are the typed trees of the declarations
pub record AreTyped (p : Listing) (s : Store) (ds : List TypedNode) : Type 0 where
  pub erases : map erase ds ≡ p.decls
  pub well : AreWell (setting_of s ds p.means) ds
  pub defined : AreDefined s ds

-- what the store is with which the checking ends
pub record IsFinal (p : Listing) (s : Store) : Type 0 where
  pub declared : IsDeclared s p
  pub nomem : DefinesNomem s

-- All declarations have been judged in their order, so that none lies on a circle, and then all bodies.
pub record AreFaultless (p : Listing) (s : Store) : Type 0 where
  pub stage : Stage
  pub judged : AreJudged p s stage
  pub bodies : (n : ℕ) (t : Node) → IsDecl p n t → sort_of t ≡ so.Function → HasWellBody (setting_at p s stage) n t

-- An order of all declarations shows that no declaration lies on a circle: on one none is ever ready. So one phase's fault leaves no other.
pub data IsFaultOfPhases (paths : List (List ℕ)) (p : Listing) (s : Store) (f : Fault) : Type 0 where
  of_circles : IsCircleFault (saids p) f → IsFaultOfPhases paths p s f
  of_declarations : IsFinal p s → IsDeclarationFault p s f → IsFaultOfPhases paths p s f
  of_bodies : IsFinal p s → IsBodyFault p s f → IsFaultOfPhases paths p s f
  of_limits : (ds : List TypedNode) → IsFinal p s → AreFaultless p s → AreTyped p s ds → IsLimitFault paths s ds f →
      IsFaultOfPhases paths p s f
