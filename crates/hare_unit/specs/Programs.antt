-- What it means that a program is checked, and what its first fault is.
use Rattle.std.specs.Prelude.{◌≡◌, ℕ, List, map}
use Rattle.hare_tree.specs.declared.place.Place.{Place}
use Rattle.hare_tree.specs.declared.place.Fault.{Fault}
use Rattle.hare_tree.specs.declared.stop.Stop.{Stop}
use Rattle.hare_tree.specs.declared.stop.Stop.TheVariants.{Fault as Refused, Memory}
use Rattle.hare_tree.specs.declared.token.Meaning.{Meaning}
use Rattle.hare_tree.specs.declared.tree.FileTree.{FileTree}
use Rattle.hare_types.specs.Store.{Store}
use Rattle.hare_types.specs.Sound.{IsStore}
use Rattle.hare_typed.specs.Typed.{TypedNode}
use Rattle.hare_typed.specs.Erased.{erase}
use Rattle.hare_names.specs.Answers.{meaning_in}
use Rattle.hare_sources.specs.declared.named.Named.{Named}
use Rattle.hare_sources.specs.Named.{AreNamed, IsEarlyFault}
use Rattle.hare_saids.specs.Saids.{decls}
use Rattle.hare_steps.specs.Plans.{listing}
use Rattle.hare_depends.specs.Circles.{IsCircleFault}
use Rattle.hare_whole.specs.Listing.{Listing, saids}
use Rattle.hare_whole.specs.Judged.{IsFinal, AreTyped, AreFaultless, IsFaultOfPhases}
use Rattle.hare_whole.specs.Tags.{tag_list}
use Rattle.hare_whole.specs.Limits.{AreWithinLimits, IsLimitFault}
use Rattle.hare_whole.specs.Programs.{IsComplete}
use Rattle.hare_turns.specs.Stages.{IsEnd}
use Rattle.hare_sole.specs.Checked.{AreChecked}
use Rattle.hare_unit.specs.declared.phases.Typing.{Typing}
pub use Rattle.hare_unit.specs.declared.checked.Checked.{Checked}

-- ---- a checked program

-- The program is whole, it has these paths, its trees erase to the declarations of the files, in their order, and each path means what the
-- names of these files say.
pub record IsChecked (paths srcs : List (List ℕ)) (c : Checked) : Type 0 where
  pub trees : List FileTree
  pub named : AreNamed paths srcs trees (meaning_in c.names)
  pub paths_are : c.program.paths ≡ paths
  pub erases : map erase c.program.decls ≡ decls trees
  pub complete : IsComplete c.program.types paths c.program.decls (meaning_in c.names) c.program.entry

-- ---- stores with which the checking may end

-- Over a store that lacks a type nothing can be asked to have that type: without `bool` no condition is looked at. So what is found over one
-- store is said of a program only where it is found over each store that goes on from it, too, with more types and more names of fields:
-- this is found over a store with which the checking may end, and over each that goes on from it.
pub record OverEnds (p : Listing) (s : Store) (found : Store → Type 0) : Type 0 where
  pub final : IsFinal p s
  pub each : (l : Store) → IsEnd p s l → found l

-- no declaration and no body has a fault, and these are the typed trees
pub record AreJudged (p : Listing) (ds : List TypedNode) (s : Store) : Type 0 where
  pub faultless : AreFaultless p s
  pub typed : AreTyped p s ds

-- ---- the first fault

-- what the phases behind names look at
abbrev pub listing_by : List FileTree → (Place → Meaning) → Listing
listing_by trees means = record { decls = decls trees; means = means }

-- The first fault of the phases behind names. That of circles rests on no types. That of a frame or of a sum is one of the trees over the
-- store that they have; all else is found over each store that goes on.
pub data IsFaultBehindNames (paths : List (List ℕ)) (p : Listing) (f : Fault) : Type 0 where
  of_circles : IsCircleFault (saids p) f → IsFaultBehindNames paths p f
  of_each : (s : Store) → OverEnds p s (λ l. IsFaultOfPhases paths p l f) → IsFaultBehindNames paths p f
  of_limits : (s : Store) (ds : List TypedNode) → OverEnds p s (AreJudged p ds) → IsLimitFault paths s ds f → IsFaultBehindNames paths p f

-- It is the first of files and names; or where they have none the first of the phases behind them.
pub data IsFaultOfProgram (paths srcs : List (List ℕ)) (f : Fault) : Type 0 where
  early : IsEarlyFault paths srcs f → IsFaultOfProgram paths srcs f
  late : (trees : List FileTree) (means : Place → Meaning) → AreNamed paths srcs trees means →
      IsFaultBehindNames paths (listing_by trees means) f → IsFaultOfProgram paths srcs f

-- a fault that is told is the first; of want of memory nothing is said
abbrev pub IsProgramStop : List (List ℕ) → List (List ℕ) → Stop Fault → Type 0
IsProgramStop paths srcs Memory = Unit {0}
IsProgramStop paths srcs (Refused f) = IsFaultOfProgram paths srcs f

-- ---- that there is no other

-- the first fault of files and names, and the only one of the program; so no trees have names that are sound
pub record IsOnlyEarlyFault (paths srcs : List (List ℕ)) (f : Fault) : Type 0 where
  pub fault : IsEarlyFault paths srcs f
  pub only : (g : Fault) → IsFaultOfProgram paths srcs g → g ≡ f
  pub unnamed : (trees : List FileTree) (means : Place → Meaning) → ¬ AreNamed paths srcs trees means

-- the first fault of circles, and the only one of the program; so over no store typed trees pass all phases
pub record IsOnlyCircleFault (paths srcs : List (List ℕ)) (f : Fault) : Type 0 where
  pub trees : List FileTree
  pub means : Place → Meaning
  pub named : AreNamed paths srcs trees means
  pub fault : IsCircleFault (saids (listing_by trees means)) f
  pub only : (g : Fault) → IsFaultOfProgram paths srcs g → g ≡ f
  pub unchecked : (s : Store) (ds : List TypedNode) (entry : ℕ) → ¬ AreChecked paths (listing_by trees means) s ds entry

-- the first fault of the phases behind names over this store, and the only one; so no typed trees pass them all
pub record IsOnlyFaultOfPhases (paths : List (List ℕ)) (p : Listing) (f : Fault) (s : Store) : Type 0 where
  pub fault : IsFaultOfPhases paths p s f
  pub only : (g : Fault) → IsFaultOfPhases paths p s g → g ≡ f
  pub unchecked : (ds : List TypedNode) (entry : ℕ) → ¬ AreChecked paths p s ds entry

-- The first fault of a program is the only one: of files and names, and of circles, whatever the store; else over a store with which the
-- checking may end, and over each that goes on from it. Where it is that of a frame or of a sum it is the only one over the store alone.
pub data IsOnlyFaultOfProgram (paths srcs : List (List ℕ)) (f : Fault) : Type 0 where
  early : IsOnlyEarlyFault paths srcs f → IsOnlyFaultOfProgram paths srcs f
  of_circles : IsOnlyCircleFault paths srcs f → IsOnlyFaultOfProgram paths srcs f
  of_each : (trees : List FileTree) (means : Place → Meaning) (s : Store) → AreNamed paths srcs trees means →
      OverEnds (listing_by trees means) s (IsOnlyFaultOfPhases paths (listing_by trees means) f) → IsOnlyFaultOfProgram paths srcs f
  of_limits : (trees : List FileTree) (means : Place → Meaning) (s : Store) (ds : List TypedNode) → AreNamed paths srcs trees means →
      OverEnds (listing_by trees means) s (AreJudged (listing_by trees means) ds) →
      IsOnlyFaultOfPhases paths (listing_by trees means) f s → IsOnlyFaultOfProgram paths srcs f

-- the same of a fault that is told; of want of memory nothing is said
abbrev pub IsOnlyProgramStop : List (List ℕ) → List (List ℕ) → Stop Fault → Type 0
IsOnlyProgramStop paths srcs Memory = Unit {0}
IsOnlyProgramStop paths srcs (Refused f) = IsOnlyFaultOfProgram paths srcs f

-- A program that is checked has no fault of files and names, and over the store with which its checking ended none of the phases behind
-- them. Over each store that goes on from it all has been judged with the same trees, so that no fault is left there but one of limits.
pub record IsFaultless (paths srcs : List (List ℕ)) (c : Checked) : Type 0 where
  pub trees : List FileTree
  pub named : AreNamed paths srcs trees (meaning_in c.names)
  pub early : (f : Fault) → ¬ IsEarlyFault paths srcs f
  pub checked : AreChecked paths (listing_by trees (meaning_in c.names)) c.program.types c.program.decls c.program.entry
  pub late : (f : Fault) → ¬ IsFaultOfPhases paths (listing_by trees (meaning_in c.names)) c.program.types f
  pub judged : OverEnds (listing_by trees (meaning_in c.names)) c.program.types
      (AreJudged (listing_by trees (meaning_in c.names)) c.program.decls)
  pub left : (l : Store) (f : Fault) → IsEnd (listing_by trees (meaning_in c.names)) c.program.types l →
      IsFaultOfPhases paths (listing_by trees (meaning_in c.names)) l f → IsLimitFault paths l c.program.decls f

-- ---- that two stores tell the same

-- The files of a program have one list of trees, and their paths one meaning.
abbrev pub NamesAreOne : Type 0
NamesAreOne =
    (paths srcs : List (List ℕ)) (ts us : List FileTree) (m n : Place → Meaning)
    → AreNamed paths srcs ts m
    → AreNamed paths srcs us n
    → (ts ≡ us) × (m ≡ n)

-- Two faults that are found over each store that goes on from two stores are one where some store goes on from both.
abbrev pub FaultsMeet : Type 0
FaultsMeet =
    (paths : List (List ℕ)) (p : Listing) (s r l : Store) (f g : Fault)
    → OverEnds p s (λ k. IsFaultOfPhases paths p k f)
    → OverEnds p r (λ k. IsFaultOfPhases paths p k g)
    → IsEnd p s l
    → IsEnd p r l
    → f ≡ g

-- Where all is judged over each store that goes on from the first, the fault over the others is one of limits.
abbrev pub JudgedMeetLimits : Type 0
JudgedMeetLimits =
    (paths : List (List ℕ)) (p : Listing) (s r l : Store) (ds : List TypedNode) (f : Fault)
    → OverEnds p s (AreJudged p ds)
    → OverEnds p r (λ k. IsFaultOfPhases paths p k f)
    → IsEnd p s l
    → IsEnd p r l
    → IsLimitFault paths l ds f

-- ---- the phases from names to bodies

abbrev pub listing_of : Named → Listing
listing_of n = listing n.names n.files

-- all is judged, with these trees, whatever store the checking goes on to end with
abbrev pub IsTypedBy : Named → Typing → Type 0
IsTypedBy n t = OverEnds (listing_of n) t.types (AreJudged (listing_of n) t.decls)

-- whatever the paths, the fault is that of the phases up to bodies
abbrev pub IsPhaseStop : Named → Stop Fault → Type 0
IsPhaseStop n Memory = Unit {0}
IsPhaseStop n (Refused f) = (paths : List (List ℕ)) → IsFaultBehindNames paths (listing_of n) f

-- ---- limits

-- The checking has ended: all is judged, the list of tags is made anew, and no limit is passed.
pub record IsEnded (paths : List (List ℕ)) (n : Named) (t : Typing) (entry : ℕ) : Type 0 where
  pub sound : IsStore t.types
  pub judged : IsTypedBy n t
  pub tags : t.types.listed ≡ tag_list t.types t.decls
  pub limits : AreWithinLimits paths t.types t.decls entry

-- the fault is that of limits, behind all other phases
abbrev pub IsLimitStop : List (List ℕ) → Named → Stop Fault → Type 0
IsLimitStop paths n Memory = Unit {0}
IsLimitStop paths n (Refused f) = IsFaultBehindNames paths (listing_of n) f
