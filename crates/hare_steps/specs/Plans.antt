-- The steps in which the declarations of files are judged, and where each declaration stands.
use Rattle.std.specs.Prelude.{◌≡◌, List, map, slice_get, Option, Some, option_and_then}
use Rattle.hare_tree.specs.declared.place.Place.{Place}
use Rattle.hare_tree.specs.declared.place.Fault.{Fault}
use Rattle.hare_tree.specs.declared.stop.Stop.{Stop}
use Rattle.hare_tree.specs.declared.stop.Stop.TheVariants as stop
use Rattle.hare_tree.specs.declared.token.Meaning.{Meaning}
use Rattle.hare_tree.specs.declared.tree.FileTree.{FileTree}
use Rattle.hare_tree.specs.Node.{Node}
use Rattle.hare_names.specs.Answers.{meaning_in}
use Rattle.hare_depends.specs.declared.said.Said.{Said}
use Rattle.hare_depends.specs.Circles.{IsCircleFault}
use Rattle.hare_saids.specs.Saids.{decls}
use Rattle.hare_whole.specs.Listing.{Listing}
use Rattle.hare_whole.specs.Turns as whole
use Rattle.hare_steps.specs.declared.step.Step.{Step}
use Rattle.hare_steps.specs.declared.step.Step.TheVariants as st
use Rattle.hare_steps.specs.declared.listed.DeclPlace.{DeclPlace}

-- the declarations of files, where paths mean this
abbrev pub listing : List (Place × Meaning) → List FileTree → Listing
listing names files = record { decls = decls files; means = meaning_in names }

abbrev pub step_of : Step → whole.Step
step_of (st.Types n) = whole.Types n
step_of (st.Value n) = whole.Value n
step_of (st.Done n) = whole.Done n

-- a stop at the fault of circles, or for want of memory
abbrev pub StopsAtCircle : List Said → Stop Fault → Type 0
StopsAtCircle ds (stop.Fault f) = IsCircleFault ds f
StopsAtCircle ds stop.Memory = Unit {0}

-- ---- places

-- the declaration that stands there
abbrev pub decl_at : List FileTree → DeclPlace → Option Node
decl_at fs p = option_and_then (λ f. slice_get f.decls p.decl) (slice_get fs p.file)

-- at these places stand the declarations of files, by their numbers
abbrev pub ArePlaces : List FileTree → List DeclPlace → Type 0
ArePlaces fs ps = map (decl_at fs) ps ≡ map Some (decls fs)
