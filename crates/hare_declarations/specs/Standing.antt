-- What stands when some steps of a plan have been passed: what is known, and what has been judged of each declaration.
use Rattle.std.specs.Prelude.{◌≡◌, ℕ, true, List, [], length, map, take, replicate, slice_get, slice_set, Option, Some, None, IsSome, Contains}
use Rattle.hare_tree.specs.declared.form.Sort.TheVariants as sorts
use Rattle.hare_tree.specs.declared.place.Place.{Place}
use Rattle.hare_tree.specs.declared.token.Meaning.{Meaning}
use Rattle.hare_tree.specs.declared.tree.FileTree.{FileTree}
use Rattle.hare_tree.specs.Node.{Node, head}
use Rattle.hare_tree.specs.Shape.{is_shaped}
use Rattle.hare_types.specs.Store.{Store}
use Rattle.hare_types.specs.Later.{IsLater}
use Rattle.hare_typed.specs.Typed.{TypedNode}
use Rattle.hare_rules.specs.declared.declared.DeclType.{DeclType}
use Rattle.hare_depends.specs.declared.said.Sort.{Sort}
use Rattle.hare_depends.specs.declared.said.Sort.TheVariants as so
use Rattle.hare_depends.specs.Sorts.{sort_of}
use Rattle.hare_saids.specs.Saids.{decls}
use Rattle.hare_whole.specs.Listing.{Listing, IsDeclared, DefinesNomem}
use Rattle.hare_whole.specs.Turns.{Stage, Step, AreAllSteps, typed_at}
use Rattle.hare_steps.specs.declared.planned.Plan.{Plan}
use Rattle.hare_steps.specs.Plans.{listing, step_of, ArePlaces}
use Rattle.hare_turns.specs.Stages.{IsStage, known_of}
use Rattle.hare_turns.specs.Known.{IsKnownAs}
use Rattle.hare_turns.specs.Course.{ArePassed, AreValued}
use Rattle.hare_defined.specs.Known.{AreDefined}
use Rattle.rule_ctl.specs.Declaring.{declares}
use Rattle.hare_written.specs.Program.{AreDefsDefined}
use Rattle.hare_readable.specs.Taken.{AreTaken}
use Rattle.hare_waits.specs.Waits.{AreAwaited}
use Rattle.hare_declarations.specs.declared.parts.Parts.{Parts}
use Rattle.hare_declarations.specs.declared.parts.Judged.{Judged}
use Rattle.hare_declarations.specs.declared.state.State.{State}

-- ---- what has been judged of one declaration

-- nothing
pub record IsUnjudged (g : Stage) (vs : List (ℕ × TypedNode)) (n : ℕ) : Type 0 where
  pub undone : ¬ Contains g.done n
  pub untyped : (ts : List TypedNode) → ¬ Contains g.typed (n, ts)
  pub unvalued : (v : TypedNode) → ¬ Contains vs (n, v)

-- its types, and its value where one stands here
pub record HasParts (g : Stage) (vs : List (ℕ × TypedNode)) (n : ℕ) (q : Parts) : Type 0 where
  pub types : Contains g.typed (n, q.types)
  pub at : typed_at g n ≡ q.types
  pub value : (v : TypedNode) → q.value ≡ Some v → Contains vs (n, v)
  pub valued : (v : TypedNode) → Contains vs (n, v) → IsSome q.value

abbrev pub IsSlot : Stage → List (ℕ × TypedNode) → ℕ → Option Parts → Type 0
IsSlot g vs n None = IsUnjudged g vs n
IsSlot g vs n (Some q) = HasParts g vs n q

-- what has been judged of each declaration, by its number
pub record AreSlots (p : Listing) (g : Stage) (vs : List (ℕ × TypedNode)) (qs : List (Option Parts)) : Type 0 where
  pub count : length qs ≡ length p.decls
  pub each : (n : ℕ) (o : Option Parts) → slice_get qs n ≡ Some o → IsSlot g vs n o

-- ---- what stands

-- These steps have been passed, and this is what is known and what has been judged. Whatever waits, is ready or is defined is so in this
-- store.
pub record IsStanding (p : Listing) (s : Store) (a : State) (xs : List Step) : Type 0 where
  pub stage : Stage
  pub values : List (ℕ × TypedNode)
  pub is_stage : IsStage p s stage values
  pub is_known : IsKnownAs p s stage values
  pub passed : ArePassed p s xs stage
  pub valued : AreValued xs values
  pub same : stage.known ≡ a.known
  pub defs : AreDefsDefined s a.known
  pub taken : AreTaken s a.known a.ready
  pub defined : AreDefined s a.defined
  pub awaited : AreAwaited s a.waits stage.typed
  pub slots : AreSlots p stage values a.slots.items

-- nothing is known of so many declarations, and nothing has been judged of them
pub record IsBeginning (count : ℕ) (a : State) : Type 0 where
  pub known : a.known ≡ []
  pub ready : a.ready ≡ []
  pub defined : a.defined ≡ []
  pub waits : (s : Store) → AreAwaited s a.waits []
  pub slots : a.slots.items ≡ replicate count None

-- this is what is known, and what has been judged of each declaration: something of all
pub record IsTaken (a : State) (j : Judged) : Type 0 where
  pub known : j.known ≡ a.known
  pub parts : map Some j.parts ≡ a.slots.items

-- all types are declared still, and `rt::nomem` is defined
pub record StaysDeclared (p : Listing) (old new : Store) : Type 0 where
  pub later : IsLater old new
  pub declared : IsDeclared new p
  pub nomem : DefinesNomem new

-- ---- one declaration

-- nothing is known of it, and nothing of it has been judged
pub record IsNew (a : State) (n : ℕ) : Type 0 where
  pub slot : slice_get a.slots.items n ≡ Some None
  pub unknown : known_of a.known n ≡ None

abbrev pub IsUnknown : List DeclType → ℕ → Sort → Type 0
IsUnknown ds n so.Constant = known_of ds n ≡ None
IsUnknown ds n _ = Unit {0}

-- it is a def or a global, and of one that is known by its value nothing is known yet
pub record CanValue (ds : List DeclType) (n : ℕ) (t : Node) : Type 0 where
  pub declares : declares (head t).kind ≡ true
  pub unknown : IsUnknown ds n (sort_of t)

-- what has been judged of it is taken out of its slot
pub record TakesSlot (old new : List (Option Parts)) (n : ℕ) (q : Parts) : Type 0 where
  pub there : slice_get old n ≡ Some (Some q)
  pub left : new ≡ slice_set old n None

-- ---- the plan

-- the steps of the plan before this one
abbrev pub steps_before : Plan → ℕ → List Step
steps_before q i = map step_of (take i q.steps.items)

-- the plan is that of these files, where paths mean this; and each declaration is shaped
pub record IsPlanned (names : List (Place × Meaning)) (files : List FileTree) (q : Plan) : Type 0 where
  pub shaped : (t : Node) → Contains (decls files) t → is_shaped sorts.Decl t ≡ true
  pub places : ArePlaces files q.places.items
  pub steps : AreAllSteps (listing names files) (map step_of q.steps.items)
