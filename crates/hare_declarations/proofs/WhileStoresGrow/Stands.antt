-- What stands goes on to do so as the store grows; and how steps of a plan are passed, and stop.
use Rattle.std.proofs.Common.{◌≡◌, ℕ, ◌+◌, List, [], ◌∷◌, ◌++◌, map, drop, Some, inl, inr, subst}
use Rattle.std.specs.Prelude.{slice_get}
use Rattle.std.proofs.lemmas.List.Elements.{Contains-push_cases}
use Rattle.hare_tree.specs.declared.place.Fault.{Fault}
use Rattle.hare_tree.specs.declared.place.Place.{Place}
use Rattle.hare_tree.specs.declared.stop.Stop.TheVariants.{Fault as Refused}
use Rattle.hare_tree.specs.declared.token.Meaning.{Meaning}
use Rattle.hare_tree.specs.declared.tree.FileTree.{FileTree}
use Rattle.hare_types.specs.Store.{Store}
use Rattle.hare_types.specs.Sound.{IsStore}
use Rattle.hare_types.proofs.LaterLemmas.{later_trans}
use Rattle.hare_typed.specs.Typed.{TypedNode}
use Rattle.hare_whole.specs.Listing.{Listing}
use Rattle.hare_whole.specs.Turns.{Step, Types, Value, Done, Fails, AreAllSteps}
use Rattle.hare_steps.specs.declared.planned.Plan.{Plan}
use Rattle.hare_steps.specs.declared.step.Step as st
use Rattle.hare_steps.specs.Plans.{listing, step_of}
use Rattle.hare_turns.specs.Stages.{IsEnd}
use Rattle.hare_turns.specs.Laws.{IsGrownTo}
use Rattle.hare_turns.specs.Course.{AreValued}
use Rattle.hare_turns.specs.Ends.{IsDeclarationStop}
use Rattle.hare_defined.proofs.StayLemmas.{defined_types_stay}
use Rattle.hare_walk.specs.Grown.{IsGrown}
use Rattle.hare_written.proofs.PartOfType.Known.{defs-stay}
use Rattle.hare_declarations.specs.declared.state.State.{State}
use Rattle.hare_declarations.specs.Laws.{AreLaws}
use Rattle.hare_declarations.specs.Standing.{IsStanding, IsPlanned, StaysDeclared, steps_before}
use Rattle.hare_declarations.proofs.JudgedByStage.Lists.{map-split}
use Rattle.hare_declarations.proofs.WhileStoresGrow.Stores.{grown-to}
use Rattle.hare_declarations.proofs.WhileStoresGrow.Ready.{taken-later}

-- ---- in later stores

pub standing-grown : AreLaws → (p : Listing) (s r : Store) (a : State) (xs : List Step) → IsGrownTo s r → IsStanding p s a xs →
    IsStanding p r a xs
standing-grown w p s r a xs k h = record {
  stage = h.stage;
  values = h.values;
  is_stage = w.stages_stay p s r h.stage h.values h.is_stage k;
  is_known = (w.stages_are_known p s h.stage h.values h.is_stage h.is_known).stay r k.later;
  passed = (w.steps_go_together p s xs h.stage h.passed).stay r k.later;
  valued = h.valued;
  same = h.same;
  defs = defs-stay s r h.is_stage.sound k.later a.known h.defs;
  taken = taken-later s r h.is_stage.sound k.later a.known a.ready h.taken;
  defined = defined_types_stay s r a.defined h.is_stage.sound k.later h.defined;
  awaited = w.waits_stay s r a.waits h.stage.typed h.awaited k.later k.same;
  slots = h.slots;
}

-- where a store has been walked over
pub standing-walked : AreLaws → (p : Listing) (s r : Store) (a : State) (xs : List Step) → IsStore r → IsGrown s r → IsStanding p s a xs →
    IsStanding p r a xs
standing-walked w p s r a xs v g h = standing-grown w p s r a xs (grown-to s r v g) h

-- what stands declares all types
pub stays-walked : AreLaws → (p : Listing) (s r : Store) (a : State) (xs : List Step) → IsStore r → IsGrown s r → IsStanding p s a xs →
    StaysDeclared p s r
stays-walked w p s r a xs v g h =
    let k = standing-walked w p s r a xs v g h in
    record { later = (grown-to s r v g).later; declared = k.is_stage.declared; nomem = k.is_stage.nomem }

pub stays-trans : (p : Listing) (s r f : Store) → StaysDeclared p s r → StaysDeclared p r f → StaysDeclared p s f
stays-trans p s r f h k = record { later = later_trans s r f h.later k.later; declared = k.declared; nomem = k.nomem }

-- ---- values of steps

pub valued-types : (xs : List Step) (vs : List (ℕ × TypedNode)) (m : ℕ) → AreValued xs vs → AreValued (xs ++ Types m ∷ []) vs
valued-types xs vs m h n c = elim (Contains-push_cases xs (Types m) (Value n) c) [ inl k ↦ h n k | inr e ↦ absurd cc ]

pub valued-done : (xs : List Step) (vs : List (ℕ × TypedNode)) (m : ℕ) → AreValued xs vs → AreValued (xs ++ Done m ∷ []) vs
valued-done xs vs m h n c = elim (Contains-push_cases xs (Done m) (Value n) c) [ inl k ↦ h n k | inr e ↦ absurd cc ]

-- ---- the plan

-- the fault of a step of the plan is the first, where those before it have been passed
pub step-stops : AreLaws →
    (names : List (Place × Meaning)) (files : List FileTree) (q : Plan) (i : ℕ) (x : st.Step) (s : Store) (a : State) →
    IsPlanned names files q → slice_get q.steps.items i ≡ Some x → (h : IsStanding (listing names files) s a (steps_before q i)) →
    (f : Fault) →
    ((l : Store) → IsEnd (listing names files) s l → Fails (listing names files) l h.stage f (step_of x)) →
    IsDeclarationStop (listing names files) s (Refused f)
step-stops w names files q i x s a planned there h f fails =
    w.steps_stop (listing names files) s (steps_before q i) (map step_of (drop (i + 1) q.steps.items)) (step_of x) h.stage f
    (subst (λ ys. AreAllSteps (listing names files) ys) (map-split step_of q.steps.items i x there) planned.steps) h.passed fails
