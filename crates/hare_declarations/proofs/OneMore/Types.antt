-- The written types of one declaration more have been judged, or have a fault.
use Rattle.std.proofs.Common.{◌≡◌, ℕ, List, [], ◌∷◌, ◌++◌, Some, None, refl, ap, sym, ◌∙◌, subst}
use Rattle.std.specs.Prelude.{slice_get, slice_set}
use Rattle.std.proofs.lemmas.Option.{slice_get_within}
use Rattle.hare_tree.specs.declared.place.Fault.{Fault}
use Rattle.hare_tree.specs.declared.place.Place.{Place}
use Rattle.hare_tree.specs.declared.stop.Stop.{Stop}
use Rattle.hare_tree.specs.declared.stop.Stop.TheVariants.{Fault as Refused, Memory}
use Rattle.hare_tree.specs.declared.token.Meaning.{Meaning}
use Rattle.hare_tree.specs.declared.tree.FileTree.{FileTree}
use Rattle.hare_tree.specs.Node.{Node, head}
use Rattle.hare_types.specs.Store.{Store}
use Rattle.hare_types.specs.Later.{IsLater}
use Rattle.hare_types.proofs.LaterLemmas.{later_here}
use Rattle.hare_typed.specs.Typed.{TypedNode}
use Rattle.hare_seen.specs.Sizes.{AllFit}
use Rattle.hare_depends.specs.Sorts.{sort_of}
use Rattle.hare_whole.specs.Listing.{Listing, IsDecl}
use Rattle.hare_whole.specs.Turns.{Stage, Step, Types, known_by_types}
use Rattle.hare_steps.specs.declared.planned.Plan.{Plan}
use Rattle.hare_steps.specs.declared.step.Step.TheVariants as st
use Rattle.hare_steps.specs.Plans.{listing}
use Rattle.hare_turns.specs.Stages.{AreTypesOf, known_of}
use Rattle.hare_turns.specs.Laws.{IsNewIn, AreKnownByTypes, AreTypesFaulty, GoesOn}
use Rattle.hare_turns.specs.Ends.{IsDeclarationStop}
use Rattle.hare_signatures.specs.Signatures.{IsSignatureStop}
use Rattle.hare_defined.specs.Known.{AreDefined}
use Rattle.hare_written.specs.Program.{AreDefsDefined}
use Rattle.hare_readable.specs.Taken.{AreTaken}
use Rattle.hare_waits.specs.Waits.{AreAwaited}
use Rattle.hare_declarations.specs.declared.state.State.{State}
use Rattle.hare_declarations.specs.Laws.{AreLaws}
use Rattle.hare_declarations.specs.Standing.{IsStanding, IsPlanned, IsNew, steps_before}
use Rattle.hare_declarations.proofs.WhileStoresGrow.Ready.{taken-more}
use Rattle.hare_declarations.proofs.JudgedByStage.Slots.{same-types, slot-types, slots-write}
use Rattle.hare_declarations.proofs.WhileStoresGrow.Stands.{valued-types, step-stops}

-- from what stood before to what stands then, the types of the declaration have been judged
pub record JudgesTypes (p : Listing) (r : Store) (a b : State) (n : ℕ) (t : Node) (ts : List TypedNode) : Type 0 where
  pub is_there : IsDecl p n t
  pub new : IsNew a n
  pub types : AreTypesOf p a.known r n t ts
  pub fit : AllFit r ts
  pub known : (l : Store) → IsLater r l → b.known ≡ a.known ++ known_by_types l n (head t).kind (sort_of t) ts
  pub ready : b.ready ≡ a.ready
  pub defined : b.defined ≡ a.defined
  pub waits : (js : List (ℕ × List TypedNode)) → AreAwaited r a.waits js → AreAwaited r b.waits ((n, ts) ∷ js)
  pub slots : b.slots.items ≡ slice_set a.slots.items n (Some (record { types = ts; value = None }))
  pub defs : AreDefsDefined r b.known

module _ (w : AreLaws) (p : Listing) (r : Store) (a b : State) (xs : List Step) (n : ℕ) (t : Node) (ts : List TypedNode)
    (h : IsStanding p r a xs)
    (j : JudgesTypes p r a b n t ts) where
  abbrev then : Stage
  then = record { done = h.stage.done; known = b.known; typed = (n, ts) ∷ h.stage.typed }

  new-in : IsNewIn h.stage h.values n
  new-in =
      let q = h.slots.each n None j.new.slot in
      record {
        unknown = ap (λ ds. known_of ds n) h.same ∙ j.new.unknown;
        undone = q.undone;
        untyped = q.untyped;
        unvalued = q.unvalued;
      }

  known-then : AreKnownByTypes p r h.stage n t ts then
  known-then l e =
      let k = known_by_types l n (head t).kind (sort_of t) ts in
      let is : b.known ≡ h.stage.known ++ k = j.known l e.later ∙ ap (λ ds. ds ++ k) (sym h.same) in
      ap (λ ds. record { done = h.stage.done; known = ds; typed = (n, ts) ∷ h.stage.typed }) is

  goes : GoesOn p r h.stage (Types n) then h.values
  goes =
      w.types_go_on p r h.stage then h.values n t ts h.is_stage j.is_there new-in
      (subst (λ ds. AreTypesOf p ds r n t ts) (sym h.same) j.types)
      j.fit known-then

  taken : AreTaken r b.known b.ready
  taken =
      let k = known_by_types r n (head t).kind (sort_of t) ts in
      subst (λ ds. AreTaken r ds b.ready) (sym (j.known r (later_here r h.is_stage.sound)))
      (subst (λ es. AreTaken r (a.known ++ k) es) (sym j.ready) (taken-more r a.known k a.ready h.taken))

  -- with this step more
  pub types-go : IsStanding p r b (xs ++ Types n ∷ [])
  types-go = record {
    stage = then;
    values = h.values;
    is_stage = goes.stage;
    is_known = (w.stages_are_known p r h.stage h.values h.is_stage h.is_known).types n t ts then j.is_there new-in known-then;
    passed = (w.steps_go_together p r xs h.stage h.passed).more (Types n) then h.values goes;
    valued = valued-types xs h.values n h.valued;
    same = refl;
    defs = j.defs;
    taken = taken;
    defined = subst (λ ds. AreDefined r ds) (sym j.defined) h.defined;
    awaited = j.waits h.stage.typed h.awaited;
    slots =
        slots-write p h.stage then h.values h.values a.slots.items b.slots.items n
        (Some (record { types = ts; value = None })) h.slots j.slots
        (slice_get_within a.slots.items n None j.new.slot) (λ m o. same-types h.stage b.known h.values n ts m o)
        (slot-types h.stage b.known h.values n ts new-in.unvalued);
  }

-- a fault of its types is the first
pub types-stop : AreLaws →
    (names : List (Place × Meaning)) (files : List FileTree) (q : Plan) (i : ℕ) (s : Store) (a : State) (n : ℕ) (t : Node) →
    IsPlanned names files q → slice_get q.steps.items i ≡ Some (st.Types n) → IsStanding (listing names files) s a (steps_before q i) →
    IsDecl (listing names files) n t → (e : Stop Fault) → IsSignatureStop (listing names files) a.known s n t e →
    IsDeclarationStop (listing names files) s e
types-stop w names files q i s a n t planned there h d Memory k = tt
types-stop w names files q i s a n t planned there h d (Refused f) k =
    let faulty : AreTypesFaulty (listing names files) h.stage.known s n t f =
    subst (λ ds. AreTypesFaulty (listing names files) ds s n t f) (sym h.same) k in
    step-stops w names files q i (st.Types n) s a planned there h f
    (λ l e. w.types_stop (listing names files) s l h.stage h.values n t f h.is_stage d faulty e)
