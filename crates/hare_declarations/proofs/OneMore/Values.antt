-- The value of one declaration more has been judged, or has a fault.
use Rattle.std.proofs.Common.{◌≡◌, ℕ, List, [], ◌∷◌, ◌++◌, map, Some, inl, inr, refl, ap, sym, ◌∙◌, subst}
use Rattle.std.specs.Prelude.{slice_get, slice_set, Contains}
use Rattle.std.proofs.lemmas.List.Elements.{Contains-push_cases}
use Rattle.std.proofs.lemmas.Option.{slice_get_within}
use Rattle.hare_tree.specs.declared.place.Fault.{Fault}
use Rattle.hare_tree.specs.declared.place.Place.{Place}
use Rattle.hare_tree.specs.declared.stop.Stop.{Stop}
use Rattle.hare_tree.specs.declared.stop.Stop.TheVariants.{Fault as Refused, Memory}
use Rattle.hare_tree.specs.declared.token.Meaning.{Meaning}
use Rattle.hare_tree.specs.declared.tree.FileTree.{FileTree}
use Rattle.hare_tree.specs.Node.{Node, head}
use Rattle.hare_types.specs.Store.{Store}
use Rattle.hare_types.specs.Later.{IsLater}
use Rattle.hare_types.proofs.LaterLemmas.{later_here}
use Rattle.hare_typed.specs.Typed.{TypedNode}
use Rattle.hare_typed.specs.Erased.{erase}
use Rattle.hare_rules.specs.Context.{Setting}
use Rattle.hare_rules.specs.declared.declared.DeclType.{DeclType}
use Rattle.hare_modules.specs.Uses.{kid}
use Rattle.hare_depends.specs.declared.said.Sort.{Sort}
use Rattle.hare_depends.specs.declared.said.Sort.TheVariants as so
use Rattle.hare_depends.specs.Sorts.{sort_of}
use Rattle.hare_whole.specs.Listing.{Listing, IsDecl, Written, written_types}
use Rattle.hare_whole.specs.Turns.{Stage, Step, Value, AreTyped, type_or_plain, typed_at, setting_at, known_by_value}
use Rattle.hare_steps.specs.declared.planned.Plan.{Plan}
use Rattle.hare_steps.specs.declared.step.Step.TheVariants as st
use Rattle.hare_steps.specs.Plans.{listing}
use Rattle.hare_turns.specs.Stages.{IsValueOf, known_of, over}
use Rattle.hare_turns.specs.Laws.{AreKnownByValue, IsUnknownConstant, IsValueFaulty, GoesOn}
use Rattle.hare_turns.specs.Course.{AreValued}
use Rattle.hare_turns.specs.Ends.{IsDeclarationStop}
use Rattle.hare_values.specs.Values.{IsValueStop}
use Rattle.hare_defined.specs.Known.{AreDefined}
use Rattle.hare_written.specs.Program.{AreDefsDefined}
use Rattle.hare_readable.specs.Taken.{AreTaken}
use Rattle.hare_waits.specs.Waits.{AreAwaited}
use Rattle.hare_declarations.specs.declared.parts.Parts.{Parts}
use Rattle.hare_declarations.specs.declared.state.State.{State}
use Rattle.hare_declarations.specs.Laws.{AreLaws}
use Rattle.hare_declarations.specs.Standing.{IsStanding, IsPlanned, IsUnknown, CanValue, steps_before}
use Rattle.hare_declarations.proofs.WhileStoresGrow.Ready.{taken-more}
use Rattle.hare_declarations.proofs.JudgedByStage.Slots.{Contains-head, behind-first, same-value, slot-value, slots-write}
use Rattle.hare_declarations.proofs.WhileStoresGrow.Stands.{step-stops}

-- ---- written types

-- types that are well typed are those that are written
typed-erases : (w : Setting) (n : ℕ) (rs : List Written) (ts : List TypedNode) → AreTyped w n rs ts → map erase ts ≡ map (λ r. r.1) rs
typed-erases w n [] [] h = refl
typed-erases w n [] (t ∷ ts) h = absurd h
typed-erases w n (r ∷ rs) [] h = absurd h
typed-erases w n (r ∷ rs) (t ∷ ts) h =
    ap (λ x. x ∷ map erase ts) h.0.erases ∙ ap (λ xs. r.1 ∷ xs) (typed-erases w n rs ts h.1)

-- what is kept of a declaration are its written types
pub types-erase : (p : Listing) (s : Store) (a : State) (xs : List Step) (n : ℕ) (t : Node) (q : Parts) → IsStanding p s a xs →
    IsDecl p n t →
    slice_get a.slots.items n ≡ Some (Some q) → map erase q.types ≡ map (λ r. r.1) (written_types t)
types-erase p s a xs n t q h d e =
    let c = (h.slots.each n (Some q) e).types in
    typed-erases (over p h.stage.known s) n (written_types t) q.types
    ((h.is_stage.types n t q.types c d).typed s (later_here s h.is_stage.sound) (h.is_stage.fit n q.types c))

-- ---- values of steps

valued-value : (xs : List Step) (vs : List (ℕ × TypedNode)) (m : ℕ) (v : TypedNode) → AreValued xs vs →
    AreValued (xs ++ Value m ∷ []) ((m, v) ∷ vs)
valued-value xs vs m v h n c = elim (Contains-push_cases xs (Value m) (Value n) c) [
  | inl k ↦ let x = h n k in (x.0, behind-first (m, v) vs (n, x.0) x.1)
  | inr e ↦ let i : m ≡ n = cc in (v, subst (λ (k : ℕ). Contains ((m, v) ∷ vs) (k, v)) i (Contains-head (m, v) vs))
]

-- ---- one value more

-- from what stood before to what stands then, the value of the declaration has been judged
pub record JudgesValue (p : Listing) (r : Store) (a b : State) (n : ℕ) (t : Node) (q : Parts) (v : TypedNode) : Type 0 where
  pub is_there : IsDecl p n t
  pub can : CanValue a.known n t
  pub there : slice_get a.slots.items n ≡ Some (Some q)
  pub value : IsValueOf p a.known r n t q.types v
  pub known : (l : Store) (w : Setting) → IsLater r l →
      b.known ≡ a.known ++ known_by_value l n (head t).kind (sort_of t) (type_or_plain w (kid t 2) q.types) v
  pub taken : AreTaken r a.known b.ready
  pub defined : AreDefined r b.defined
  pub waits : b.waits ≡ a.waits
  pub slots : b.slots.items ≡ slice_set a.slots.items n (Some (record { types = q.types; value = Some v }))
  pub defs : AreDefsDefined r b.known

unknown-in : (g : Stage) (ds : List DeclType) (n : ℕ) → g.known ≡ ds → (x : Sort) → IsUnknown ds n x → IsUnknownConstant g n x
unknown-in g ds n e so.Constant h = ap (λ es. known_of es n) e ∙ h
unknown-in g ds n e so.Type h = tt
unknown-in g ds n e so.Function h = tt
unknown-in g ds n e so.Global h = tt

module _ (w : AreLaws) (p : Listing) (r : Store) (a b : State) (xs : List Step) (n : ℕ) (t : Node) (q : Parts) (v : TypedNode)
    (h : IsStanding p r a xs) (j : JudgesValue p r a b n t q v) where
  abbrev then : Stage
  then = record { done = h.stage.done; known = b.known; typed = h.stage.typed }

  unknown : IsUnknownConstant h.stage n (sort_of t)
  unknown = unknown-in h.stage a.known n h.same (sort_of t) j.can.unknown

  at : typed_at h.stage n ≡ q.types
  at = (h.slots.each n (Some q) j.there).at

  known-then : AreKnownByValue p r h.stage n t v then
  known-then l e =
      let z = setting_at p l h.stage in
      let k = λ (ts : List TypedNode). known_by_value l n (head t).kind (sort_of t) (type_or_plain z (kid t 2) ts) v in
      let is : b.known ≡ h.stage.known ++ k (typed_at h.stage n) =
      j.known l z e.later ∙ ap (λ ds. ds ++ k q.types) (sym h.same) ∙ ap (λ ts. h.stage.known ++ k ts) (sym at) in
      ap (λ ds. record { done = h.stage.done; known = ds; typed = h.stage.typed }) is

  value-in : IsValueOf p h.stage.known r n t (typed_at h.stage n) v
  value-in =
      subst (λ ts. IsValueOf p h.stage.known r n t ts v) (sym at)
      (subst (λ ds. IsValueOf p ds r n t q.types v) (sym h.same) j.value)

  goes : GoesOn p r h.stage (Value n) then ((n, v) ∷ h.values)
  goes = w.value_goes_on p r h.stage then h.values n t v h.is_stage j.is_there unknown value-in known-then

  taken : AreTaken r b.known b.ready
  taken =
      let z = over p a.known r in
      let k = known_by_value r n (head t).kind (sort_of t) (type_or_plain z (kid t 2) q.types) v in
      subst (λ ds. AreTaken r ds b.ready) (sym (j.known r z (later_here r h.is_stage.sound))) (taken-more r a.known k b.ready j.taken)

  -- with this step more
  pub value-goes : IsStanding p r b (xs ++ Value n ∷ [])
  value-goes = record {
    stage = then;
    values = (n, v) ∷ h.values;
    is_stage = goes.stage;
    is_known =
        (w.stages_are_known p r h.stage h.values h.is_stage h.is_known).value n t q.types v then j.is_there
        (h.slots.each n (Some q) j.there).types unknown known-then;
    passed = (w.steps_go_together p r xs h.stage h.passed).more (Value n) then ((n, v) ∷ h.values) goes;
    valued = valued-value xs h.values n v h.valued;
    same = refl;
    defs = j.defs;
    taken = taken;
    defined = j.defined;
    awaited = subst (λ ws. AreAwaited r ws h.stage.typed) (sym j.waits) h.awaited;
    slots =
        slots-write p h.stage then h.values ((n, v) ∷ h.values) a.slots.items b.slots.items n
        (Some (record { types = q.types; value = Some v })) h.slots
        j.slots (slice_get_within a.slots.items n (Some q) j.there) (λ m o. same-value h.stage b.known h.values n v m o)
        (slot-value h.stage b.known h.values n q v (h.slots.each n (Some q) j.there));
  }

-- a fault of its value, or of the declaration itself, is the first
pub value-stop : AreLaws →
    (names : List (Place × Meaning)) (files : List FileTree) (q : Plan) (i : ℕ) (s : Store) (a : State) (n : ℕ) (t : Node)
    (x : Parts) → IsPlanned names files q → slice_get q.steps.items i ≡ Some (st.Value n) →
    IsStanding (listing names files) s a (steps_before q i) →
    IsDecl (listing names files) n t → slice_get a.slots.items n ≡ Some (Some x) → (e : Stop Fault) →
    IsValueStop (listing names files) a.known s n t x.types e → IsDeclarationStop (listing names files) s e
value-stop w names files q i s a n t x planned there h d slot Memory k = tt
value-stop w names files q i s a n t x planned there h d slot (Refused f) k =
    let p = listing names files in
    let faulty : IsValueFaulty p h.stage.known s n t (typed_at h.stage n) f =
    subst (λ ts. IsValueFaulty p h.stage.known s n t ts f) (sym (h.slots.each n (Some x) slot).at)
    (subst (λ ds. IsValueFaulty p ds s n t x.types f) (sym h.same) k) in
    step-stops w names files q i (st.Value n) s a planned there h f
    (λ l e. w.value_stops p s l h.stage h.values n t f h.is_stage d faulty e)
