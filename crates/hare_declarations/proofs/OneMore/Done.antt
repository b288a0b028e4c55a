-- One declaration more is done, or a type has turned out to be too large.
use Rattle.std.proofs.Common.{◌≡◌, ◌≢◌, ℕ, ◌+◌, List, [], ◌∷◌, ◌++◌, map, drop, Bool, true, false, Some, refl, sym, ◌∙◌, subst}
use Rattle.std.specs.Prelude.{slice_get}
use Rattle.hare_tree.specs.declared.kind.Kind.{Kind}
use Rattle.hare_tree.specs.declared.kind.Kind.TheVariants as ki
use Rattle.hare_tree.specs.declared.place.Place.{Place}
use Rattle.hare_tree.specs.declared.stop.Stop.TheVariants.{Fault as Refused}
use Rattle.hare_tree.specs.declared.token.Meaning.{Meaning}
use Rattle.hare_tree.specs.declared.tree.FileTree.{FileTree}
use Rattle.hare_tree.specs.Node.{Node, head}
use Rattle.hare_types.specs.Store.{Store}
use Rattle.hare_types.specs.Later.{IsLater}
use Rattle.hare_types.proofs.LaterLemmas.{later_trans}
use Rattle.hare_typed.specs.Typed.{TypedNode}
use Rattle.hare_typed.specs.Order.{tree_from_front}
use Rattle.hare_seen.specs.Sizes.{too_large}
use Rattle.hare_modules.specs.Declarations.{is_type_decl}
use Rattle.hare_depends.specs.declared.said.Sort.{Sort}
use Rattle.hare_depends.specs.declared.said.Sort.TheVariants as so
use Rattle.hare_depends.specs.Sorts.{sort_of, sort_by, sort_of_global, has_type}
use Rattle.hare_whole.specs.Listing.{Listing, IsDecl}
use Rattle.hare_whole.specs.Parts.{written_id}
use Rattle.hare_whole.specs.Turns.{Stage, Step, Done, with_done, typed_at, AreAllSteps}
use Rattle.hare_steps.specs.declared.planned.Plan.{Plan}
use Rattle.hare_steps.specs.declared.step.Step.TheVariants as st
use Rattle.hare_steps.specs.Plans.{listing, step_of}
use Rattle.hare_turns.specs.Stages.{IsEnd}
use Rattle.hare_turns.specs.Laws.{IsGrownTo, DefinesOneMore, IsDefinedNow, IsDoneBy, IsLateOf, GoesOn}
use Rattle.hare_turns.specs.Known.{IsKnownAs}
use Rattle.hare_turns.specs.Ends.{IsDeclarationStop}
use Rattle.hare_defined.specs.Known.{AreDefined}
use Rattle.hare_defined.proofs.StayLemmas.{defined_types_stay}
use Rattle.hare_written.specs.Program.{AreDefsDefined}
use Rattle.hare_written.proofs.PartOfType.Known.{defs-stay}
use Rattle.hare_readable.specs.Taken.{AreTaken}
use Rattle.hare_waits.specs.Waits.{AreAwaited, IsLate}
use Rattle.hare_declarations.specs.declared.parts.Parts.{Parts}
use Rattle.hare_declarations.specs.declared.state.State.{State}
use Rattle.hare_declarations.specs.Laws.{AreLaws}
use Rattle.hare_declarations.specs.Standing.{AreSlots, IsStanding, IsPlanned, StaysDeclared, steps_before}
use Rattle.hare_declarations.proofs.JudgedByStage.Lists.{map-split}
use Rattle.hare_declarations.proofs.WhileStoresGrow.Ready.{taken-later}
use Rattle.hare_declarations.proofs.JudgedByStage.Slots.{slots-done}
use Rattle.hare_declarations.proofs.WhileStoresGrow.Stands.{valued-done}
use Rattle.hare_declarations.proofs.WhileStoresGrow.Stores.{grown_to-refl, declared-later, nomem-later}

-- ---- by kinds

-- a declaration of the kind of types is one
sort-type : (k : Kind) (t : Node) → is_type_decl k ≡ true → sort_by k t ≡ so.Type
sort-type ki.TypeDecl t e = refl
sort-type _ t e = absurd cc

pub is-type : (t : Node) → is_type_decl (head t).kind ≡ true → sort_of t ≡ so.Type
is-type t e = sort-type (head t).kind t e

no-global : (b : Bool) → sort_of_global b ≡ so.Type → ⊥
no-global true e = cc
no-global false e = cc

-- no other is
sort-other : (k : Kind) (t : Node) → is_type_decl k ≡ false → sort_by k t ≢ so.Type
sort-other ki.TypeDecl t e = absurd cc
sort-other ki.GlobalLet t e = λ i. no-global (has_type t) i
sort-other ki.GlobalConst t e = λ i. no-global (has_type t) i
sort-other _ t e = λ i. cc

pub no-type : (t : Node) → is_type_decl (head t).kind ≡ false → sort_of t ≢ so.Type
no-type t e = sort-other (head t).kind t e

done-other : (s r : Store) (g : Stage) (n : ℕ) (x : Sort) → x ≢ so.Type → IsGrownTo s r → IsDoneBy s r g n x
done-other s r g n so.Type f k = absurd (f refl)
done-other s r g n so.Function f k = k
done-other s r g n so.Constant f k = k
done-other s r g n so.Global f k = k

done-type : (s r : Store) (g : Stage) (n : ℕ) (x : Sort) → x ≡ so.Type → IsDefinedNow s r g n → IsDoneBy s r g n x
done-type s r g n x e k = subst (λ y. IsDoneBy s r g n y) (sym e) k

-- ---- another declaration

-- nothing changes but that it is done
pub other-goes : AreLaws → (p : Listing) (s : Store) (a : State) (xs : List Step) (n : ℕ) (t : Node) (q : Parts) →
    IsStanding p s a xs → IsDecl p n t →
    slice_get a.slots.items n ≡ Some (Some q) → sort_of t ≢ so.Type → IsStanding p s a (xs ++ Done n ∷ [])
other-goes w p s a xs n t q h d e f =
    let goes : GoesOn p s h.stage (Done n) (with_done h.stage n) h.values =
    w.done_goes_on p s s h.stage h.values n t h.is_stage d (done-other s s h.stage n (sort_of t) f (grown_to-refl s h.is_stage.sound)) in
    record {
      stage = with_done h.stage n;
      values = h.values;
      is_stage = goes.stage;
      is_known = (w.stages_are_known p s h.stage h.values h.is_stage h.is_known).done n;
      passed = (w.steps_go_together p s xs h.stage h.passed).more (Done n) (with_done h.stage n) h.values goes;
      valued = valued-done xs h.values n h.valued;
      same = h.same;
      defs = h.defs;
      taken = h.taken;
      defined = h.defined;
      awaited = h.awaited;
      slots = slots-done p h.stage h.values a.slots.items n q h.slots e;
    }

-- ---- a type

-- what is known of declarations is so in later stores
known-later : (p : Listing) (s r : Store) (g : Stage) (vs : List (ℕ × TypedNode)) → IsLater s r → IsKnownAs p s g vs → IsKnownAs p r g vs
known-later p s r g vs l k = record {
  types = λ f n t ts d e. k.types f n t ts d (back f e);
  values = λ f w n t v d e. k.values f w n t v d (back f e);
}
  where
    back : (f : Store) → IsEnd p r f → IsEnd p s f
    back f e = record { later = later_trans s r f l e.later; final = e.final }

-- a type is defined as it is written, and what waits is told
pub record DefinesType (p : Listing) (s r : Store) (a : State) (n : ℕ) (t : Node) (q : Parts) : Type 0 where
  pub is_there : IsDecl p n t
  pub sort : sort_of t ≡ so.Type
  pub there : slice_get a.slots.items n ≡ Some (Some q)
  pub more : DefinesOneMore s r n (written_id (tree_from_front 0 q.types))

-- of what stands nothing changes but what waits
pub record WaitsNow (s r : Store) (a b : State) : Type 0 where
  pub waits : (js : List (ℕ × List TypedNode)) → AreAwaited s a.waits js → AreAwaited r b.waits js
  pub known : b.known ≡ a.known
  pub ready : b.ready ≡ a.ready
  pub defined : b.defined ≡ a.defined
  pub slots : b.slots ≡ a.slots

module _ (w : AreLaws) (p : Listing) (s r : Store) (a : State) (xs : List Step) (n : ℕ) (t : Node) (q : Parts) (h : IsStanding p s a xs)
    (j : DefinesType p s r a n t q) where
  more-in : DefinesOneMore s r n (written_id (tree_from_front 0 (typed_at h.stage n)))
  more-in = subst (λ ts. DefinesOneMore s r n (written_id (tree_from_front 0 ts))) (sym (h.slots.each n (Some q) j.there).at) j.more

  -- all types are declared still
  pub type-stays : StaysDeclared p s r
  type-stays = record {
    later = j.more.later;
    declared = declared-later p s r j.more.sound j.more.declared h.is_stage.declared;
    nomem = nomem-later s r h.is_stage.sound j.more.later h.is_stage.nomem;
  }

  -- where none is too large, the step is passed
  pub type-goes : (b : State) → WaitsNow s r a b → IsStanding p r b (xs ++ Done n ∷ [])
  type-goes b k =
      let awaited : AreAwaited r b.waits h.stage.typed = k.waits h.stage.typed h.awaited in
      let goes : GoesOn p r h.stage (Done n) (with_done h.stage n) h.values =
      w.done_goes_on p s r h.stage h.values n t h.is_stage j.is_there
      (done-type s r h.stage n (sort_of t) j.sort (record { more = more-in; fit = awaited.fit })) in
      let v = h.is_stage.sound in
      let l = j.more.later in
      record {
        stage = with_done h.stage n;
        values = h.values;
        is_stage = goes.stage;
        is_known = known-later p s r (with_done h.stage n) h.values l
            ((w.stages_are_known p s h.stage h.values h.is_stage h.is_known).done n);
        passed =
            (w.steps_go_together p r xs h.stage ((w.steps_go_together p s xs h.stage h.passed).stay r l)).more (Done n)
            (with_done h.stage n) h.values
            goes;
        valued = valued-done xs h.values n h.valued;
        same = h.same ∙ sym k.known;
        defs = subst (λ ds. AreDefsDefined r ds) (sym k.known) (defs-stay s r v l a.known h.defs);
        taken =
            subst (λ ds. AreTaken r ds b.ready) (sym k.known)
            (subst (λ es. AreTaken r a.known es) (sym k.ready) (taken-later s r v l a.known a.ready h.taken));
        defined = subst (λ ds. AreDefined r ds) (sym k.defined) (defined_types_stay s r a.defined v l h.defined);
        awaited = awaited;
        slots =
            subst (λ qs. AreSlots p (with_done h.stage n) h.values qs.items) (sym k.slots)
            (slots-done p h.stage h.values a.slots.items n q h.slots j.there);
      }

-- ---- a type that is too large

-- the first of them, by number, that was judged
late-of : (r : Store) (g : Stage) (m : ℕ) (at : Place) → IsLate r g.typed m at → IsLateOf r g m at
late-of r g m at h = record {
  types = h.types;
  order = h.order;
  node = h.node;
  judged = h.judged;
  first = h.first;
  place = h.place;
  before = λ k us below c. h.before k us c below;
}

-- its fault is the first
pub type-stop : AreLaws →
    (names : List (Place × Meaning)) (files : List FileTree) (q : Plan) (i : ℕ) (s r : Store) (a : State) (n m : ℕ) (t : Node)
    (x : Parts) (at : Place) → IsPlanned names files q → slice_get q.steps.items i ≡ Some (st.Done n) →
    (h : IsStanding (listing names files) s a (steps_before q i)) → DefinesType (listing names files) s r a n t x →
    IsLate r h.stage.typed m at →
    IsDeclarationStop (listing names files) r (Refused (too_large at))
type-stop w names files q i s r a n m t x at planned there h j late =
    let p = listing names files in
    w.steps_stop p r (steps_before q i) (map step_of (drop (i + 1) q.steps.items)) (Done n) h.stage (too_large at)
    (subst (λ ys. AreAllSteps p ys) (map-split step_of q.steps.items i (st.Done n) there) planned.steps)
    ((w.steps_go_together p s (steps_before q i) h.stage h.passed).stay r j.more.later)
    (λ l e. w.done_stops p s r l h.stage h.values n m t at h.is_stage j.is_there j.sort
    (more-in w p s r a (steps_before q i) n t x h j) (late-of r h.stage m at late) e)
