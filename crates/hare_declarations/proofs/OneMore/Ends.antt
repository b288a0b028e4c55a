-- What stands before the first step, and behind the last.
use Rattle.std.proofs.Common.{◌≡◌, ℕ, List, [], length, map, Option, Some, ap, sym, ◌∙◌, subst}
use Rattle.std.specs.Prelude.{slice_get, option_map}
use Rattle.std.proofs.Math.Seq.{take-length}
use Rattle.std.proofs.lemmas.List.{length-map}
use Rattle.std.proofs.lemmas.Option.{slice_get-map}
use Rattle.hare_tree.specs.declared.place.Place.{Place}
use Rattle.hare_tree.specs.declared.token.Meaning.{Meaning}
use Rattle.hare_tree.specs.declared.tree.FileTree.{FileTree}
use Rattle.hare_types.specs.Store.{Store, definition_of}
use Rattle.hare_typed.specs.Typed.{TypedNode}
use Rattle.hare_rules.specs.Words.{nomem}
use Rattle.hare_whole.specs.Listing.{Listing, IsDeclared, DefinesNomem}
use Rattle.hare_whole.specs.Turns.{Stage, AreAllSteps, Value, nowhere, start}
use Rattle.hare_saids.specs.Saids.{decls}
use Rattle.hare_steps.specs.declared.listed.DeclPlace.{DeclPlace}
use Rattle.hare_steps.specs.declared.planned.Plan.{Plan}
use Rattle.hare_steps.specs.Plans.{listing, step_of, decl_at, ArePlaces}
use Rattle.hare_turns.specs.Ends.{AreJudgedTo}
use Rattle.hare_defined.specs.Known.{AreDefined}
use Rattle.hare_written.specs.Program.{AreDefsDefined}
use Rattle.hare_readable.specs.Taken.{AreTaken}
use Rattle.hare_declarations.specs.declared.parts.Judged.{Judged}
use Rattle.hare_declarations.specs.declared.parts.Parts.{Parts}
use Rattle.hare_declarations.specs.declared.state.State.{State}
use Rattle.hare_declarations.specs.Judged.{AreParts, IsJudgedAs}
use Rattle.hare_declarations.specs.Laws.{AreLaws}
use Rattle.hare_declarations.specs.Standing.{HasParts, AreSlots, IsStanding, IsBeginning, IsTaken, IsPlanned, steps_before}
use Rattle.hare_declarations.proofs.JudgedByStage.Lists.{Contains-nil}
use Rattle.hare_declarations.proofs.WhileStoresGrow.Ready.{taken-none}
use Rattle.hare_declarations.proofs.JudgedByStage.Slots.{slots-empty}

-- ---- before the first step

-- there are as many places as declarations
pub places-count : (files : List FileTree) (ps : List DeclPlace) → ArePlaces files ps → length ps ≡ length (decls files)
places-count files ps h =
    sym (length-map ps (decl_at files)) ∙ ap length h ∙ length-map (decls files) Some

pub begins : AreLaws → (p : Listing) (s : Store) (a : State) (count : ℕ) → IsDeclared s p → DefinesNomem s →
    ((d t : ℕ) → definition_of s d ≡ Some t → d ≡ nomem) → count ≡ length p.decls → IsBeginning count a → IsStanding p s a []
begins w p s a count declared nomem only e b = record {
  stage = start;
  values = [];
  is_stage = w.stages_begin p s declared nomem only;
  is_known = w.known_begins p s;
  passed = λ l k. nowhere start;
  valued = λ n c. absurd (Contains-nil (Value n) c);
  same = sym b.known;
  defs = subst (λ ds. AreDefsDefined s ds) (sym b.known) (λ n d f k. absurd cc);
  taken = subst (λ ds. AreTaken s ds a.ready) (sym b.known) (subst (λ es. AreTaken s [] es) (sym b.ready) (taken-none s));
  defined = subst (λ ds. AreDefined s ds) (sym b.defined) (λ t c. absurd (Contains-nil t c));
  awaited = b.waits s;
  slots = subst (λ qs. AreSlots p start [] qs) (sym b.slots) (slots-empty p count e);
}

-- ---- behind the last

-- what has been judged of each declaration stands in its slot
slot-of : (qs : List Parts) (os : List (Option Parts)) → map Some qs ≡ os → (n : ℕ) (q : Parts) → slice_get qs n ≡ Some q →
    slice_get os n ≡ Some (Some q)
slot-of qs os e n q i = ap (λ xs. slice_get xs n) (sym e) ∙ slice_get-map Some qs n ∙ ap (option_map Some) i

parts-judged : (p : Listing) (s : Store) (g : Stage) (vs : List (ℕ × TypedNode)) (qs : List Parts) (os : List (Option Parts)) →
    AreSlots p g vs os →
    map Some qs ≡ os → AreJudgedTo p s g vs → AreParts p g vs qs
parts-judged p s g vs qs os h e all = record {
  count = sym (length-map qs Some) ∙ ap length e ∙ h.count;
  types = λ n q i. (own n q i).types;
  at = λ n q i. (own n q i).at;
  value = λ n q v i f. (own n q i).value v f;
  valued = λ n t q d i f. let v = all.values n t d f in (own n q i).valued v.0 v.1;
}
  where
    own : (n : ℕ) (q : Parts) → slice_get qs n ≡ Some q → HasParts g vs n q
    own n q i = h.each n (Some q) (slot-of qs os e n q i)

pub ends : AreLaws → (names : List (Place × Meaning)) (files : List FileTree) (q : Plan) (s : Store) (a : State) (j : Judged) →
    IsPlanned names files q →
    IsStanding (listing names files) s a (steps_before q (length q.steps.items)) → IsTaken a j → IsJudgedAs (listing names files) s j
ends w names files q s a j planned h k =
    let p = listing names files in
    let steps : map step_of q.steps.items ≡ steps_before q (length q.steps.items) = ap (map step_of) (sym (take-length q.steps.items)) in
    let all : AreJudgedTo p s h.stage h.values =
    w.stages_end p s (steps_before q (length q.steps.items)) h.stage h.values
    (subst (λ xs. AreAllSteps p xs) steps planned.steps) h.passed h.valued
    h.is_stage in
    record {
      stage = h.stage;
      values = h.values;
      judged = all;
      known = h.is_known;
      same = h.same ∙ sym k.known;
      parts = parts-judged p s h.stage h.values j.parts a.slots.items h.slots k.parts all;
    }
