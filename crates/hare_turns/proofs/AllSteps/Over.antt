-- All declarations that have been judged, over a store with which the checking may end.
use Rattle.std.proofs.Common.{◌≡◌, ℕ, List, [], ◌∷◌, ◌++◌, Option, Some, None, ◌⊎◌, inl, inr, refl, ap, sym, ◌∙◌, subst}
use Rattle.std.specs.Prelude.{map, cond, Contains}
use Rattle.std.proofs.lemmas.List.Elements.{Contains-append_left, Contains-append_right, Contains-push}
use Rattle.hare_tree.specs.Node.{Node}
use Rattle.hare_types.specs.Store.{Store, definition_of}
use Rattle.hare_types.specs.Later.{TypesStay}
use Rattle.hare_types.specs.Meanings.{IdsMeanTrees}
use Rattle.hare_typed.specs.Typed.{TypedNode}
use Rattle.hare_seen.specs.Seen.{DefinesTheSame}
use Rattle.hare_seen.specs.Laws.{BytesFollowDefinitions}
use Rattle.hare_rules.specs.Words.{is_among}
use Rattle.hare_depends.specs.declared.said.Sort.{Sort}
use Rattle.hare_depends.specs.declared.said.Sort.TheVariants as so
use Rattle.hare_depends.specs.Sorts.{sort_of}
use Rattle.hare_whole.specs.Listing.{Listing, IsDecl}
use Rattle.hare_whole.specs.Turns.{Stage, Step, Types, Done, early, value_steps, turn, AreSteps, typed_at, IsDefinedAs, Passes, Goes}
use Rattle.hare_turns.specs.Stages.{IsEnd}
use Rattle.hare_turns.specs.Ends.{AreJudgedTo}
use Rattle.hare_turns.specs.Judged.{StagesMayEnd, AreJudgedOver, EndsAreJudged}
use Rattle.hare_turns.proofs.LaterStores.Lists.{Contains-nil, Contains-head, Contains-tail, Contains-cons_cases}
use Rattle.hare_turns.proofs.LaterStores.Sizes.{AllFit-later}
use Rattle.hare_turns.proofs.LaterStores.Ends.{declared_from_defined}
use Rattle.hare_turns.proofs.OneStep.Passed.{itself_ends}
use Rattle.hare_turns.proofs.AllSteps.InOrder.{in_order}
use Rattle.hare_turns.proofs.AllSteps.Told.{typed_at-among}

pub stages_may_end : StagesMayEnd
stages_may_end = itself_ends

-- ---- declarations that are done

done-pass : (p : Listing) (l : Store) {g h : Stage} {x : Step} → Passes p l g x h → (n : ℕ) → Contains g.done n → Contains h.done n
done-pass p l (Passes.types m t ts d a) n c = c
done-pass p l (Passes.value m t v d a b) n c = c
done-pass p l {g} (Passes.done m t d a b) n c = Contains-tail m g.done n c

done-goes : (p : Listing) (l : Store) {g h : Stage} {xs : List Step} → Goes p l g xs h → (n : ℕ) → Contains g.done n → Contains h.done n
done-goes p l (Goes.nowhere g) n c = c
done-goes p l (Goes.on g h k x xs a rest) n c = done-goes p l rest n (done-pass p l a n c)

done_by_pass : (p : Listing) (l : Store) {g h : Stage} {x : Step} (n : ℕ) → x ≡ Done n → Passes p l g x h → Contains h.done n
done_by_pass p l n e (Passes.types m t ts d a) = absurd cc
done_by_pass p l n e (Passes.value m t v d a b) = absurd cc
done_by_pass p l {g} n e (Passes.done m t d a b) =
    let same : m ≡ n = cc in subst (λ (k : ℕ). Contains (m ∷ g.done) k) same (Contains-head m g.done)

done_by_steps : (p : Listing) (l : Store) {g h : Stage} {xs : List Step} (n : ℕ) → Goes p l g xs h → Contains xs (Done n) →
    Contains h.done n
done_by_steps p l n (Goes.nowhere g) c = absurd (Contains-nil (Done n) c)
done_by_steps p l n (Goes.on g h k x xs a rest) c = elim (Contains-cons_cases x xs (Done n) c) [
  | inl e ↦ done-goes p l rest n (done_by_pass p l n e a)
  | inr i ↦ done_by_steps p l n rest i
]

-- each declaration is done in its turn
done_among : (p : Listing) {js ns : List ℕ} {xs : List Step} → AreSteps p js ns xs → (m : ℕ) → Contains ns m → Contains xs (Done m)
done_among p (AreSteps.no_more js) m c = absurd (Contains-nil m c)
done_among p (AreSteps.next js n t ns xs d rest) m c = by (done_among p rest m) (Contains-cons_cases n ns m c)
  where
    by : (Contains ns m → Contains xs (Done m)) → (n ≡ m) ⊎ Contains ns m → Contains (turn p js n t ++ xs) (Done m)
    by later (inl e) =
        Contains-append_left (turn p js n t) xs (Done m)
        (subst (λ (k : ℕ). Contains (turn p js n t) (Done k)) e
        (Contains-push (cond (is_among n js) [] (Types n ∷ []) ++ map Types (early p (n ∷ js) t) ++ value_steps (sort_of t) n) (Done n)))
    by later (inr i) = Contains-append_right (turn p js n t) xs (Done m) (later i)

-- ---- over an end

module _ (mean : IdsMeanTrees) (stay : TypesStay) (bytes : BytesFollowDefinitions) (p : Listing) (s l : Store) (g : Stage)
    (vs : List (ℕ × TypedNode)) (h : AreJudgedTo p s g vs) (e : IsEnd p s l) where
  all_done : (n : ℕ) (t : Node) → IsDecl p n t → Contains g.done n
  all_done n t d =
      let k = h.judged l e in
      done_by_steps p l n k.goes (done_among p k.all.steps n (in_order p k.steps k.all n t d))

  type_defined : (n : ℕ) (t : Node) → IsDecl p n t → (x : Sort) → sort_of t ≡ x → IsDefinedAs l n x (typed_at g n)
  type_defined n t d so.Type i = e.later.grows.defined n _ (h.stage.done n t (all_done n t d) d i)
  type_defined n t d so.Function i = tt
  type_defined n t d so.Constant i = tt
  type_defined n t d so.Global i = tt

  -- an end defines what the store defines
  same_in_end : DefinesTheSame s l
  same_in_end d = by (definition_of s d) refl (definition_of l d) refl
    where
      undefined : (u : ℕ) → definition_of l d ≡ Some u → definition_of s d ≡ None → ⊥
      undefined u i n =
          let sized = declared_from_defined mean l e.later.sound d u i in
          elim (e.final.declared.no_other d sized.0 sized.1) [
            | inl t ↦ let a = h.stage.done d t.0 (all_done d t.0 t.1) t.1 t.2 in cc
            | inr j ↦ let a : definition_of s d ≡ Some h.stage.nomem.0 = ap (definition_of s) j ∙ h.stage.nomem.2 in cc
          ]

      by : (o : Option ℕ) → definition_of s d ≡ o → (q : Option ℕ) → definition_of l d ≡ q → definition_of l d ≡ definition_of s d
      by (Some t) i q j = e.later.grows.defined d t i ∙ sym i
      by None i None j = j ∙ sym i
      by None i (Some u) j = absurd (undefined u j i)

  ends_are_judged_at : AreJudgedOver p s l g vs
  ends_are_judged_at = record {
    each = λ n t d.
        let c = typed_at-among g.typed n (h.types n t d).0 (h.types n t d).1 in
        let own = h.stage.types n t (typed_at g n) c d in
        let fit = AllFit-later stay s l h.stage.sound e.later (bytes s l h.stage.sound e.later same_in_end) (typed_at g n) own.stand
        (h.stage.fit n (typed_at g n) c) in
        record {
          types = own.typed l e.later fit;
          value = λ v k. (h.stage.values n t v k d).typed l e.later;
          rows = λ v k. (h.stage.values n t v k d).rows l e.later;
          defined = type_defined n t d (sort_of t) refl;
        };
    same = same_in_end;
  }

pub ends_are_judged : IdsMeanTrees → TypesStay → BytesFollowDefinitions → EndsAreJudged
ends_are_judged mean stay bytes p s l g vs h e = ends_are_judged_at mean stay bytes p s l g vs h e
