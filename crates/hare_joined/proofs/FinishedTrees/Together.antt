-- All finished declarations together.
use Rattle.std.proofs.Common.{◌≡◌, ℕ, true, List, Option, Some, None, refl, ap, sym, ◌∙◌, subst, arith}
use Rattle.std.specs.Prelude.{slice_get}
use Rattle.std.specs.Option.{option_map}
use Rattle.hare_tree.specs.Node.{Node}
use Rattle.hare_types.specs.Store.{Store, definition_of}
use Rattle.hare_types.proofs.LaterLemmas.{later_trans}
use Rattle.hare_typed.specs.Typed.{TypedNode}
use Rattle.hare_typed.specs.Erased.{erase}
use Rattle.hare_typed.specs.Order.{tree_from_front}
use Rattle.hare_typed.specs.Numbers.{kind_of}
use Rattle.hare_inference.specs.Laws.{InferenceIsExact}
use Rattle.hare_agree.specs.Laws.{ValuesAreEnough}
use Rattle.hare_modules.specs.Declarations.{is_type_decl}
use Rattle.hare_depends.specs.declared.said.Sort.{Sort}
use Rattle.hare_depends.specs.declared.said.Sort.TheVariants as so
use Rattle.hare_whole.specs.Listing.{Listing}
use Rattle.hare_whole.specs.Parts.{known_by, known, written_id, type_part}
use Rattle.hare_whole.specs.Judged.{AreTyped as AreTypedTrees}
use Rattle.hare_whole.specs.Turns.{Stage, typed_at, IsDefinedAs}
use Rattle.hare_turns.specs.Stages.{over, known_of}
use Rattle.hare_turns.specs.Ends.{AreBodies}
use Rattle.hare_turns.specs.Judged.{EndsAreJudged}
use Rattle.hare_finish.specs.Finished.{ArePartsOf, IsFinishedIn}
use Rattle.hare_declarations.specs.declared.parts.Parts.{Parts}
use Rattle.hare_joined.specs.Joined.{FinishedAreTyped}
use Rattle.hare_joined.proofs.KnownWhileJudged.Found.{known-found}
use Rattle.hare_joined.proofs.KnownWhileJudged.Known.{unknown-beyond}
use Rattle.hare_joined.proofs.KnownWhileJudged.Agreement.{ArePartsOf-same}
use Rattle.hare_joined.proofs.FinishedTrees.Types.{has_one_type}
use Rattle.hare_joined.proofs.FinishedTrees.Numbered.{IsEachAt, each-finished, each-at, each-beyond, each-erased}
use Rattle.hare_joined.proofs.FinishedTrees.Parts.{AreJoined, IsPartOf, parts_are, known_is}

module _ (ends : EndsAreJudged) (enough : ValuesAreEnough) (exact : InferenceIsExact) (p : Listing) (s r f l : Store) (g : Stage)
    (vs : List (ℕ × TypedNode)) (qs : List Parts) (ds : List TypedNode) (h : AreJoined p s r f l g vs qs ds) where
  at : (n : ℕ) (d : TypedNode) → slice_get ds n ≡ Some d → IsEachAt p g.known r f p.decls qs n n d
  at n d e = each-at p g.known r f h.each n n (omega arith) d e

  part : (n : ℕ) (d : TypedNode) (a : IsEachAt p g.known r f p.decls qs n n d) → IsPartOf p l g vs qs n a.tree a.parts
  part n d a = record {
    is_there = a.is_there;
    has_parts = a.has_parts;
    over_end = (ends p s l g vs h.judged h.end).each n a.tree a.is_there;
  }

  -- in the end the same is known of each as was while they were judged
  same : (n : ℕ) → known_of g.known n ≡ known_of (known l ds) n
  same n = by (slice_get ds n) refl ∙ sym (known-found l ds n)
    where
      by : (o : Option TypedNode) → slice_get ds n ≡ o →
          known_of g.known n ≡ option_map (λ d. known_by l n (kind_of d) d) (slice_get ds n)
      by None i =
          unknown-beyond p l refl (h.judged.judged l h.end).goes n (each-beyond p g.known r f h.each n i)
          ∙ ap (option_map (λ d. known_by l n (kind_of d) d)) (sym i)
      by (Some d) i =
          let a = at n d i in
          known_is p s r f l g vs qs ds h n a.tree a.parts (part n d a) d a.own
          ∙ ap (option_map (λ d. known_by l n (kind_of d) d)) (sym i)

  -- the declaration over what is known in the end
  parts_in_end : (n : ℕ) (d : TypedNode) (a : IsEachAt p g.known r f p.decls qs n n d) →
      ArePartsOf (over p (known l ds) l) n a.tree a.parts.types a.parts.value a.own.body
  parts_in_end n d a =
      ArePartsOf-same enough p g.known (known l ds) l same n a.tree a.parts.types a.parts.value a.own.body
      (parts_are p s r f l g vs qs ds h n a.tree a.parts (part n d a) d a.own)

  in_end : (n : ℕ) (d : TypedNode) (a : IsEachAt p g.known r f p.decls qs n n d) →
      IsFinishedIn (over p (known l ds) l) n a.tree a.parts.types a.parts.value d
  in_end n d a = a.own.finished (over p (known l ds) l) n h.behind_trees (parts_in_end n d a)

  erased : (n : ℕ) (t : Node) (d : TypedNode) → slice_get p.decls n ≡ Some t → slice_get ds n ≡ Some d → erase d ≡ t
  erased n t d i e =
      let a = at n d e in
      let there = a.is_there in
      let one : a.tree ≡ t = cc in
      (in_end n d a).erases ∙ one

  -- a type is defined as it is written
  defined : (n : ℕ) (d : TypedNode) → slice_get ds n ≡ Some d → is_type_decl (kind_of d) ≡ true →
      definition_of l n ≡ Some (written_id (type_part d))
  defined n d e i =
      let a = at n d e in
      let whole = in_end n d a in
      let one = has_one_type exact (over p (known l ds) l) n a.tree d a.parts.types whole.erases (parts_in_end n d a).types i whole.well in
      let typed = h.parts.at n a.parts a.has_parts in
      let over_end = (part n d a).over_end.defined in
      let own : IsDefinedAs l n so.Type (typed_at g n) = subst (λ (x : Sort). IsDefinedAs l n x (typed_at g n)) one.sort over_end in
      own ∙ ap (λ ts. Some (written_id (tree_from_front 0 ts))) typed ∙ ap Some (sym one.id)

  typed_together : AreTypedTrees p l ds
  typed_together = record {
    erases = each-erased p g.known r f h.each erased;
    well = λ n d e. (in_end n d (at n d e)).well;
    defined = defined;
  }

-- ---- the law

pub finished_are_typed : EndsAreJudged → ValuesAreEnough → InferenceIsExact → FinishedAreTyped
finished_are_typed ends enough exact p s r f l j bs ds judged bodies_grown bodies trees_grown finished end =
    let behind_trees = end.later in
    let behind_bodies = later_trans r f l trees_grown.later behind_trees in
    let known_bodies = subst (λ ks. AreBodies p ks r 0 p.decls bs) (sym judged.same) bodies in
    typed_together ends enough exact p s r f l judged.stage judged.values j.parts ds
    (record {
      judged = judged.judged;
      known_as = judged.known;
      parts = judged.parts;
      each = each-finished p judged.stage.known r f finished 0 known_bodies;
      end = record { later = later_trans s r l bodies_grown.later behind_bodies; final = end.final };
      behind_bodies = behind_bodies;
      behind_trees = behind_trees;
    })
