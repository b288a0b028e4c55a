-- What is seen of a store with which the checking ends.
use Rattle.std.proofs.Common.{◌≡◌, ℕ, Bool, true, false, cond, List, Option, Some, None, inl, inr, refl, ap, sym, ◌∙◌}
use Rattle.std.specs.Prelude.{nat_eq, Contains, slice_index_or, option_and_then}
use Rattle.std.proofs.lemmas.Bool.{or_cases, eqb-true}
use Rattle.std.proofs.lemmas.Option.{slice_get-get_or}
use Rattle.hare_tree.specs.Node.{Node}
use Rattle.hare_types.specs.declared.row.Row.TheVariants as row
use Rattle.hare_types.specs.declared.row.Scalar.TheVariants as keyword
use Rattle.hare_types.specs.Rows.{tree_of, trees}
use Rattle.hare_types.specs.Store.{Store, tree_at, sized_of, definition_of, meaning_of}
use Rattle.hare_types.specs.Sound.{IsStore}
use Rattle.hare_types.specs.Meanings.{IdsMeanTrees}
use Rattle.hare_typed.specs.Typed.{TypedNode}
use Rattle.hare_typed.specs.Order.{tree_from_front}
use Rattle.hare_rules.specs.Words.{is_among, nomem}
use Rattle.hare_seen.specs.Seen.{DefinesTheSame}
use Rattle.hare_seen.specs.Laws.{BytesFollowDefinitions, SeenStoresAreStores}
use Rattle.hare_depends.specs.declared.said.Sort.TheVariants as so
use Rattle.hare_depends.specs.Sorts.{sort_of}
use Rattle.hare_whole.specs.Listing.{Listing, IsDecl, DefinesNomem}
use Rattle.hare_whole.specs.Parts.{written_id}
use Rattle.hare_whole.specs.Turns.{Stage, is_seen, seen, typed_at}
use Rattle.hare_turns.specs.Stages.{IsEnd, IsStage}
use Rattle.hare_turns.specs.Laws.{IsSeenAt, EndsAreSeen}
use Rattle.hare_turns.proofs.LaterStores.Lists.{Contains-from_among}

-- the store defines the types that are done, and `rt::nomem`, and no others
pub record DefinesDone (p : Listing) (s : Store) (g : Stage) : Type 0 where
  pub sound : IsStore s
  pub nomem : DefinesNomem s
  pub only : (d t : ℕ) → definition_of s d ≡ Some t → is_seen g.done d ≡ true
  pub done : (n : ℕ) (t : Node) → Contains g.done n → IsDecl p n t → sort_of t ≡ so.Type →
      definition_of s n ≡ Some (written_id (tree_from_front 0 (typed_at g n)))

pub DefinesDone-stage : (p : Listing) (s : Store) (g : Stage) (vs : List (ℕ × TypedNode)) → IsStage p s g vs → DefinesDone p s g
DefinesDone-stage p s g vs h = record { sound = h.sound; nomem = h.nomem; only = h.only; done = h.done }

-- what is defined is declared
pub declared_from_defined : IdsMeanTrees → (l : Store) → IsStore l → (d u : ℕ) → definition_of l d ≡ Some u →
    (b : Bool) × (sized_of l d ≡ Some b)
declared_from_defined mean l v d u e =
    let r = slice_index_or l.rows u (row.Scalar keyword.Void) in
    let tree = (mean l v).tree u r (slice_get-get_or l.rows u (row.Scalar keyword.Void) (v.defined_within d u e)) in
    let means : meaning_of l d ≡ Some (tree_of (trees l.rows) r) = ap (option_and_then (tree_at l)) e ∙ tree in
    let h = v.defined_sized d (tree_of (trees l.rows) r) means in
    (h.0, h.1)

module _ (mean : IdsMeanTrees) (p : Listing) (s l : Store) (g : Stage) (h : DefinesDone p s g) (e : IsEnd p s l) where
  -- where the end defines a type that is done, the store defines it
  defined_from_seen : (d u : ℕ) → is_seen g.done d ≡ true → definition_of l d ≡ Some u → definition_of s d ≡ None → ⊥
  defined_from_seen d u k i n = elim (or_cases (is_among d g.done) (nat_eq d nomem) k) [
    | inl a ↦ by_done a
    | inr b ↦ by_nomem (eqb-true d nomem b)
  ]
    where
      by_nomem : d ≡ nomem → ⊥
      by_nomem j = let a : definition_of s d ≡ Some h.nomem.0 = ap (definition_of s) j ∙ h.nomem.2 in cc

      by_done : is_among d g.done ≡ true → ⊥
      by_done a =
          let sized = declared_from_defined mean l e.later.sound d u i in
          elim (e.final.declared.no_other d sized.0 sized.1) [
            | inl t ↦ let m = h.done d t.0 (Contains-from_among d g.done a) t.1 t.2 in cc
            | inr j ↦ by_nomem j
          ]

  same_definitions : (v : SeenStoresAreStores) → DefinesTheSame s (seen l g.done)
  same_definitions v d =
      (v (is_seen g.done) l e.later.sound).definitions d
      ∙ by (is_seen g.done d) refl (definition_of s d) refl (definition_of l d) refl
    where
      by : (b : Bool) → is_seen g.done d ≡ b → (o : Option ℕ) → definition_of s d ≡ o → (q : Option ℕ) → definition_of l d ≡ q
          → cond b (definition_of l d) None ≡ definition_of s d
      by false k None i q j = sym i
      by false k (Some t) i q j = absurd (let a = h.only d t i in cc)
      by true k (Some t) i q j = e.later.grows.defined d t i ∙ sym i
      by true k None i None j = j ∙ sym i
      by true k None i (Some u) j = absurd (defined_from_seen d u k j i)

  pub seen_at : BytesFollowDefinitions → SeenStoresAreStores → IsSeenAt s (seen l g.done)
  seen_at bytes v =
      let later = (v (is_seen g.done) l e.later.sound).behind s e.later h.only in
      record { later = later; same = bytes s (seen l g.done) h.sound later (same_definitions v) }

pub ends_are_seen : IdsMeanTrees → BytesFollowDefinitions → SeenStoresAreStores → EndsAreSeen
ends_are_seen mean bytes v p s l g vs h e = seen_at mean p s l g (DefinesDone-stage p s g vs h) e bytes v
