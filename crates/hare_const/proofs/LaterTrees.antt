-- Constants are in each later store the same.
use Rattle.std.proofs.Common.{◌≡◌, ◌∙◌, sym, ap, ap₂, refl, ℕ, [], ◌∷◌, ◌++◌}
use Rattle.std.specs.Prelude.{Option, Some, None, if◌then◌else◌}
use Rattle.hare_types.specs.Store.{Store}
use Rattle.hare_types.specs.Sound.{IsStore}
use Rattle.hare_types.specs.Later.{IsLater}
use Rattle.hare_typed.specs.declared.constant.Const.TheVariants as constant
use Rattle.hare_typed.specs.Typed.{TypedNode, TypedNodes, marked, typed_none, typed_more, mark_of}
use Rattle.hare_typed.specs.Evaluated.{is_evaluated}
use Rattle.hare_typed.specs.State.{Result}
use Rattle.hare_typed.specs.ConstantValues.{constant_result}
use Rattle.hare_typed.specs.Folded.{tagged_by_id, inconstant, folded, folded_from}
use Rattle.hare_const.specs.declared.outcome.Outcome.{Outcome}
use Rattle.hare_const.specs.declared.outcome.Outcome.TheVariants.{Known, Aborts, Undefined}
use Rattle.hare_typed.specs.Joined.{Joins}
use Rattle.hare_typed.specs.Settled.{IsSimple, AreSimple}
use Rattle.hare_const.specs.NodeValues.{on_cells, operands_of, own_value, coerced_value, tree_value, kid_values, is_aborted, first_refused, cells_in, cells_of}
use Rattle.hare_const.specs.Made.{made_by_kids, made_of_value, made_by, made_by_each}
use Rattle.hare_typed.specs.Settled.{HasBase, HasBases, HaveBases, IsSettled}
use Rattle.hare_const.specs.Settled.{ConstantsStay}
use Rattle.hare_typed.specs.Coherent.{statics_in, IsCoherent}
use Rattle.hare_const.specs.Statics.{objects_in}
use Rattle.hare_const.proofs.LaterNodes.{around, kind_same, cells_on, coherent_stays}
use Rattle.hare_const.proofs.LaterUnions.{SameTags}
use Rattle.hare_const.proofs.LaterCoercions.{coerced_same, object_same}
use Rattle.hare_const.proofs.Tagged.{tagged_store, both_tagged, same_tags, settled_stays, first_same, tagged_settled, refused_same, folded_cells}

-- values, over two stores in which types have the same tags
module _ (s l : Store) (v : IsStore s) (later : IsLater s l) (same : SameTags s l) (own : ℕ) where
  mutual
    pub value_same : (t : TypedNode) → IsSimple s t → HasBases s t → tree_value l own t ≡ tree_value s own t
    value_same (marked h m ts) p b =
        let t = marked h m ts in
        ap (λ o. if is_evaluated h.kind then o else Known [])
        (ap (λ os. on_cells (own_value l own t os) (coerced_value l own t)) (values_same ts p.4 b.2)
        ∙ ap (λ o. on_cells o (coerced_value l own t)) (kind_same s l v later t (around s t b) own (kid_values s own ts) h.kind p.0)
        ∙ cells_on (own_value s own t (kid_values s own ts)) (coerced_value l own t) (coerced_value s own t)
        (λ cs. coerced_same s l v later same own t cs b.0 b.1 p.3))

    values_same : (ts : TypedNodes) → AreSimple s ts → HaveBases s ts → kid_values l own ts ≡ kid_values s own ts
    values_same typed_none p b = refl
    values_same (typed_more t ts) p b = ap₂ (λ o os. o ∷ os) (value_same t p.0 b.0) (values_same ts p.1 b.1)

  -- ---- the objects that are made

  of_value_same : (t : TypedNode) (o p : Outcome) → o ≡ p → HasBase s (mark_of t).ty → HasBase s (mark_of t).coerce.to →
      Joins s (mark_of t).ty (mark_of t).coerce.row (mark_of t).coerce.to → made_of_value l own t o ≡ made_of_value s own t p
  of_value_same t o (Known cs) e h k j = ap (made_of_value l own t) e ∙ object_same s l v later own t cs h k j
  of_value_same t o Aborts e h k j = ap (made_of_value l own t) e
  of_value_same t o Undefined e h k j = ap (made_of_value l own t) e

  mutual
    pub made_same : (t : TypedNode) → IsSimple s t → HasBases s t → made_by l own t ≡ made_by s own t
    made_same (marked h m ts) p b =
        let t = marked h m ts in
        let values = values_same ts p.4 b.2 in
        let own_same : own_value l own t (kid_values l own ts) ≡ own_value s own t (kid_values s own ts)
        = ap (own_value l own t) values ∙ kind_same s l v later t (around s t b) own (kid_values s own ts) h.kind p.0 in
        ap₂ (λ xs ys. xs ++ ys) (ap₂ (made_by_kids t (operands_of h.kind)) values (made_same_each ts p.4 b.2))
        (ap (λ x. if is_evaluated h.kind then x else []) (of_value_same t _ _ own_same b.0 b.1 p.3))

    made_same_each : (ts : TypedNodes) → AreSimple s ts → HaveBases s ts → made_by_each l own ts ≡ made_by_each s own ts
    made_same_each typed_none p b = refl
    made_same_each (typed_more t ts) p b = ap₂ (λ o os. o ∷ os) (made_same t p.0 b.0) (made_same_each ts p.1 b.1)

-- with the tags by ids
module _ (s l : Store) (v : IsStore s) (later : IsLater s l) (own : ℕ) where
  tagged_value : (t : TypedNode) → IsSimple s t → HasBases s t → tree_value (tagged_by_id l) own t ≡ tree_value (tagged_by_id s) own t
  tagged_value t p b =
      let q = tagged_settled s v t (record { simple = p; bases = b }) in
      value_same (tagged_by_id s) (tagged_by_id l) (tagged_store s v) (both_tagged s l later) (same_tags s l v later) own t q.simple q.bases

  first_refused_same : (t : TypedNode) → IsSettled s t → first_refused l own t ≡ first_refused s own t
  first_refused_same t p =
      first_same s l v later (λ u. is_aborted (tree_value (tagged_by_id l) own u)) (λ u. is_aborted (tree_value (tagged_by_id s) own u)) t
      p.bases (λ u q b. ap is_aborted (tagged_value u q b)) p.simple

  absent : (o : Option TypedNode) (r : Result) (u : TypedNode) → o ≡ Some u →
      cells_in (elim o [ None ↦ folded_from r | Some w ↦ constant.Absent ]) ≡ None
  absent None r u e = absurd cc
  absent (Some w) r u e = refl

  module _ (t : TypedNode) (p : IsSettled s t) (c : IsCoherent s own t) where
    here : IsSettled l t
    here = settled_stays s l v later t p

    coherent : IsCoherent l own t
    coherent = coherent_stays s l v later own t p.bases c

    inconstant_stays : inconstant l own t ≡ inconstant s own t
    inconstant_stays = refused_same l later.sound own t here coherent ∙ first_refused_same t p ∙ sym (refused_same s v own t p c)

    cells_same : cells_in (folded l own t) ≡ cells_in (folded s own t)
    cells_same = by (first_refused s own t) refl
      where
        by : (o : Option TypedNode) → first_refused s own t ≡ o → cells_in (folded l own t) ≡ cells_in (folded s own t)
        by None e =
            (folded_cells l later.sound own t here coherent (first_refused_same t p ∙ e)).1 ∙ ap cells_of (tagged_value t p.simple p.bases)
            ∙ sym (folded_cells s v own t p c e).1
        by (Some u) e =
            let none = refused_same s v own t p c ∙ e in
            absent (inconstant l own t) (constant_result (tagged_by_id l) own t) u (inconstant_stays ∙ none)
            ∙ sym (absent (inconstant s own t) (constant_result (tagged_by_id s) own t) u none)

-- the objects to which a constant may lead are the same
pub objects_stay : (s l : Store) → IsStore s → IsLater s l → (own : ℕ) (t : TypedNode) → IsSettled s t →
    objects_in (tagged_by_id l) own t ≡ objects_in (tagged_by_id s) own t
objects_stay s l v later own t p =
    let q = tagged_settled s v t p in
    ap (λ ms. statics_in own t ++ ms)
    (made_same (tagged_by_id s) (tagged_by_id l) (tagged_store s v) (both_tagged s l later) (same_tags s l v later) own t q.simple q.bases)

pub constants_stay : ConstantsStay
constants_stay s l v later own t p c = record {
  settled = settled_stays s l v later t p;
  value = tagged_value s l v later own t p.simple p.bases;
  inconstant = inconstant_stays s l v later own t p c;
  cells = cells_same s l v later own t p c;
}
