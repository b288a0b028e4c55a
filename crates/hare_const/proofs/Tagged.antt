-- Constants have the tags that types have by their ids, which no later store changes.
use Rattle.std.proofs.Common.{◌≡◌, ◌∙◌, sym, ap, ap₂, subst, refl, ℕ, zero, suc, ◌+◌, ◌<◌, ◌≤◌, arith, Bool, true, false, List, [], ◌++◌, length, Option, Some, None}
use Rattle.std.proofs.lemmas.List.{length-append}
use Rattle.std.specs.Prelude.{not, ◌||◌, slice_get, if◌then◌else◌}
use Rattle.hare_tree.specs.declared.place.Fault.{Fault}
use Rattle.hare_tree.specs.declared.stop.Stop.{Stop}
use Rattle.hare_tree.specs.Levels.{is_type}
use Rattle.hare_types.specs.Store.{Store, Extends}
use Rattle.hare_types.specs.Numbering.{IsOnce, most}
use Rattle.hare_types.specs.Sound.{IsStore}
use Rattle.hare_types.specs.Later.{IsLater}
use Rattle.hare_types.specs.ByIds.{tag_at}
use Rattle.hare_types.proofs.SoundLemmas.{IsStore-listed}
use Rattle.hare_types.proofs.CallerLemmas.{Extends-refl}
use Rattle.hare_types.proofs.IdLemmas.{tag_tells}
use Rattle.hare_typed.specs.declared.constant.Const.TheVariants as constant
use Rattle.hare_typed.specs.Typed.{TypedNode, TypedNodes, marked, typed_none, typed_more}
use Rattle.hare_typed.specs.Constancy.{hides_kids, or_else, first_inconstant, first_inconstant_of}
use Rattle.hare_typed.specs.ConstantForms.{counted_from}
use Rattle.hare_typed.specs.Constants.{own_kind}
use Rattle.hare_typed.specs.Evaluated.{is_evaluated}
use Rattle.hare_typed.specs.declared.cell.Cell.{Cell}
use Rattle.hare_typed.specs.declared.constant.ConstObject.{ConstObject}
use Rattle.hare_typed.specs.State.{Result}
use Rattle.hare_typed.specs.ConstantValues.{constant_result}
use Rattle.hare_typed.specs.Folded.{tagged_by_id, aborts, inconstant, folded_from, folded}
use Rattle.hare_const.specs.declared.outcome.Outcome.{Outcome}
use Rattle.hare_const.specs.declared.outcome.Outcome.TheVariants.{Known}
use Rattle.hare_const.specs.Made.{own_object, made_of_value, made_of_node}
use Rattle.hare_typed.specs.Settled.{AskedKind, IsPlain, IsSimple, AreSimple}
use Rattle.hare_const.specs.NodeValues.{on_cells, own_value, coerced_value, node_value, tree_value, is_aborted, first_refused, Refuses, cells_in, cells_of}
use Rattle.hare_typed.specs.Settled.{HasBases, HaveBases, IsSettled}
use Rattle.hare_typed.specs.Coherent.{IsCoherent}
use Rattle.hare_const.proofs.LaterTypes.{has_base, in_store}
use Rattle.hare_const.proofs.LaterNodes.{around, kind_same, first-base, simple_stays, plain_stays, coherent_stays, constant_same}
use Rattle.hare_const.proofs.LaterUnions.{SameTags, joins_stay}
use Rattle.hare_const.proofs.Shown.Trees.{constant-too, value_shown, inconstant_same, plain_from, folded-cells}

-- ---- numbers one behind another

length-counted : (i n : ℕ) → length (counted_from i n) ≡ n
length-counted i zero = refl
length-counted i (suc n) = ap suc (length-counted (suc i) n)

counted_at : (i n k x : ℕ) → slice_get (counted_from i n) k ≡ Some x → x ≡ i + k
counted_at i zero k x e = absurd cc
counted_at i (suc n) zero x e = let same : i ≡ x = cc in omega (arith, same)
counted_at i (suc n) (suc k) x e = omega (arith, counted_at (suc i) n k x e)

counted_once : (n : ℕ) → IsOnce (counted_from 0 n)
counted_once n = record { once = λ i j x e f. omega (arith, counted_at 0 n i x e, counted_at 0 n j x f) }

counted_get : (i n k : ℕ) → k < n → slice_get (counted_from i n) k ≡ Some (i + k)
counted_get i zero k h = absurd (omega arith)
counted_get i (suc n) zero h = let e : i ≡ i + 0 = omega arith in ap Some e
counted_get i (suc n) (suc k) h = let e : suc i + k ≡ i + suc k = omega arith in counted_get (suc i) n k (omega (arith, h)) ∙ ap Some e

-- ---- stores

pub tagged_store : (s : Store) → IsStore s → IsStore (tagged_by_id s)
tagged_store s v =
    let few : length (counted_from 0 (length s.rows)) ≤ most = omega (arith, length-counted 0 (length s.rows), v.rows_few) in
    IsStore-listed s (counted_from 0 (length s.rows)) v (counted_once (length s.rows)) few

pub tagged_later : (s : Store) → IsStore s → IsLater s (tagged_by_id s)
tagged_later s v =
    let e : Extends s s = Extends-refl s in
    record {
      grows = record {
        names = e.names;
        rows = e.rows;
        listed = (counted_from 0 (length s.rows), refl);
        sized = e.sized;
        defined = e.defined;
      };
      sound = tagged_store s v;
    }

-- a later store with such tags is later than the first with them
pub both_tagged : (s l : Store) → IsLater s l → IsLater (tagged_by_id s) (tagged_by_id l)
both_tagged s l h = record {
  grows = record {
    names = h.grows.names;
    rows = h.grows.rows;
    listed = (counted_from 0 (length l.rows), refl);
    sized = h.grows.sized;
    defined = h.grows.defined;
  };
  sound = tagged_store l h.sound;
}

pub tag_by_id : (s : Store) → IsStore s → (t : ℕ) → t < length s.rows → tag_at (tagged_by_id s) t ≡ Some (suc t)
tag_by_id s v t h =
    let next : suc t ≡ t + 1 = omega arith in
    let none : 0 + t ≡ t = omega arith in
    let there : slice_get (counted_from 0 (length s.rows)) t ≡ Some (0 + t) = counted_get 0 (length s.rows) t h in
    (tag_tells (tagged_by_id s) (tagged_store s v) t (suc t)).1 (t, next, there ∙ ap Some none)

pub same_tags : (s l : Store) → IsStore s → IsLater s l → SameTags (tagged_by_id s) (tagged_by_id l)
same_tags s l v h = record {
  tags = λ t k.
      let more = h.grows.rows in
      let there : length l.rows ≡ length s.rows + length more.0 = ap length more.1 ∙ length-append s.rows more.0 in
      tag_by_id l h.sound t (omega (arith, there, k)) ∙ sym (tag_by_id s v t k);
}

-- ---- what is settled stays so

module _ (s l : Store) (v : IsStore s) (later : IsLater s l) where
  mutual
    pub bases_stay : (t : TypedNode) → HasBases s t → HasBases l t
    bases_stay (marked h m ts) b = (has_base s l v later m.ty b.0, has_base s l v later m.coerce.to b.1, bases_stay_each ts b.2)

    bases_stay_each : (ts : TypedNodes) → HaveBases s ts → HaveBases l ts
    bases_stay_each typed_none b = tt
    bases_stay_each (typed_more t ts) b = (bases_stay t b.0, bases_stay_each ts b.1)

  mutual
    pub simple_tree : (t : TypedNode) → IsSimple s t → HasBases s t → IsSimple l t
    simple_tree (marked h m ts) p b = (
      simple_stays s l v later (marked h m ts) (around s (marked h m ts) b) h.kind p.0,
      plain_stays s l v later h.kind ts b.2 p.1,
      in_store l m.ty (has_base s l v later m.ty b.0),
      joins_stay s l v later m.ty m.coerce.row m.coerce.to b.0 b.1 p.3,
      simple_each ts p.4 b.2,
    )

    simple_each : (ts : TypedNodes) → AreSimple s ts → HaveBases s ts → AreSimple l ts
    simple_each typed_none p b = tt
    simple_each (typed_more t ts) p b = (simple_tree t p.0 b.0, simple_each ts p.1 b.1)

  pub settled_stays : (t : TypedNode) → IsSettled s t → IsSettled l t
  settled_stays t p = record { simple = simple_tree t p.simple p.bases; bases = bases_stay t p.bases }

  -- which kinds are constant stays
  module _ (a b : TypedNode → Bool) where
    mutual
      pub first_same : (t : TypedNode) → HasBases s t → ((u : TypedNode) → IsSimple s u → HasBases s u → a u ≡ b u) → IsSimple s t →
          first_inconstant l a t ≡ first_inconstant s b t
      first_same (marked h m ts) k same p =
          let t = marked h m ts in
          ap (λ o. if is_type h.kind then None else o)
          (ap₂ (λ x o. or_else (if hides_kids h.kind ts then None else x) o) (firsts_same ts k.2 same p.4)
          (ap₂ (λ c x. if not c || x then Some t else None) (constant_same s l v later h.kind m ts k.0 (first-base s ts k.2)) (same t p k)))

      firsts_same : (ts : TypedNodes) → HaveBases s ts → ((u : TypedNode) → IsSimple s u → HasBases s u → a u ≡ b u) → AreSimple s ts →
          first_inconstant_of l a ts ≡ first_inconstant_of s b ts
      firsts_same typed_none k same p = refl
      firsts_same (typed_more t ts) k same p = ap₂ (λ x y. or_else x y) (first_same t k.0 same p.0) (firsts_same ts k.1 same p.1)

-- ---- the value of a node, and what it makes

module _ (s : Store) (v : IsStore s) (own : ℕ) (t : TypedNode) (os : List Outcome) (cs : List Cell) (p : IsSettled s t)
    (asked : AskedKind s t (own_kind t)) (evaluated : is_evaluated (own_kind t) ≡ true) (known : own_value s own t os ≡ Known cs) where
  own_known : own_value (tagged_by_id s) own t os ≡ Known cs
  own_known = kind_same s (tagged_by_id s) v (tagged_later s v) t (around s t p.bases) own os (own_kind t) asked ∙ known

  node_known_by : (ds : List Cell) → Known ds ≡ coerced_value (tagged_by_id s) own t cs → Known ds ≡ node_value (tagged_by_id s) own t os
  node_known_by ds e =
      e ∙ sym (ap (λ o. on_cells o (coerced_value (tagged_by_id s) own t)) own_known)
      ∙ sym (ap (λ b. if b then on_cells (own_value (tagged_by_id s) own t os) (coerced_value (tagged_by_id s) own t) else Known [])
      evaluated)

  node_makes_by : (old new : List ConstObject) → new ≡ old ++ own_object (tagged_by_id s) own t cs →
      new ≡ old ++ made_of_node (tagged_by_id s) own t (own_kind t) os
  node_makes_by old new e =
      e ∙ sym (ap (λ o. old ++ made_of_value (tagged_by_id s) own t o) own_known)
      ∙ sym (ap (λ b. old ++ (if b then made_of_value (tagged_by_id s) own t (own_value (tagged_by_id s) own t os) else [])) evaluated)

pub node_known : (s : Store) → IsStore s → (own : ℕ) (t : TypedNode) (os : List Outcome) (cs ds : List Cell) → IsSettled s t →
    AskedKind s t (own_kind t) → is_evaluated (own_kind t) ≡ true → own_value s own t os ≡ Known cs →
    Known ds ≡ coerced_value (tagged_by_id s) own t cs → Known ds ≡ node_value (tagged_by_id s) own t os
node_known s v own t os cs ds p a b k e = node_known_by s v own t os cs p a b k ds e

pub node_makes : (s : Store) → IsStore s → (own : ℕ) (t : TypedNode) (os : List Outcome) (cs : List Cell) (old new : List ConstObject) →
    IsSettled s t → AskedKind s t (own_kind t) → is_evaluated (own_kind t) ≡ true → own_value s own t os ≡ Known cs →
    new ≡ old ++ own_object (tagged_by_id s) own t cs → new ≡ old ++ made_of_node (tagged_by_id s) own t (own_kind t) os
node_makes s v own t os cs old new p a b k e = node_makes_by s v own t os cs p a b k old new e

-- ---- the constant of a settled tree

folded-none : (o : Option TypedNode) (r : Result) → o ≡ None →
    cells_in (elim o [ None ↦ folded_from r | Some u ↦ constant.Absent ]) ≡ cells_in (folded_from r)
folded-none None r e = refl
folded-none (Some u) r e = absurd cc

pub tagged_settled : (s : Store) → IsStore s → (t : TypedNode) → IsSettled s t → IsSettled (tagged_by_id s) t
tagged_settled s v t p = settled_stays s (tagged_by_id s) v (tagged_later s v) t p

module _ (s : Store) (v : IsStore s) (own : ℕ) (t : TypedNode) (p : IsSettled s t) (c : IsCoherent s own t) where
  abbrev there : Store
  there = tagged_by_id s

  abbrev plain : IsPlain there t
  plain = plain_from there t (tagged_settled s v t p).simple

  coherent : IsCoherent there own t
  coherent = coherent_stays s there v (tagged_later s v) own t p.bases c

  pub refused_same : inconstant s own t ≡ first_refused s own t
  refused_same =
      sym (first_same s there v (tagged_later s v) (aborts s own) (aborts s own) t p.bases (λ u q k. refl) p.simple)
      ∙ inconstant_same there own t plain coherent
      ∙ first_same s there v (tagged_later s v) (λ u. is_aborted (tree_value there own u)) (λ u. is_aborted (tree_value there own u)) t
      p.bases
      (λ u q k. refl) p.simple

  -- where no node is refused, each is constant
  pub constant_there : inconstant s own t ≡ None → first_inconstant there (λ u. false) t ≡ None
  constant_there e =
      constant-too there (aborts s own) t
      (first_same s there v (tagged_later s v) (aborts s own) (aborts s own) t p.bases (λ u q k. refl) p.simple ∙ e)

  -- and the constant has the cells of the tree's value
  pub folded_cells : first_refused s own t ≡ None → (inconstant s own t ≡ None) ×
      (cells_in (folded s own t) ≡ cells_of (tree_value there own t))
  folded_cells e =
      let none : inconstant s own t ≡ None = refused_same ∙ e in (
        none,
        folded-none (inconstant s own t) (constant_result there own t) none
            ∙ folded-cells (constant_result there own t)
            ∙ ap cells_of (value_shown there own t (constant_there none) plain coherent),
      )

  pub folded_refused : (e : Stop Fault) → Refuses (first_refused s own t) e → Refuses (inconstant s own t) e
  folded_refused e r = subst (λ o. Refuses o e) (sym refused_same) r
