-- The constant of a value, from its cells.
use Rattle.std.proofs.Common.{◌≡◌, ◌∙◌, sym, ap, subst, refl, ℕ, List, Option, Some, None}
use Rattle.hare_tree.specs.declared.place.Fault.{Fault}
use Rattle.hare_tree.specs.declared.stop.Stop.{Stop}
use Rattle.hare_tree.specs.declared.stop.Stop.TheVariants as stop
use Rattle.hare_types.specs.Store.{Store}
use Rattle.hare_types.specs.Sound.{IsStore}
use Rattle.hare_types.specs.Later.{IsLater}
use Rattle.hare_typed.specs.declared.cell.Cell.{Cell}
use Rattle.hare_typed.specs.declared.constant.Const.{Const}
use Rattle.hare_typed.specs.declared.constant.Const.TheVariants as constant
use Rattle.hare_typed.specs.declared.constant.ConstObject.{ConstObject}
use Rattle.hare_typed.specs.Typed.{TypedNode}
use Rattle.hare_typed.specs.State.{Result}
use Rattle.hare_typed.specs.ConstantValues.{constant_result}
use Rattle.hare_typed.specs.Folded.{tagged_by_id, folded_from, folded, inconstant}
use Rattle.hare_const.specs.NodeValues.{cells_in, Refuses}
use Rattle.hare_typed.specs.Settled.{IsSettled}
use Rattle.hare_typed.specs.Coherent.{IsCoherent}
use Rattle.hare_const.specs.Statics.{objects_in, objects_led_to}
use Rattle.hare_const.proofs.LaterNodes.{coherent_stays}
use Rattle.hare_const.proofs.LaterTrees.{constants_stay, objects_stay}
use Rattle.hare_const.proofs.StaticLemmas.{folded_known}

-- ---- none

pub absent_in : (c : Const) → cells_in c ≡ None → c ≡ constant.Absent
absent_in constant.Absent e = refl
absent_in (constant.Known cs os) e = absurd cc

-- where a node is no constant, none is answered
pub folded_absent : (s : Store) (own : ℕ) (t u : TypedNode) → inconstant s own t ≡ Some u → folded s own t ≡ constant.Absent
folded_absent s own t u e = by (inconstant s own t) (constant_result (tagged_by_id s) own t) e
  where
    by : (o : Option TypedNode) (r : Result) → o ≡ Some u → elim o [ None ↦ folded_from r | Some w ↦ constant.Absent ] ≡ constant.Absent
    by None r g = absurd cc
    by (Some w) r g = refl

-- ---- over later stores

-- the answers to a settled tree, by what is known of its constant over the first store
module _ (s : Store) (own : ℕ) (t : TypedNode) (v : IsStore s) (p : IsSettled s t) (c : IsCoherent s own t) where
  pub known_later : (cs : List Cell) → cells_in (folded s own t) ≡ Some cs → (os : List ConstObject) →
      os ≡ objects_led_to (objects_in (tagged_by_id s) own t) cs →
      (l : Store) → IsLater s l → constant.Known cs os ≡ folded l own t
  known_later cs e os f l later =
      let stay = constants_stay s l v later own t p c in
      ap (constant.Known cs) (f ∙ ap (λ xs. objects_led_to xs cs) (sym (objects_stay s l v later own t p)))
      ∙ sym (folded_known l later.sound own t cs stay.settled (coherent_stays s l v later own t p.bases c) (stay.cells ∙ e))

  pub none_later : cells_in (folded s own t) ≡ None → (l : Store) → IsLater s l → constant.Absent ≡ folded l own t
  none_later e l later = sym (absent_in (folded l own t) ((constants_stay s l v later own t p c).cells ∙ e))

  pub refused_later : (e : Stop Fault) (f : Fault) → e ≡ stop.Fault f → Refuses (inconstant s own t) e → (l : Store) → IsLater s l →
      constant.Absent ≡ folded l own t
  refused_later e f g q l later =
      let r = subst (Refuses (inconstant s own t)) g q in
      sym (folded_absent l own t r.0 ((constants_stay s l v later own t p c).inconstant ∙ r.1))
