-- Where a value is not constant, in each later store.
use Rattle.std.proofs.Common.{◌≡◌, ℕ, Bool, true, false, not, List, Option, Some, None, ap, sym, ◌∙◌, subst}
use Rattle.std.specs.Prelude.{option_map, slice_get, Result, Ok, Err, IfOk}
use Rattle.hare_tree.specs.declared.place.Fault.{Fault}
use Rattle.hare_tree.specs.declared.place.Place.{Place}
use Rattle.hare_tree.specs.declared.stop.Stop.{Stop}
use Rattle.hare_tree.specs.declared.stop.Stop.TheVariants as stop
use Rattle.hare_types.specs.Store.{Store}
use Rattle.hare_types.specs.Sound.{IsStore}
use Rattle.hare_types.specs.Later.{IsLater}
use Rattle.hare_typed.specs.Typed.{TypedNode, mark_of, typed_nodes}
use Rattle.hare_typed.specs.Folded.{inconstant}
use Rattle.hare_typed.specs.Order.{tree_from_front}
use Rattle.hare_rules.specs.Constants.{is_absent_value}
use Rattle.hare_rules.specs.Context.{place_of, own_type, is_there}
use Rattle.hare_const.specs.NodeValues.{Refuses}
use Rattle.hare_typed.specs.Settled.{IsSettled}
use Rattle.hare_const.specs.Settled.{ConstantsStay}
use Rattle.hare_typed.specs.Coherent.{IsCoherent}
use Rattle.rule_judge.specs.Defined.{IsDefinedTy, AreDefinedTrees}
use Rattle.rule_judge.proofs.KidLemmas.{front_found, own_defined}
use Rattle.hare_bindings.specs.Own.{place_inside, in_the_end, value_among, IsPlaceAmong}

-- ---- in each later store

-- it is told right
abbrev pub IsPlaceInside : Store → ℕ → TypedNode → Option Place → Type 0
IsPlaceInside s own t o = (f : Store) → IsLater s f → o ≡ place_inside f own t

module _ (stay : ConstantsStay) (s : Store) (v : IsStore s) (own : ℕ) (t : TypedNode) (h : IsSettled s t) (c : IsCoherent s own t) where
  keeps : (f : Store) → IsLater s f → inconstant f own t ≡ inconstant s own t
  keeps f l = (stay s f v l own t h c).inconstant

  -- nowhere, where each node is constant
  pub place_none : inconstant s own t ≡ None → IsPlaceInside s own t None
  place_none e f l = sym (ap (λ (o : Option TypedNode). option_map place_of o) (keeps f l ∙ e))

  -- where the fault stands
  pub place_some : (q : Stop Fault) (e : Fault) → q ≡ stop.Fault e → Refuses (inconstant s own t) q → IsPlaceInside s own t (Some e.place)
  place_some q e k r f l =
      let found = subst (Refuses (inconstant s own t)) k r in
      let same : inconstant f own t ≡ Some found.0 = keeps f l ∙ found.1 in
      ap (λ (p : Fault). Some p.place) found.2 ∙ sym (ap (λ (o : Option TypedNode). option_map place_of o) same)

-- ---- the value among the kids

absent_not : (b c : Bool) → b ≡ not c → b ≡ true → c ≡ true → ⊥
absent_not b true e h k = absurd cc
absent_not b false e h k = absurd cc

-- a value with a constant is not without one
pub constant_there : (xs : List TypedNode) (x : TypedNode) (b : Bool) → slice_get xs 3 ≡ Some x →
    b ≡ not (is_absent_value (mark_of x).value) → b ≡ true → is_absent_value (mark_of (tree_from_front 3 xs)).value ≡ true → ⊥
constant_there xs x b g e h k =
    let is = front_found xs 3 x g in
    absent_not b _ (e ∙ ap (λ (y : TypedNode). not (is_absent_value (mark_of y).value)) is) h k

pub value_type : (s : Store) (xs : List TypedNode) (x : TypedNode) → AreDefinedTrees s (typed_nodes xs) → slice_get xs 3 ≡ Some x →
    IsDefinedTy s (own_type x)
value_type s xs x d g =
    subst (λ (y : TypedNode). IsDefinedTy s (own_type y)) (sym (front_found xs 3 x g)) (own_defined s xs 3 d)

-- what is told of the value as it is in the end is told of that among the kids
pub place_among : {E : Type 0} (s : Store) (own : ℕ) (xs : List TypedNode) (x y : TypedNode) (b : Bool) (r : Result (Option Place) E) →
    slice_get xs 3 ≡ Some x → b ≡ is_there (tree_from_front 2 xs) → ((f : Store) → IsLater s f → y ≡ in_the_end f b x) →
    IfOk r (IsPlaceInside s own y) → IfOk r (IsPlaceAmong s own xs)
place_among s own xs x y b (Err e) g h k p = tt
place_among s own xs x y b (Ok o) g h k p =
    λ a f l.
    let written : in_the_end f b x ≡ in_the_end f (is_there (tree_from_front 2 xs)) x = ap (λ (c : Bool). in_the_end f c x) h in
    let among : in_the_end f (is_there (tree_from_front 2 xs)) x ≡ value_among f xs =
    ap (λ (z : TypedNode). in_the_end f (is_there (tree_from_front 2 xs)) z) (front_found xs 3 x g) in
    p f l ∙ ap (λ (z : TypedNode). place_inside f own z) (k f l ∙ written ∙ among)
