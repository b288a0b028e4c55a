-- The values of cases, one by one.
use Rattle.std.proofs.Common.{◌≡◌, ℕ, suc, ◌+◌, ◌-◌, ◌<◌, ◌≤◌, Bool, true, false, cond, List, [], ◌∷◌, ◌++◌, length, drop, Option, Some, None, refl, ap, sym, ◌∙◌, arith}
use Rattle.std.specs.Prelude.{find, option_map, slice_get}
use Rattle.std.specs.Option.{option_or}
use Rattle.std.proofs.lemmas.List.Folds.{find-append}
use Rattle.hare_tree.specs.Node.{Head}
use Rattle.hare_tree.specs.declared.place.Place.{Place}
use Rattle.hare_typed.specs.Typed.{TypedNode, Mark, marked, typed_nodes, listed_nodes, kids_of}
use Rattle.hare_typed.specs.Order.{missing, tree_from_front, kid_from_front}
use Rattle.hare_rules.specs.Aggregates.{but_last}
use Rattle.hare_rules.specs.Constants.{values_of, all_values}
use Rattle.hare_rules.specs.Context.{place_of}
use Rattle.rule_judge.proofs.KidLemmas.{front_found, front_past, drop_past}
use Rattle.rule_judge.proofs.PartLemmas.{listed-typed, but_last-drop, but_last-end}
use Rattle.rule_join.proofs.BreakLemmas.{drop_get}
use Rattle.rule_switch.specs.Odd.{is_odd}

-- ---- the first kid of a case

pub first_kid : (x : TypedNode) (h : Head) (m : Mark) (ks : List TypedNode) → marked h m (typed_nodes ks) ≡ x →
    kid_from_front 0 x ≡ tree_from_front 0 ks
first_kid x h m ks e = sym (ap (kid_from_front 0) e) ∙ ap (tree_from_front 0) (listed-typed ks)

kids_listed : (x : TypedNode) (h : Head) (m : Mark) (ks : List TypedNode) → marked h m (typed_nodes ks) ≡ x → listed_nodes (kids_of x) ≡ ks
kids_listed x h m ks e = sym (ap (λ y. listed_nodes (kids_of y)) e) ∙ listed-typed ks

module _ (x : TypedNode) (h : Head) (m : Mark) (ks : List TypedNode) (e : marked h m (typed_nodes ks) ≡ x) where
  -- its kids but the last are the values
  pub values_in : (y : TypedNode) (j : Head) (n : Mark) (vs : List TypedNode) → slice_get ks 0 ≡ Some y → marked j n (typed_nodes vs) ≡ y
      → values_of x ≡ but_last vs
  values_in y j n vs g k =
      ap (λ z. but_last (listed_nodes (kids_of z))) (first_kid x h m ks e ∙ sym (front_found ks 0 y g)) ∙
      ap but_last (kids_listed y j n vs k)

  pub values_none : length ks ≤ 0 → values_of x ≡ []
  values_none g = ap (λ z. but_last (listed_nodes (kids_of z))) (first_kid x h m ks e ∙ sym (front_past ks 0 g))

-- ---- the first value without a constant, among those of a case

abbrev pub odd_place : List TypedNode → Option Place
odd_place vs = option_map place_of (find is_odd vs)

module _ (vs : List TypedNode) (i : ℕ) (x : TypedNode) (e : slice_get vs i ≡ Some x) (h : i < length vs - 1) where
  pub odd_here : true ≡ is_odd x → Some (place_of x) ≡ odd_place (but_last (drop i vs))
  odd_here k = sym (ap odd_place (but_last-drop vs i x e h) ∙
      ap (λ b. option_map place_of (cond b (Some x) (find is_odd (but_last (drop (i + 1) vs))))) (sym k))

  pub odd_next : false ≡ is_odd x → odd_place (but_last (drop i vs)) ≡ odd_place (but_last (drop (i + 1) vs))
  odd_next k = ap odd_place (but_last-drop vs i x e h) ∙
      ap (λ b. option_map place_of (cond b (Some x) (find is_odd (but_last (drop (i + 1) vs))))) (sym k)

pub odd_end : (vs : List TypedNode) (i : ℕ) → length vs - 1 ≤ i → None ≡ odd_place (but_last (drop i vs))
odd_end vs i h = sym (ap odd_place (but_last-end vs i h))

-- ---- and among those of all cases

mapped_or : (o p : Option TypedNode) → option_map place_of (option_or o p) ≡ option_or (option_map place_of o) (option_map place_of p)
mapped_or None p = refl
mapped_or (Some x) p = refl

odd_append : (vs ws : List TypedNode) → odd_place (vs ++ ws) ≡ option_or (odd_place vs) (odd_place ws)
odd_append vs ws = ap (option_map place_of) (find-append is_odd vs ws) ∙ mapped_or (find is_odd vs) (find is_odd ws)

module _ (xs : List TypedNode) (i : ℕ) (x : TypedNode) (e : slice_get xs i ≡ Some x) where
  case_first : odd_place (all_values (drop i xs)) ≡ option_or (odd_place (values_of x)) (odd_place (all_values (drop (i + 1) xs)))
  case_first = ap (λ ys. odd_place (all_values ys)) (drop_get xs i x e) ∙ odd_append (values_of x) (all_values (drop (i + 1) xs))

  pub case_odd : (p : Place) → Some p ≡ odd_place (values_of x) → Some p ≡ odd_place (all_values (drop i xs))
  case_odd p g = sym (case_first ∙ ap (λ o. option_or o (odd_place (all_values (drop (i + 1) xs)))) (sym g))

  pub case_constant : None ≡ odd_place (values_of x) → odd_place (all_values (drop i xs)) ≡ odd_place (all_values (drop (i + 1) xs))
  case_constant g = case_first ∙ ap (λ o. option_or o (odd_place (all_values (drop (i + 1) xs)))) (sym g)

pub cases_end : (xs : List TypedNode) (i : ℕ) → length xs ≤ i → None ≡ odd_place (all_values (drop i xs))
cases_end xs i h = sym (ap (λ ys. odd_place (all_values ys)) (drop_past xs i h))
