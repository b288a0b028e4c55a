-- Numbers counted within limits, and cases for all that no other is for.
use Rattle.std.proofs.Common.{◌≡◌, ℕ, ◌+◌, ◌-◌, ◌<◌, ◌≤◌, Bool, true, false, not, ◌||◌, cond, List, [], ◌∷◌, ◌++◌, length, drop, map, filter, Option, Some, None, refl, ap, sym, ◌∙◌, arith}
use Rattle.std.specs.Prelude.{ℤ, pos, if◌then◌else◌, slice_get}
use Rattle.std.specs.List.{list_any}
use Rattle.std.specs.Ordering.{int_eq}
use Rattle.std.proofs.lemmas.List.Folds.{list_any-append}
use Rattle.hare_types.specs.declared.coercion.Ty.TheVariants.{Of}
use Rattle.hare_types.specs.declared.row.Row.{Row}
use Rattle.hare_types.specs.declared.row.Row.TheVariants as row
use Rattle.hare_types.specs.declared.row.Scalar.TheVariants as keyword
use Rattle.hare_types.specs.Store.{Store}
use Rattle.hare_types.specs.Sound.{IsStore}
use Rattle.hare_types.specs.Later.{IsLater}
use Rattle.hare_typed.specs.declared.constant.Const.{Const}
use Rattle.hare_typed.specs.Given.{base_row}
use Rattle.hare_typed.specs.Cover.{Range, range_of}
use Rattle.hare_typed.specs.Order.{kid_from_front}
use Rattle.hare_typed.specs.Typed.{TypedNode, mark_of}
use Rattle.hare_const.specs.declared.cover.Limits.{Limits}
use Rattle.hare_rules.specs.Aggregates.{but_last}
use Rattle.hare_rules.specs.Constants as rules
use Rattle.hare_rules.specs.Constants.{is_within, width_of, lists_range, range_at, labelled, labels_of, each_label, values_of, switched, switch_labels, switch_values, is_switched}
use Rattle.hare_rules.specs.Context.{Context, store_of, is_there, place_of}
use Rattle.hare_rules.specs.Words.{is_word}
use Rattle.rule_judge.specs.Defined.{IsDefined}
use Rattle.rule_judge.specs.declared.turn.Turn.{Turn}
use Rattle.rule_judge.specs.Turns.{context_in}
use Rattle.rule_judge.proofs.PartLemmas.{but_last-drop, but_last-end, base_row_stays}
use Rattle.rule_join.proofs.BreakLemmas.{drop_get}
use Rattle.rule_switch.specs.Labels.{numbers_in, counted, is_default, is_number_within, range_told, HasLimits}
use Rattle.rule_switch.proofs.LabelLemmas.{label_number}

-- ---- values of a type with limits

-- the base of such a type is not `str`
limits_untexted : (r : Option Row) (q : Range) → range_of r ≡ Some q → false ≡ is_word keyword.Str r
limits_untexted (Some (row.Scalar keyword.Str)) q e = absurd cc
limits_untexted (Some (row.Scalar _)) q e = refl
limits_untexted (Some _) q e = refl
limits_untexted None q e = refl

-- so its constants are the numbers that they are
pub number_labelled : (s f : Store) → IsStore s → IsLater s f → (t : ℕ) → IsDefined s t → (r : Limits) → HasLimits s t r → (v : Const)
    → rules.value_label (rules.number_in f t v) ≡ rules.label_of f (Some t) v
number_labelled s f w l t d r h v =
    label_number f (Some t) v t refl
    (limits_untexted (base_row f (Of t)) (range_told r) (sym (ap range_of (base_row_stays s f w l (Of t) d)) ∙ h))

-- ---- numbers counted

counted_first : (r : Range) (x : rules.Labelled) (xs : List rules.Labelled) →
    counted r (x ∷ xs) ≡ (if is_number_within r x.label then 1 else 0) + counted r xs
counted_first r x xs = by x.label
  where
    by : (l : rules.Label) → length (filter (is_within r) (rules.numbers_listed (l ∷ map (λ y. y.label) xs))) ≡
        (if is_number_within r l then 1 else 0) + counted r xs
    by rules.Default = omega arith
    by (rules.Text s) = omega arith
    by rules.Lacking = omega arith
    by (rules.Value v) = at (is_within r v)
      where
        at : (b : Bool) → length (cond b (v ∷ filter (is_within r) (numbers_in xs)) (filter (is_within r) (numbers_in xs))) ≡
            (if b then 1 else 0) + counted r xs
        at true = omega arith
        at false = omega arith

counted-append : (r : Range) (xs ys : List rules.Labelled) → counted r (xs ++ ys) ≡ counted r xs + counted r ys
counted-append r [] ys = omega arith
counted-append r (x ∷ xs) ys =
    omega (arith, counted_first r x (xs ++ ys), counted_first r x xs, counted-append r xs ys)

-- one more, and at last all
module _ (f : Store) (o : Option ℕ) (r : Range) (old all : ℕ) where
  pub value_counted : (vs : List TypedNode) (i : ℕ) (v : TypedNode) (one : ℕ) → slice_get vs i ≡ Some v → i < length vs - 1
      → one ≡ (if is_number_within r (labelled f o v).label then 1 else 0)
      → old + counted r (map (labelled f o) (but_last (drop i vs))) ≡ all
      → (old + one) + counted r (map (labelled f o) (but_last (drop (i + 1) vs))) ≡ all
  value_counted vs i v one e h k g =
      let here = ap (λ us. counted r (map (labelled f o) us)) (but_last-drop vs i v e h) ∙
      counted_first r (labelled f o v) (map (labelled f o) (but_last (drop (i + 1) vs))) in
      omega (arith, g, k, here)

  pub values_counted : (vs : List TypedNode) (i : ℕ) → length vs - 1 ≤ i
      → old + counted r (map (labelled f o) (but_last (drop i vs))) ≡ all → old ≡ all
  values_counted vs i h g =
      let none = ap (λ us. counted r (map (labelled f o) us)) (but_last-end vs i h) in
      omega (arith, none, g)

  pub case_counted : (xs : List TypedNode) (i : ℕ) (x : TypedNode) (one : ℕ) → slice_get xs i ≡ Some x → one ≡ counted r (labels_of f o x)
      → old + counted r (each_label f o (drop i xs)) ≡ all → (old + one) + counted r (each_label f o (drop (i + 1) xs)) ≡ all
  case_counted xs i x one e k g =
      let here = ap (λ us. counted r (each_label f o us)) (drop_get xs i x e) ∙
      counted-append r (labels_of f o x) (each_label f o (drop (i + 1) xs)) in
      omega (arith, g, k, here)

-- ---- all values of a type

pub covers_by : (f : Store) (o : Option ℕ) (t : ℕ) (r : Option Row) (q : Range) (vs : List ℤ) → o ≡ Some t → r ≡ base_row f (Of t) →
    range_of r ≡ Some q
    → int_eq (pos (length (filter (is_within q) vs))) (width_of q) ≡ lists_range (range_at f o) vs
covers_by f o t r q vs e h k =
    sym (ap (λ p. lists_range (range_at f p) vs) e ∙ ap (λ p. lists_range (range_of p) vs) (sym h) ∙ ap (λ p. lists_range p vs) k)

pub covers_none : (f : Store) (o : Option ℕ) (t : ℕ) (r : Option Row) (vs : List ℤ) → o ≡ Some t → r ≡ base_row f (Of t) →
    range_of r ≡ None → false ≡ lists_range (range_at f o) vs
covers_none f o t r vs e h k =
    sym (ap (λ p. lists_range (range_at f p) vs) e ∙ ap (λ p. lists_range (range_of p) vs) (sym h) ∙ ap (λ p. lists_range p vs) k)

-- ---- a case for all others

-- no value is that
plain : (b : Bool) (x : Option (List ℕ)) (y : Option ℤ) → rules.is_default (cond b (rules.text_label x) (rules.value_label y)) ≡ false
plain true None y = refl
plain true (Some s) y = refl
plain false x None = refl
plain false x (Some v) = refl

value_plain : (f : Store) (o : Option ℕ) (v : Const) → rules.is_default (rules.label_of f o v) ≡ false
value_plain f None v = refl
value_plain f (Some t) v = plain (is_word keyword.Str (base_row f (Of t))) (rules.text_in v) (rules.number_in f t v)

module _ (f : Store) (o : Option ℕ) where
  values_plain : (vs : List TypedNode) → list_any is_default (map (labelled f o) vs) ≡ false
  values_plain [] = refl
  values_plain (v ∷ vs) =
      ap (λ b. b || list_any is_default (map (labelled f o) vs)) (value_plain f o (mark_of v).value) ∙ values_plain vs

  case_default : (x : TypedNode) → list_any is_default (labels_of f o x) ≡ not (is_there (kid_from_front 0 x))
  case_default x = by (is_there (kid_from_front 0 x))
    where
      by : (b : Bool) → list_any is_default (cond b (map (labelled f o) (values_of x))
          (record { place = place_of x; label = rules.Default } ∷ [])) ≡ not b
      by true = values_plain (values_of x)
      by false = refl

  abbrev some_default : List TypedNode → Bool
  some_default xs = list_any is_default (each_label f o xs)

  module _ (xs : List TypedNode) (i : ℕ) (x : TypedNode) (e : slice_get xs i ≡ Some x) where
    default_first : some_default (drop i xs) ≡ (not (is_there (kid_from_front 0 x)) || some_default (drop (i + 1) xs))
    default_first =
        ap some_default (drop_get xs i x e) ∙ list_any-append is_default (labels_of f o x) (each_label f o (drop (i + 1) xs))
        ∙ ap (λ b. b || some_default (drop (i + 1) xs)) (case_default x)

    pub default_here : true ≡ not (is_there (kid_from_front 0 x)) → some_default (drop i xs) ≡ true
    default_here h = default_first ∙ ap (λ b. b || some_default (drop (i + 1) xs)) (sym h)

    pub default_next : false ≡ not (is_there (kid_from_front 0 x)) → some_default (drop i xs) ≡ some_default (drop (i + 1) xs)
    default_next h = default_first ∙ ap (λ b. b || some_default (drop (i + 1) xs)) (sym h)

-- ---- the row

pub labels_are : (f : Store) (t : Turn) (o : Option ℕ) → o ≡ switched (context_in f t)
    → each_label f o (drop 1 t.kids.now) ≡ switch_labels (context_in f t)
labels_are f t o e = ap (λ p. each_label f p (drop 1 t.kids.now)) e

module _ (c : Context) (xs : List rules.Labelled) (e : xs ≡ switch_labels c) where
  pub covered_default : true ≡ list_any is_default xs → true ≡ is_switched c
  covered_default h =
      sym (ap (λ b. b || lists_range (range_at (store_of c) (switched c)) (switch_values c)) (ap (list_any is_default) (sym e) ∙ sym h))

  pub covered_all : (o : Option ℕ) (b : Bool) → false ≡ list_any is_default xs → o ≡ switched c →
      b ≡ lists_range (range_at (store_of c) o) (numbers_in xs) → b ≡ is_switched c
  covered_all o b h k g =
      g ∙ ap (λ p. lists_range (range_at (store_of c) p) (numbers_in xs)) k ∙
      ap (λ ys. lists_range (range_at (store_of c) (switched c)) (numbers_in ys)) e
      ∙ sym (ap (λ b. b || lists_range (range_at (store_of c) (switched c)) (switch_values c)) (ap (list_any is_default) (sym e) ∙ sym h))
