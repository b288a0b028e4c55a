-- The labels of values and of cases, and the numbers that they are.
use Rattle.std.proofs.Common.{◌≡◌, ℕ, Bool, true, false, cond, List, [], ◌∷◌, map, Option, Some, None, refl, ap, sym, ◌∙◌}
use Rattle.std.specs.Prelude.{option_and_then}
use Rattle.hare_tree.specs.Node.{Head}
use Rattle.hare_types.specs.declared.coercion.Ty.TheVariants.{Of}
use Rattle.hare_types.specs.declared.row.Row.{Row}
use Rattle.hare_types.specs.declared.row.Scalar.TheVariants as keyword
use Rattle.hare_types.specs.Store.{Store}
use Rattle.hare_types.specs.Sound.{IsStore}
use Rattle.hare_types.specs.Later.{IsLater}
use Rattle.hare_typed.specs.declared.cell.Cell.{Cell}
use Rattle.hare_typed.specs.declared.constant.Const.{Const}
use Rattle.hare_typed.specs.declared.constant.Const.TheVariants as constant
use Rattle.hare_typed.specs.Given.{base_row}
use Rattle.hare_typed.specs.Order.{kid_from_front}
use Rattle.hare_typed.specs.Scalars.{Shape, spelled}
use Rattle.hare_typed.specs.Shapes.{shape_of_row}
use Rattle.hare_typed.specs.Typed.{TypedNode, Mark, marked, typed_nodes}
use Rattle.hare_const.specs.Numbers.{number_of, number_by}
use Rattle.hare_rules.specs.Aggregates.{but_last}
use Rattle.hare_rules.specs.Constants as rules
use Rattle.hare_rules.specs.Constants.{number_of_scalar, number_in, labelled, labels_of, values_of}
use Rattle.hare_rules.specs.Context.{is_there, place_of}
use Rattle.hare_rules.specs.Words.{is_word}
use Rattle.rule_judge.specs.Defined.{IsDefined}
use Rattle.rule_judge.proofs.PartLemmas.{base_row_stays}
use Rattle.rule_switch.specs.declared.labels.Label.{Label}
use Rattle.rule_switch.specs.Labels.{label_told, told}

-- ---- numbers

number_same : (o : Option Shape) (cs : List Cell) → number_by o cs ≡ option_and_then (λ shape. number_of_scalar (spelled shape cs)) o
number_same None cs = refl
number_same (Some z) cs = refl

-- the number of a constant, as constants have it and as the rules do in each later store
pub number_stays : (s f : Store) → IsStore s → IsLater s f → (t : ℕ) → IsDefined s t → (c : Const) → number_of s t c ≡ number_in f t c
number_stays s f v l t d constant.Absent = refl
number_stays s f v l t d (constant.Known cs os) =
    number_same (option_and_then shape_of_row (base_row s (Of t))) cs
    ∙ ap (λ (o : Option Row). option_and_then (λ shape. number_of_scalar (spelled shape cs)) (option_and_then shape_of_row o))
    (base_row_stays s f v l (Of t) d)

-- ---- one label

module _ (f : Store) (o : Option ℕ) (v : Const) where
  pub label_text : (t : ℕ) → o ≡ Some t → true ≡ is_word keyword.Str (base_row f (Of t)) →
      rules.text_label (rules.text_in v) ≡ rules.label_of f o v
  label_text t e h =
      sym (ap (λ p. rules.label_of f p v) e ∙
      ap (λ b. cond b (rules.text_label (rules.text_in v)) (rules.value_label (number_in f t v))) (sym h))

  pub label_number : (t : ℕ) → o ≡ Some t → false ≡ is_word keyword.Str (base_row f (Of t)) →
      rules.value_label (number_in f t v) ≡ rules.label_of f o v
  label_number t e h =
      sym (ap (λ p. rules.label_of f p v) e ∙
      ap (λ b. cond b (rules.text_label (rules.text_in v)) (rules.value_label (number_in f t v))) (sym h))

-- where a value stands, with its label
pub value_told : (f : Store) (o : Option ℕ) (h : Head) (m : Mark) (ks : List TypedNode) (v : TypedNode) → marked h m (typed_nodes ks) ≡ v
    → (n : Label) → label_told n ≡ rules.label_of f o m.value → told h.place n ≡ labelled f o v
value_told f o h m ks v e n k =
    ap (λ (a : rules.Label). let x : rules.Labelled = record { place = h.place; label = a } in x) k ∙ ap (labelled f o) e

-- ---- of one case

module _ (f : Store) (o : Option ℕ) (x : TypedNode) where
  pub labels_some : (vs : List TypedNode) → is_there (kid_from_front 0 x) ≡ true → values_of x ≡ but_last vs
      → labels_of f o x ≡ map (labelled f o) (but_last vs)
  labels_some vs e h =
      ap (λ (b : Bool). cond b (map (labelled f o) (values_of x)) (record { place = place_of x; label = rules.Default } ∷ [])) e
      ∙ ap (map (labelled f o)) h

  pub labels_default : is_there (kid_from_front 0 x) ≡ false → labels_of f o x ≡ record { place = place_of x; label = rules.Default } ∷ []
  labels_default e =
      ap (λ (b : Bool). cond b (map (labelled f o) (values_of x)) (record { place = place_of x; label = rules.Default } ∷ [])) e
