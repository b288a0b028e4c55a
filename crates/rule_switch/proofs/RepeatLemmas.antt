-- Labels that were met, as a set and as the rules have them.
use Rattle.std.proofs.Common.{◌≡◌, ℕ, ◌+◌, ◌-◌, ◌<◌, ◌≤◌, Bool, true, false, not, ◌||◌, cond, List, [], ◌∷◌, ◌++◌, length, drop, map, Option, Some, None, refl, ap, ap₂, sym, ◌∙◌, true≢false}
use Rattle.std.specs.Prelude.{option_map, is_none, if◌then◌else◌, slice_get}
use Rattle.std.specs.List.{list_any}
use Rattle.std.specs.Option.{option_or}
use Rattle.std.proofs.lemmas.List.{map-append}
use Rattle.std.proofs.lemmas.List.Folds.{list_any-append}
use Rattle.indexmap.specs.IndexSet.{insert_key}
use Rattle.hare_tree.specs.declared.place.Place.{Place}
use Rattle.hare_types.specs.Store.{Store}
use Rattle.hare_typed.specs.Typed.{TypedNode}
use Rattle.hare_rules.specs.Aggregates.{but_last}
use Rattle.hare_rules.specs.Constants as rules
use Rattle.hare_rules.specs.Constants.{same_label, is_among_labels, repeated_label, labelled, labels_of, each_label}
use Rattle.hare_rules.specs.Context.{place_of, place_or}
use Rattle.rule_judge.proofs.PartLemmas.{but_last-drop, but_last-end}
use Rattle.rule_join.proofs.BreakLemmas.{drop_get}
use Rattle.rule_switch.specs.declared.labels.Label.{Label}
use Rattle.rule_switch.specs.declared.labels.Label.TheVariants as label
use Rattle.rule_switch.specs.contracts.labels.LabelPartialEq.TheImpl.{ghosts}
use Rattle.rule_switch.specs.Labels.{label_told, told, is_constant, labels_met, place_in, repeated_place, Meets}

-- ---- a set of labels

-- when two labels are one key
abbrev label_eq : Label → Label → Bool
label_eq = ghosts.eq

eq_same : (a b : Label) → is_constant a ≡ true → label_eq a b ≡ same_label (label_told a) (label_told b)
eq_same label.Default label.Default e = refl
eq_same label.Default (label.Value w) e = refl
eq_same label.Default (label.Text b) e = refl
eq_same label.Default label.Lacking e = refl
eq_same (label.Value v) label.Default e = refl
eq_same (label.Value v) (label.Value w) e = refl
eq_same (label.Value v) (label.Text b) e = refl
eq_same (label.Value v) label.Lacking e = refl
eq_same (label.Text a) label.Default e = refl
eq_same (label.Text a) (label.Value w) e = refl
eq_same (label.Text a) (label.Text b) e = refl
eq_same (label.Text a) label.Lacking e = refl
eq_same label.Lacking b e = absurd (true≢false (sym e))

-- a key is among the keys where its label is among their labels
among_met : (a : Label) → is_constant a ≡ true → (ks : List Label)
    → list_any (label_eq a) ks ≡ is_among_labels (labels_met ks) (label_told a)
among_met a e [] = refl
among_met a e (k ∷ ks) = ap₂ (λ x y. x || y) (eq_same a k e) (among_met a e ks)

or_swap : (a b : Bool) → (a || (b || false)) ≡ (b || a)
or_swap true true = refl
or_swap true false = refl
or_swap false true = refl
or_swap false false = refl

-- one more key is one more label
met_more : (a : Label) (old new : List Label) → list_any (label_eq a) old ≡ false → new ≡ insert_key label_eq old a → (l : rules.Label)
    → is_among_labels (labels_met new) l ≡ (same_label l (label_told a) || is_among_labels (labels_met old) l)
met_more a old new e h l =
    ap (λ ks. is_among_labels (labels_met ks) l) (h ∙ ap (λ b. if b then old else (old ++ a ∷ [])) e)
    ∙ ap (λ ls. is_among_labels ls l) (map-append label_told old (a ∷ []))
    ∙ list_any-append (same_label l) (labels_met old) (label_told a ∷ [])
    ∙ or_swap (is_among_labels (labels_met old) l) (same_label l (label_told a))

-- one that is no constant of the type is like none
lacking_unlike : (l : rules.Label) → same_label l rules.Lacking ≡ false
lacking_unlike rules.Default = refl
lacking_unlike (rules.Value v) = refl
lacking_unlike (rules.Text s) = refl
lacking_unlike rules.Lacking = refl

-- what is no constant is that
lacking_is : (a : Label) → false ≡ is_constant a → a ≡ label.Lacking
lacking_is label.Default e = cc
lacking_is (label.Value v) e = cc
lacking_is (label.Text b) e = cc
lacking_is label.Lacking e = refl

not_true : (b : Bool) → true ≡ not b → b ≡ false
not_true true e = e
not_true false e = refl

not_false : (b : Bool) → false ≡ not b → b ≡ true
not_false true e = refl
not_false false e = e

lacking_new : (ls : List rules.Label) → is_among_labels ls rules.Lacking ≡ false
lacking_new [] = refl
lacking_new (l ∷ ls) = lacking_new ls

lacking_more : (ls : List rules.Label) (l : rules.Label) → is_among_labels ls l ≡ (same_label l rules.Lacking || is_among_labels ls l)
lacking_more ls l = sym (ap (λ b. b || is_among_labels ls l) (lacking_unlike l))

-- ---- the first that is repeated

-- it rests on which labels are among the earlier ones, and not on their order
repeated_alike : (ls ms : List rules.Label) → ((l : rules.Label) → is_among_labels ls l ≡ is_among_labels ms l) →
    (xs : List rules.Labelled)
    → repeated_label ls xs ≡ repeated_label ms xs
repeated_alike ls ms h [] = refl
repeated_alike ls ms h (x ∷ xs) =
    ap₂ (λ b (o : Option rules.Labelled). cond b (Some x) o) (h x.label)
    (repeated_alike (x.label ∷ ls) (x.label ∷ ms) (λ l. ap (λ b. same_label l x.label || b) (h l)) xs)

module _ (ls : List rules.Label) (x : rules.Labelled) where
  met_repeated : (ms : List rules.Label) → is_among_labels ls x.label ≡ true → Meets ls (x ∷ []) (Some x.place) ms
  met_repeated ms e rest = ap (λ b. option_map place_in (cond b (Some x) (repeated_label (x.label ∷ ls) rest))) e

  met_new : (ms : List rules.Label) → is_among_labels ls x.label ≡ false
      → ((l : rules.Label) → is_among_labels ms l ≡ (same_label l x.label || is_among_labels ls l)) → Meets ls (x ∷ []) None ms
  met_new ms e h rest =
      ap (λ b. option_map place_in (cond b (Some x) (repeated_label (x.label ∷ ls) rest))) e
      ∙ ap (option_map place_in) (sym (repeated_alike ms (x.label ∷ ls) h rest))

-- one that is no constant of the type is never met, and leaves the others as they are
pub lacking_met : (ls : List rules.Label) (p : Place) (a : Label) → false ≡ is_constant a → Meets ls (told p a ∷ []) None ls
lacking_met ls p a e =
    let lacks = lacking_is a e in
    met_new ls (told p a) ls (ap (λ b. is_among_labels ls (label_told b)) lacks ∙ lacking_new ls)
    (λ l. lacking_more ls l ∙ sym (ap (λ b. same_label l (label_told b) || is_among_labels ls l) lacks))

-- any other is told by the set, which has it then
module _ (old new : List Label) (p : Place) (a : Label) (h : is_constant a ≡ true) where
  pub set_met : true ≡ not (list_any (label_eq a) old) → new ≡ insert_key label_eq old a
      → Meets (labels_met old) (told p a ∷ []) None (labels_met new)
  set_met e k =
      let no = not_true (list_any (label_eq a) old) e in
      met_new (labels_met old) (told p a) (labels_met new) (sym (among_met a h old) ∙ no) (met_more a old new no k)

  pub set_repeated : false ≡ not (list_any (label_eq a) old) → Meets (labels_met old) (told p a ∷ []) (Some p) (labels_met new)
  set_repeated e =
      met_repeated (labels_met old) (told p a) (labels_met new) (sym (among_met a h old) ∙ not_false (list_any (label_eq a) old) e)

-- ---- one by one

pub meets_along : (ls ms : List rules.Label) (xs ys : List rules.Labelled) (p : Option Place) → ys ≡ xs → Meets ls xs p ms
    → Meets ls ys p ms
meets_along ls ms xs ys p e m rest = ap (λ us. repeated_place ls (us ++ rest)) e ∙ m rest

module _ (f : Store) (o : Option ℕ) (ls ms : List rules.Label) (i : ℕ) (p q : Option Place) (is : p ≡ q) where
  -- the first of the values that are left
  pub value_met : (vs : List TypedNode) (v : TypedNode) (x : rules.Labelled) → slice_get vs i ≡ Some v → i < length vs - 1
      → x ≡ labelled f o v → Meets ls (x ∷ []) p ms → (rest : List rules.Labelled)
      → repeated_place ls (map (labelled f o) (but_last (drop i vs)) ++ rest)
      ≡ option_or q (repeated_place ms (map (labelled f o) (but_last (drop (i + 1) vs)) ++ rest))
  value_met vs v x e h k m rest =
      let left = map (labelled f o) (but_last (drop (i + 1) vs)) ++ rest in
      ap (λ us. repeated_place ls (map (labelled f o) us ++ rest)) (but_last-drop vs i v e h)
      ∙ ap (λ y. repeated_place ls (y ∷ left)) (sym k) ∙ m left ∙ ap (λ u. option_or u (repeated_place ms left)) is

  -- the first of the cases that are left
  pub case_met : (xs : List TypedNode) (x : TypedNode) → slice_get xs i ≡ Some x → Meets ls (labels_of f o x) p ms
      → repeated_place ls (each_label f o (drop i xs)) ≡ option_or q (repeated_place ms (each_label f o (drop (i + 1) xs)))
  case_met xs x e m =
      let left = each_label f o (drop (i + 1) xs) in
      ap (λ us. repeated_place ls (each_label f o us)) (drop_get xs i x e) ∙ m left ∙ ap (λ u. option_or u (repeated_place ms left)) is

-- none of the values are left
pub values_met : (f : Store) (o : Option ℕ) (ls : List rules.Label) (vs : List TypedNode) (i : ℕ) (rest : List rules.Labelled)
    → length vs - 1 ≤ i → repeated_place ls (map (labelled f o) (but_last (drop i vs)) ++ rest) ≡ repeated_place ls rest
values_met f o ls vs i rest h = ap (λ us. repeated_place ls (map (labelled f o) us ++ rest)) (but_last-end vs i h)

-- ---- where the fault stands

pub told_label : (o : Option rules.Labelled) (p : Place) → option_map place_in o ≡ cond (is_none o) None (Some (rules.place_of_label p o))
told_label None p = refl
told_label (Some x) p = refl

pub told_value : (o : Option TypedNode) (p : Place) → option_map place_of o ≡ cond (is_none o) None (Some (place_or p o))
told_value None p = refl
told_value (Some x) p = refl
