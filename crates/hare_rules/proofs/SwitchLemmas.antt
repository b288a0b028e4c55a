-- That the row on the cover of a `switch` says what cover is, where no value stands twice.
use Rattle.std.proofs.Common.{◌≡◌, ◌∙◌, sym, ap, subst, refl, true≢false, ◌↔◌, ◌⊎◌, inl, inr, ℤ, Bool, true, false, cond, ◌||◌, int_eq, List, [], ◌∷◌, map, Option, Some, is_none, IsTrue}
use Rattle.std.specs.List.{IsDistinct, AllByRecursion, list_any}
use Rattle.std.proofs.lemmas.Cmp.{int_eq_equiv}
use Rattle.std.proofs.lemmas.Map.Keys.{IsDistinct-cons}
use Rattle.hare_types.specs.declared.coercion.Ty.TheVariants as ty
use Rattle.hare_types.specs.declared.row.Row.{Row}
use Rattle.hare_typed.specs.Cover.{Range, ListsAll, range_of}
use Rattle.hare_typed.specs.Given.{base_row}
use Rattle.hare_rules.specs.Context.{store_of}
use Rattle.hare_rules.specs.Constants.{Label, Labelled, Default, Value, Text, Lacking, same_label, is_among_labels, repeated_label, numbers_listed, lists_range, range_at, switched, has_default_case, switch_values, switch_labels}
use Rattle.hare_rules.specs.CoverLaw.{SwitchIsCovered}
use Rattle.hare_rules.proofs.CoverLemmas.{IsDistinct-none, counts_cover}

-- ---- labels that do not stand twice

-- the number is none of these labels
abbrev IsFree : List Label → ℤ → Type 0
IsFree ls v = list_any (same_label (Value v)) ls ≡ false

or_left : (a b : Bool) → (a || b) ≡ false → a ≡ false
or_left true b e = e
or_left false b e = refl

or_right : (a b : Bool) → (a || b) ≡ false → b ≡ false
or_right true b e = absurd (true≢false e)
or_right false b e = e

free_of_fewer : (l : Label) (ls : List Label) (vs : List ℤ) → AllByRecursion (IsFree (l ∷ ls)) vs → AllByRecursion (IsFree ls) vs
free_of_fewer l ls [] a = tt
free_of_fewer l ls (v ∷ vs) a = (or_right (same_label (Value v) l) (list_any (same_label (Value v)) ls) a.0, free_of_fewer l ls vs a.1)

apart : (w : ℤ) (ls : List Label) (vs : List ℤ) → AllByRecursion (IsFree (Value w ∷ ls)) vs → AllByRecursion (λ v. int_eq w v ≡ false) vs
apart w ls [] a = tt
apart w ls (v ∷ vs) a = (int_eq_equiv.symm w v ∙ or_left (int_eq v w) (list_any (same_label (Value v)) ls) a.0, apart w ls vs a.1)

abbrev Differ : List Label → List Label → Type 0
Differ ls ks = IsDistinct int_eq (numbers_listed ks) × AllByRecursion (IsFree ls) (numbers_listed ks)

one_more : (l : Label) (ls ks : List Label) → is_among_labels ls l ≡ false → Differ (l ∷ ls) ks → Differ ls (l ∷ ks)
one_more (Value w) ls ks f d = (
  IsDistinct-cons int_eq w (numbers_listed ks) (apart w ls (numbers_listed ks) d.1) d.0,
  (f, free_of_fewer (Value w) ls (numbers_listed ks) d.1),
)
one_more Default ls ks f d = (d.0, free_of_fewer Default ls (numbers_listed ks) d.1)
one_more (Text s) ls ks f d = (d.0, free_of_fewer (Text s) ls (numbers_listed ks) d.1)
one_more Lacking ls ks f d = (d.0, free_of_fewer Lacking ls (numbers_listed ks) d.1)

differ : (ls : List Label) (xs : List Labelled) → is_none (repeated_label ls xs) ≡ true → Differ ls (map (λ x. x.label) xs)
differ ls [] h = (IsDistinct-none, tt)
differ ls (x ∷ xs) h = step (is_among_labels ls x.label) refl h (differ (x.label ∷ ls) xs)
  where
    step :
        (b : Bool) → is_among_labels ls x.label ≡ b → is_none (cond b (Some x) (repeated_label (x.label ∷ ls) xs)) ≡ true
        → (is_none (repeated_label (x.label ∷ ls) xs) ≡ true → Differ (x.label ∷ ls) (map (λ x. x.label) xs))
        → Differ ls (map (λ x. x.label) (x ∷ xs))
    step true e h go = absurd (true≢false (sym h))
    step false e h go = one_more x.label ls (map (λ x. x.label) xs) e (go h)

-- ---- the row

either_way : (a b : Bool) (P : Type 0) → (b ≡ true) ↔ P → ((a || b) ≡ true) ↔ ((a ≡ true) ⊎ P)
either_way true b P k = (λ e. inl refl, λ x. refl)
either_way false b P k = (λ e. inr (k.0 e), back)
  where
    back : (false ≡ true) ⊎ P → b ≡ true
    back (inl e) = absurd (true≢false (sym e))
    back (inr p) = k.1 p

covered :
    (a : Bool) (o : Option Range) (r : Option Row) (vs : List ℤ) → o ≡ range_of r → IsDistinct int_eq vs
    → IsTrue (a || lists_range o vs) ↔ (IsTrue a ⊎ ListsAll (range_of r) vs)
covered a o r vs e d =
    subst (λ o. IsTrue (a || lists_range o vs) ↔ (IsTrue a ⊎ ListsAll (range_of r) vs)) (sym e)
    (either_way a (lists_range (range_of r) vs) (ListsAll (range_of r) vs) (counts_cover r vs d))

pub switch_is_covered : SwitchIsCovered
switch_is_covered c t e h =
    covered (has_default_case c) (range_at (store_of c) (switched c)) (base_row (store_of c) (ty.Of t)) (switch_values c)
    (ap (range_at (store_of c)) e) (differ [] (switch_labels c) h).0
