-- The walk over the rows of a node.
use Rattle.std.proofs.Common.{◌≡◌, ℕ, zero, suc, ◌+◌, ◌<◌, ◌≤◌, Bool, true, false, not, ◌&&◌, cond, List, [], ◌∷◌, length, drop, get_or, Option, Some, None, refl, ap, ap₂, sym, ◌∙◌, arith}
use Rattle.std.specs.Prelude.{find, option_map}
use Rattle.std.proofs.Math.Seq.{drop-cons}
use Rattle.hare_tree.specs.declared.place.Place.{Place}
use Rattle.hare_rules.specs.declared.row_id.RowId.{RowId}
use Rattle.hare_rules.specs.Context.{Context}
use Rattle.hare_rules.specs.Table.{number_of}
use Rattle.hare_rules.specs.Rows.{is_site, holds, stands, fault_of}
use Rattle.rule_judge.specs.Asked.{own_rows, is_kept_alone, are_asked, unmet, own_failing, own_fault}

-- the first of these rows that fails, before the two that all kinds share
abbrev pub failing : Context → List RowId → Option RowId
failing c rs = find (λ r. not (holds r c)) (own_rows rs)

-- ---- the rows that are left

pub left : (rs : List RowId) (i : ℕ) (d : RowId) → i < length rs → drop i rs ≡ get_or rs i d ∷ drop (i + 1) rs
left rs i d h =
    let next : suc i ≡ i + 1 = omega arith in
    drop-cons rs i d h ∙ ap (λ k. get_or rs i d ∷ drop k rs) next

none_left : (rs : List RowId) (i : ℕ) → length rs ≤ i → drop i rs ≡ []
none_left [] zero h = refl
none_left [] (suc i) h = refl
none_left (r ∷ rs) zero h = absurd (omega arith)
none_left (r ∷ rs) (suc i) h = none_left rs i (omega arith)

-- a list of rows does not end before the two
pub not_ended : (p : RowId → Bool) (rs : List RowId) (i : ℕ) → length rs ≤ i → are_asked p (drop i rs) ≡ true → ⊥
not_ended p rs i h e = let no : false ≡ true = sym (ap (are_asked p) (none_left rs i h)) ∙ e in cc

and_true : (a b : Bool) → (a && b) ≡ true → (a ≡ true) × (b ≡ true)
and_true true b e = (refl, e)
and_true false b e = absurd cc

asked_cons : (p : RowId → Bool) (r : RowId) (rs qs : List RowId) → qs ≡ r ∷ rs → is_site r ≡ false → are_asked p qs ≡ true → (p r ≡ true) ×
    (are_asked p rs ≡ true)
asked_cons p r rs qs e s h =
    and_true (p r) (are_asked p rs) (sym (ap (are_asked p) e ∙ ap (λ b. cond b (is_kept_alone rs) (p r && are_asked p rs)) s) ∙ h)

pub asked_here : (p : RowId → Bool) (rs : List RowId) (i : ℕ) (r : RowId) → drop i rs ≡ r ∷ drop (i + 1) rs → is_site r ≡ false →
    are_asked p (drop i rs) ≡ true → p r ≡ true
asked_here p rs i r e s h = (asked_cons p r (drop (i + 1) rs) (drop i rs) e s h).0

pub asked_next : (p : RowId → Bool) (rs : List RowId) (i : ℕ) (r : RowId) → drop i rs ≡ r ∷ drop (i + 1) rs → is_site r ≡ false →
    are_asked p (drop i rs) ≡ true
    → are_asked p (drop (i + 1) rs) ≡ true
asked_next p rs i r e s h = (asked_cons p r (drop (i + 1) rs) (drop i rs) e s h).1

-- ---- what a row answers

-- where no place is told there is none
pub no_place : (o : Option Place) → ((p : Place) → ¬ (o ≡ Some p)) → None ≡ o
no_place None h = refl
no_place (Some p) h = absurd (h p refl)

met : (b : Bool) (q : Place) → None ≡ cond b None (Some q) → b ≡ true
met true q e = refl
met false q e = absurd cc

failed : (b : Bool) (p q : Place) → Some p ≡ cond b None (Some q) → (b ≡ false) × (p ≡ q)
failed true p q e = absurd cc
failed false p q e = (refl, cc)

module _ (c : Context) (rs : List RowId) (i : ℕ) (r : RowId) (e : drop i rs ≡ r ∷ drop (i + 1) rs) where
  -- the two are reached
  pub at_site : is_site r ≡ true → failing c (drop i rs) ≡ None
  at_site s = ap (failing c) e ∙ ap (λ b. find (λ q. not (holds q c)) (cond b [] (r ∷ own_rows (drop (i + 1) rs)))) s

  own : is_site r ≡ false → failing c (drop i rs) ≡ cond (not (holds r c)) (Some r) (failing c (drop (i + 1) rs))
  own s = ap (failing c) e ∙ ap (λ b. find (λ q. not (holds q c)) (cond b [] (r ∷ own_rows (drop (i + 1) rs)))) s

  pub at_met : is_site r ≡ false → None ≡ unmet r c → failing c (drop i rs) ≡ failing c (drop (i + 1) rs)
  at_met s h = own s ∙ ap (λ b. cond (not b) (Some r) (failing c (drop (i + 1) rs))) (met (holds r c) (stands r c) h)

  pub at_failed : is_site r ≡ false → (p : Place) → Some p ≡ unmet r c → (n : ℕ) → n ≡ number_of r → own_failing c ≡ failing c (drop i rs)
      → Some (record { number = n; place = p }) ≡ own_fault c
  at_failed s p h n g k =
      let f = failed (holds r c) p (stands r c) h in
      let first : own_failing c ≡ Some r = k ∙ own s ∙ ap (λ b. cond (not b) (Some r) (failing c (drop (i + 1) rs))) f.0 in
      ap₂ (λ x y. Some (record { number = x; place = y })) g f.1 ∙ sym (ap (option_map (λ q. fault_of q c)) first)

-- no own row fails
pub no_fault : (c : Context) → own_failing c ≡ None → None ≡ own_fault c
no_fault c e = sym (ap (option_map (λ q. fault_of q c)) e)
