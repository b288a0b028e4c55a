-- From the rows that are asked, in their order, to the answer.
use Rattle.std.proofs.Common.{◌≡◌, Bool, true, false, not, ◌&&◌, cond, List, [], ◌∷◌, Option, Some, None, refl, ap, ap₂, sym, ◌∙◌}
use Rattle.std.specs.Prelude.{ℕ, find, option_map}
use Rattle.std.specs.Option.{option_or}
use Rattle.hare_tree.specs.declared.place.Fault.{Fault}
use Rattle.hare_types.specs.declared.coercion.Ty.{Ty}
use Rattle.hare_rules.specs.declared.row_id.RowId.{RowId}
use Rattle.hare_rules.specs.declared.row_id.RowId.TheVariants as row
use Rattle.hare_rules.specs.Context.{Context, store_of}
use Rattle.hare_rules.specs.Table.{rows_of, number_of}
use Rattle.hare_rules.specs.Types.{type_of}
use Rattle.hare_rules.specs.Rows.{is_site, holds, stands, fault_of, fits_hint, may_drop, first_failing}
use Rattle.hare_rules.specs.Judged.{IsRefusal}
use Rattle.rule_judge.specs.Asked.{own_rows, is_kept_alone, are_asked, own_failing, own_fault, last_failing}
use Rattle.rule_judge.proofs.WalkLemmas.{failing}

abbrev first_of : Context → List RowId → Option RowId
first_of c rs = find (λ r. not (holds r c)) rs

-- the two rows that all kinds share
abbrev last_two : List RowId
last_two = row.Site ∷ row.Kept ∷ []

site_only : (r : RowId) → is_site r ≡ true → r ≡ row.Site
site_only row.Site e = refl
site_only _ e = absurd cc

kept_only : (rs : List RowId) → is_kept_alone rs ≡ true → rs ≡ row.Kept ∷ []
kept_only (row.Kept ∷ []) e = refl
kept_only _ e = absurd cc

and_right : (a b : Bool) → (a && b) ≡ true → b ≡ true
and_right true b e = e
and_right false b e = absurd cc

-- the own rows come first
split : (p : RowId → Bool) (c : Context) (rs : List RowId) → are_asked p rs ≡ true →
    first_of c rs ≡ option_or (failing c rs) (first_of c last_two)
split p c [] e = absurd cc
split p c (r ∷ rs) e = by (split p c rs) (is_site r) refl e
  where
    own : (b : Bool) → first_of c rs ≡ option_or (failing c rs) (first_of c last_two)
        → cond (not b) (Some r) (first_of c rs) ≡ option_or (cond (not b) (Some r) (failing c rs)) (first_of c last_two)
    own true h = h
    own false h = refl

    by : (are_asked p rs ≡ true → first_of c rs ≡ option_or (failing c rs) (first_of c last_two)) → (b : Bool) → is_site r ≡ b
        → cond b (is_kept_alone rs) (p r && are_asked p rs) ≡ true
        → first_of c (r ∷ rs) ≡ option_or (find (λ q. not (holds q c)) (cond b [] (r ∷ own_rows rs))) (first_of c last_two)
    by ih true s k = ap₂ (λ q qs. first_of c (q ∷ qs)) (site_only r s) (kept_only rs k)
    by ih false s k = own (holds r c) (ih (and_right (p r) (are_asked p rs) k))

module _ (p : RowId → Bool) (c : Context) (asked : are_asked p (rows_of c.head.kind) ≡ true)
    (all : first_failing c ≡ first_of c (rows_of c.head.kind)) where
  whole : first_failing c ≡ option_or (own_failing c) (first_of c last_two)
  whole = all ∙ split p c (rows_of c.head.kind) asked

  -- an own row fails
  pub refused_own : (e : Fault) → Some e ≡ own_fault c → IsRefusal c e
  refused_own e h = by (own_failing c) refl h
    where
      by : (o : Option RowId) → own_failing c ≡ o → Some e ≡ option_map (λ r. fault_of r c) o → IsRefusal c e
      by None g k = absurd cc
      by (Some r) g k =
          let same : fault_of r c ≡ e = cc in
          record { row = r; first = whole ∙ ap (λ o. option_or o (first_of c last_two)) g; is = same }

  both : (a b : Bool) → cond (not a) (Some row.Site) (cond (not b) (Some row.Kept) None) ≡
      cond a (cond b None (Some row.Kept)) (Some row.Site)
  both true true = refl
  both true false = refl
  both false b = refl

  -- the two that all share are looked at behind the own ones
  last : (a : Ty) → own_failing c ≡ None → type_of c ≡ Some a → first_failing c ≡ last_failing (store_of c) c.hint a
  last a own t =
      whole ∙ ap (λ o. option_or o (first_of c last_two)) own
      ∙ both (holds row.Site c) (holds row.Kept c)
      ∙ ap (λ o. cond (fits_hint (store_of c) c.hint o) (cond (may_drop (store_of c) c.hint o) None (Some row.Kept)) (Some row.Site)) t

  pub passed : (a : Ty) → own_failing c ≡ None → type_of c ≡ Some a → None ≡ last_failing (store_of c) c.hint a → first_failing c ≡ None
  passed a own t h = last a own t ∙ sym h

  at_node : (a b : Bool) (r : RowId) → Some r ≡ cond a (cond b None (Some row.Kept)) (Some row.Site) → stands r c ≡ c.head.place
  at_node true true r e = absurd cc
  at_node true false r e = let same : r ≡ row.Kept = cc in ap (λ q. stands q c) same
  at_node false b r e = let same : r ≡ row.Site = cc in ap (λ q. stands q c) same

  pub refused_last : (a : Ty) (r : RowId) (n : ℕ) → own_failing c ≡ None → type_of c ≡ Some a →
      Some r ≡ last_failing (store_of c) c.hint a → n ≡ number_of r
      → IsRefusal c (record { number = n; place = c.head.place })
  refused_last a r n own t h k = record {
    row = r;
    first = last a own t ∙ sym h;
    is = ap₂ (λ m q. record { number = m; place = q }) (sym k)
        (at_node (fits_hint (store_of c) c.hint (Some a)) (may_drop (store_of c) c.hint (Some a)) r h);
  }

-- where no fault is told no own row fails
pub own_passed : (c : Context) (o : Option Fault) → ((e : Fault) → ¬ (o ≡ Some e)) → o ≡ own_fault c → own_failing c ≡ None
own_passed c o h k = by (own_failing c) refl k
  where
    by : (p : Option RowId) → own_failing c ≡ p → o ≡ option_map (λ r. fault_of r c) p → own_failing c ≡ None
    by None g e = g
    by (Some r) g e = absurd (h (fault_of r c) e)

pub no_row : (o : Option RowId) → ((r : RowId) → ¬ (o ≡ Some r)) → None ≡ o
no_row None h = refl
no_row (Some r) h = absurd (h r refl)
