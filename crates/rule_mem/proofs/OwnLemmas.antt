-- Rows that a node meets.
use Rattle.std.proofs.Common.{◌≡◌, ℕ, Bool, true, false, not, cond, List, [], ◌∷◌, Option, Some, None, refl, ap, sym, ◌∙◌}
use Rattle.std.specs.Prelude.{find, slice_get}
use Rattle.hare_tree.specs.declared.kind.Kind.{Kind}
use Rattle.hare_tree.specs.declared.kind.Kind.TheVariants as ki
use Rattle.hare_tree.specs.Node.{Head}
use Rattle.hare_types.specs.Store.{Store}
use Rattle.hare_typed.specs.Typed.{TypedNode, TypedNodes, Mark, marked, typed_none, typed_more}
use Rattle.hare_rules.specs.declared.row_id.RowId.{RowId}
use Rattle.hare_rules.specs.Context.{Setting, Context}
use Rattle.hare_rules.specs.Places.{place_by, is_place, is_first_place}
use Rattle.hare_rules.specs.Table.{rows_of}
use Rattle.hare_rules.specs.Rows.{holds}
use Rattle.rule_judge.specs.Asked.{own_rows, own_failing}
use Rattle.rule_mem.specs.Needs.{leads_by, has_place_form, has_first_form}

met : (b : Bool) (r : RowId) (o : Option RowId) → cond (not b) (Some r) o ≡ None → b ≡ true
met true r o e = refl
met false r o e = cc

-- the first of a node's own rows
pub first_met : (c : Context) (k : Kind) (r : RowId) (rs : List RowId) → c.head.kind ≡ k → own_rows (rows_of k) ≡ r ∷ rs →
    own_failing c ≡ None → holds r c ≡ true
first_met c k r rs e h n =
    met (holds r c) r (find (λ q. not (holds q c)) rs)
    (sym (ap (find (λ q. not (holds q c))) (ap (λ j. own_rows (rows_of j)) e ∙ h)) ∙ n)

-- what is a place can be one
by_form : (s : Store) (k : Kind) (named : Bool) (ts : TypedNodes) (inner outer : Bool) → (inner ≡ true → outer ≡ true) →
    place_by s k named ts inner ≡ true → leads_by k outer ≡ true
by_form s ki.Path named ts inner outer h e = refl
by_form s ki.Deref named ts inner outer h e = refl
by_form s ki.Index named ts inner outer h e = refl
by_form s ki.Field named ts inner outer h e = refl
by_form s ki.Paren named ts inner outer h e = h e
by_form s _ named ts inner outer h e = cc

mutual
  pub place_form : (w : Setting) (t : TypedNode) → is_place w t ≡ true → has_place_form t ≡ true
  place_form w (marked h m ts) e = by_form w.store h.kind _ ts (is_first_place w ts) (has_first_form ts) (first_form w ts) e

  first_form : (w : Setting) (ts : TypedNodes) → is_first_place w ts ≡ true → has_first_form ts ≡ true
  first_form w typed_none e = cc
  first_form w (typed_more t ts) e = place_form w t e

-- the third of a node's own rows
pub third_met : (c : Context) (k : Kind) (p q r : RowId) (rs : List RowId) → c.head.kind ≡ k → own_rows (rows_of k) ≡ p ∷ q ∷ r ∷ rs →
    own_failing c ≡ None → holds r c ≡ true
third_met c k p q r rs e h n =
    let all = sym (ap (find (λ x. not (holds x c))) (ap (λ j. own_rows (rows_of j)) e ∙ h)) ∙ n in
    met (holds r c) r (find (λ x. not (holds x c)) rs) (behind (holds q c) q _ (behind (holds p c) p _ all))
  where
    behind : (b : Bool) (x : RowId) (o : Option RowId) → cond (not b) (Some x) o ≡ None → o ≡ None
    behind true x o e = e
    behind false x o e = cc
