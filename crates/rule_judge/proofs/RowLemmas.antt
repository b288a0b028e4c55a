-- Rows that a node meets.
use Rattle.std.proofs.Common.{◌≡◌, ℕ, zero, suc, Bool, true, false, not, cond, List, [], ◌∷◌, Some, None, refl, ap, sym, ◌∙◌, subst}
use Rattle.std.specs.Prelude.{find, slice_get}
use Rattle.hare_tree.specs.declared.kind.Kind.{Kind}
use Rattle.hare_rules.specs.declared.row_id.RowId.{RowId}
use Rattle.hare_rules.specs.Context.{Context}
use Rattle.hare_rules.specs.Table.{rows_of}
use Rattle.hare_rules.specs.Rows.{holds}
use Rattle.rule_judge.specs.Asked.{own_rows, own_failing}

-- where none of these rows fails each holds
none_fails : (c : Context) (rs : List RowId) (n : ℕ) (r : RowId) → find (λ q. not (holds q c)) rs ≡ None → slice_get rs n ≡ Some r →
    holds r c ≡ true
none_fails c [] n r e g = cc
none_fails c (q ∷ rs) n r e g = by (λ m. none_fails c rs m r) n (holds q c) refl e g
  where
    by : ((m : ℕ) → find (λ p. not (holds p c)) rs ≡ None → slice_get rs m ≡ Some r → holds r c ≡ true)
        → (n : ℕ) (b : Bool) → holds q c ≡ b → cond (not b) (Some q) (find (λ p. not (holds p c)) rs) ≡ None →
        slice_get (q ∷ rs) n ≡ Some r → holds r c ≡ true
    by ih n false k f h = cc
    by ih zero true k f h = let same : q ≡ r = cc in subst (λ p. holds p c ≡ true) same k
    by ih (suc n) true k f h = ih n f h

-- row number n of the node's own
pub row_met : (c : Context) (k : Kind) (n : ℕ) (r : RowId) → c.head.kind ≡ k → slice_get (own_rows (rows_of k)) n ≡ Some r →
    own_failing c ≡ None → holds r c ≡ true
row_met c k n r e g h = none_fails c (own_rows (rows_of k)) n r (sym (ap (λ j. find (λ q. not (holds q c)) (own_rows (rows_of j))) e) ∙ h) g
