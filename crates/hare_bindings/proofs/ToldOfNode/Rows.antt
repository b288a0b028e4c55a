-- The rows of a declaration read nothing of what is known of others, nor of what stands round it.
use Rattle.std.proofs.Common.{◌≡◌, ℕ, Bool, true, false, not, cond, List, [], ◌∷◌, Option, Some, refl, ap, sym, ◌∙◌, subst}
use Rattle.std.specs.Prelude.{find, option_map}
use Rattle.hare_tree.specs.declared.kind.Kind.{Kind}
use Rattle.hare_tree.specs.declared.kind.Kind.TheVariants as ki
use Rattle.hare_tree.specs.declared.place.Fault.{Fault}
use Rattle.hare_tree.specs.Node.{Head}
use Rattle.hare_typed.specs.Typed.{TypedNode, mark_of}
use Rattle.hare_typed.specs.Coats.{with_coercion}
use Rattle.hare_typed.specs.Folded.{inconstant}
use Rattle.hare_typed.specs.Order.{tree_from_front}
use Rattle.hare_rules.specs.declared.row_id.RowId.{RowId}
use Rattle.hare_rules.specs.declared.row_id.RowId.TheVariants as row
use Rattle.hare_rules.specs.Constants.{is_absent_value}
use Rattle.hare_rules.specs.Context.{Setting, Context, store_of, own_type, place_of}
use Rattle.hare_rules.specs.Control.{has_written_type, value_kid}
use Rattle.hare_rules.specs.Judged.{context_of, IsRefusal}
use Rattle.hare_rules.specs.Rows.{holds, first_failing, fault_of}
use Rattle.hare_rules.specs.Table.{rows_of}
use Rattle.hare_rules.specs.Values.{to_default, declared_value}
use Rattle.rule_ctl.specs.Declaring.{declares, place_found}
use Rattle.hare_whole.specs.Declared.{own_context}
use Rattle.hare_bindings.specs.Bindings.{FailsAt}
use Rattle.hare_bindings.specs.Own.{case_of, value_among, place_inside}

-- ---- rows that are found

abbrev Each : (RowId → Type 0) → List RowId → Type 0
Each P [] = Unit {0}
Each P (r ∷ rs) = P r × Each P rs

found_or : (P : RowId → Type 0) (r q : RowId) (o : Option RowId) (b : Bool) → P r → (o ≡ Some q → P q) → cond b (Some r) o ≡ Some q → P q
found_or P r q o true h k e = let same : r ≡ q = cc in subst P same h
found_or P r q o false h k e = k e

-- what is so of each row is so of the one that is found
among : (P : RowId → Type 0) (p : RowId → Bool) (rs : List RowId) → Each P rs → (q : RowId) → find p rs ≡ Some q → P q
among P p [] a q e = absurd cc
among P p (r ∷ rs) a q e = found_or P r q (find p rs) (p r) a.0 (among P p rs a.1 q) e

-- ---- the value as it is in the end

written_is : (c : Context) (b : Bool) → has_written_type c ≡ b →
    declared_value c ≡ cond b (value_kid c) (with_coercion (to_default (store_of c) (own_type (value_kid c))) (value_kid c))
written_is c true e = rw e refl
written_is c false e = rw e refl

not-false : (b : Bool) → not b ≡ false → b ≡ true
not-false true e = refl
not-false false e = cc

-- ---- the node of a declaration

abbrev of_kind : Kind → Head → Head
of_kind k h = record h { kind = k }

module _ (w : Setting) (n r : ℕ) (xs : List TypedNode) (h : Head) where
  -- as a judge is told of it, and as it stands
  abbrev told : Kind → Context
  told k = context_of w.store [] [] (case_of n r) (of_kind k h) xs

  abbrev own : Kind → Context
  own k = own_context w n (of_kind k h) xs

  pub first_same : (k : Kind) → declares k ≡ true → first_failing (told k) ≡ first_failing (own k)
  first_same ki.Def d = refl
  first_same ki.GlobalLet d = refl
  first_same ki.GlobalConst d = refl
  first_same _ d = absurd cc

  abbrev SameFault : Kind → RowId → Type 0
  SameFault k q = fault_of q (told k) ≡ fault_of q (own k)

  rows_same : (k : Kind) → declares k ≡ true → Each (SameFault k) (rows_of k)
  rows_same ki.Def d = (refl, (refl, (refl, (refl, (refl, (refl, tt))))))
  rows_same ki.GlobalLet d = (refl, (refl, (refl, (refl, (refl, tt)))))
  rows_same ki.GlobalConst d = (refl, (refl, (refl, (refl, (refl, tt)))))
  rows_same _ d = absurd cc

  fault_same : (k : Kind) → declares k ≡ true → (q : RowId) → first_failing (told k) ≡ Some q → SameFault k q
  fault_same k d q e = among (SameFault k) (λ x. not (holds x (told k))) (rows_of k) (rows_same k d) q e

  -- the fault that is told is the node's
  pub fails_at : (e : Fault) → declares h.kind ≡ true → IsRefusal (told h.kind) e → FailsAt (own h.kind) e
  fails_at e d f = record {
    row = f.row;
    first = sym (first_same h.kind d) ∙ f.first;
    is = sym f.is ∙ fault_same h.kind d f.row f.first;
  }

  pub absent_value : (k : Kind) → declares k ≡ true → holds row.BindingConstant (told k) ≡ false →
      is_absent_value (mark_of (tree_from_front 3 xs)).value ≡ true
  absent_value ki.Def d e = not-false _ e
  absent_value ki.GlobalLet d e = not-false _ e
  absent_value ki.GlobalConst d e = not-false _ e
  absent_value _ d e = absurd cc

  value_is : (k : Kind) → declares k ≡ true → declared_value (told k) ≡ value_among w.store xs
  value_is ki.Def d = written_is (told ki.Def) _ refl
  value_is ki.GlobalLet d = written_is (told ki.GlobalLet) _ refl
  value_is ki.GlobalConst d = written_is (told ki.GlobalConst) _ refl
  value_is _ d = absurd cc

  -- where the value is not constant
  pub place_is : (k : Kind) → declares k ≡ true → place_inside w.store n (value_among w.store xs) ≡ place_found (told k)
  place_is k d = sym (ap (λ (v : TypedNode). option_map place_of (inconstant w.store n v)) (value_is k d))
