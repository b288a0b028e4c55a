-- The parts of a declaration over two settings that say the same of each declaration.
use Rattle.std.proofs.Common.{◌≡◌, ℕ, List, [], ◌∷◌, Option, Some, None, refl, ap, sym, ◌∙◌, length}
use Rattle.std.specs.Prelude.{find, not, is_some, option_and_then}
use Rattle.hare_tree.specs.declared.kind.Kind.{Kind}
use Rattle.hare_tree.specs.declared.kind.Kind.TheVariants as ki
use Rattle.hare_tree.specs.Node.{Node, head}
use Rattle.hare_types.specs.Store.{Store}
use Rattle.hare_typed.specs.Typed.{TypedNode}
use Rattle.hare_typed.specs.Order.{tree_from_front, backwards}
use Rattle.hare_rules.specs.declared.declared.DeclType.{DeclType}
use Rattle.hare_rules.specs.declared.row_id.RowId.{RowId}
use Rattle.hare_rules.specs.declared.row_id.RowId.TheVariants as row
use Rattle.hare_rules.specs.Aggregates.{but_last}
use Rattle.hare_rules.specs.Above.{Above}
use Rattle.hare_rules.specs.Flow.{Flow}
use Rattle.hare_rules.specs.Context.{Ordinary}
use Rattle.hare_rules.specs.Operators.{written}
use Rattle.hare_rules.specs.Constants.{length_of, length_by, unless_long}
use Rattle.hare_rules.specs.Rows.{small_array, holds, rows_in_role, first_failing}
use Rattle.hare_agree.specs.Laws.{IsAgreed, ValuesAreEnough}
use Rattle.hare_modules.specs.Uses.{kid}
use Rattle.hare_whole.specs.Listing.{Listing, Written, written_types}
use Rattle.hare_whole.specs.Parts.{function_known}
use Rattle.hare_whole.specs.Declared.{over_type, over_value, over_body, before_type, before_value, before_body}
use Rattle.hare_whole.specs.Turns.{IsTyped, AreTyped, hint_by, IsTypedValue, plain_of, context_of}
use Rattle.hare_turns.specs.Stages.{over, known_of}
use Rattle.hare_finish.specs.Finished.{IsValued, IsBodyBy, HasBody, ArePartsOf}

-- ---- rows

-- the rows of a def and a global read nothing that is known of declarations
module _ (p : Listing) (ds es : List DeclType) (f : Store) (n : ℕ) (t : Node) (ts : List TypedNode) (v : TypedNode) where
  -- what is left out or written where an array has its length means nothing
  length-same : length_of (over p ds f) (plain_of (over p ds f) (kid t 0)) ≡ length_of (over p es f) (plain_of (over p es f) (kid t 0))
  length-same = ap (option_and_then unless_long) (by (head (kid t 0)).kind)
    where
      by : (k : Kind) →
          length_by (over p ds f) k (plain_of (over p ds f) (kid t 0)) ≡ length_by (over p es f) k (plain_of (over p es f) (kid t 0))
      by ki.Path = refl
      by _ = refl

  holds-same : (r : RowId) → holds r (context_of (over p ds f) n t ts v) ≡ holds r (context_of (over p es f) n t ts v)
  holds-same row.ArrayLength = ap is_some length-same
  holds-same row.ArrayTypeSmall =
      ap (λ o. small_array (context_of (over p ds f) n t ts v) o (written (context_of (over p ds f) n t ts v) 1)) length-same
  holds-same _ = refl

  first_failing-same : first_failing (context_of (over p ds f) n t ts v) ≡ first_failing (context_of (over p es f) n t ts v)
  first_failing-same = λ i. find (λ r. not (holds-same r i)) (rows_in_role Ordinary (head t).kind)

-- ---- parts

module _ (enough : ValuesAreEnough) (p : Listing) (ds es : List DeclType) (l : Store)
    (same : (n : ℕ) → known_of ds n ≡ known_of es n) where
  agreed : (a : Above) (x : Flow) (t : Node) → IsAgreed (over p ds l) (over p es l) a x t
  agreed a x t = enough (over p ds l) (over p es l) a x t (record { store = refl; means = refl }) (λ h n c e i. same n)

  IsTyped-same : (n : ℕ) (r : Written) (x : TypedNode) → IsTyped (over p ds l) n r x → IsTyped (over p es l) n r x
  IsTyped-same n r x h = record {
    erases = h.erases;
    plain = h.plain;
    carries = (agreed (over_type (over p ds l) n r.0) before_type r.1).there.carries x h.erases h.carries;
  }

  AreTyped-same : (n : ℕ) (rs : List Written) (xs : List TypedNode) → AreTyped (over p ds l) n rs xs → AreTyped (over p es l) n rs xs
  AreTyped-same n [] [] h = tt
  AreTyped-same n [] (x ∷ xs) h = h
  AreTyped-same n (r ∷ rs) [] h = h
  AreTyped-same n (r ∷ rs) (x ∷ xs) h = (IsTyped-same n r x h.0, AreTyped-same n rs xs h.1)

  IsTypedValue-same : (n : ℕ) (t : Node) (ts : List TypedNode) (v : TypedNode) → IsTypedValue (over p ds l) n t ts v →
      IsTypedValue (over p es l) n t ts v
  IsTypedValue-same n t ts v h =
      let there = (agreed (over_value (over p ds l) n (hint_by ts)) (before_value (kid t 3)) (kid t 3)).there in
      record { erases = h.erases; well = there.well v h.erases h.well }

  IsValued-same : (n : ℕ) (t : Node) (ts : List TypedNode) (v : Option TypedNode) → IsValued (over p ds l) n t ts v →
      IsValued (over p es l) n t ts v
  IsValued-same n t ts None h = h
  IsValued-same n t ts (Some v) h = (IsTypedValue-same n t ts v h.0, sym (first_failing-same p ds es l n t ts v) ∙ h.1)

  IsBodyBy-same : (n : ℕ) (t : Node) (d : DeclType) (b : TypedNode) → IsBodyBy (over p ds l) n t d b → IsBodyBy (over p es l) n t d b
  IsBodyBy-same n t d b h =
      let there = (agreed (over_body n d.ty (length d.params)) (before_body d.params (kid t 4)) (kid t 4)).there in
      (h.0, there.well b h.0 h.1)

  HasBody-same : (n : ℕ) (t : Node) (ts : List TypedNode) (b : Option TypedNode) → HasBody (over p ds l) n t ts b →
      HasBody (over p es l) n t ts b
  HasBody-same n t ts None h = h
  HasBody-same n t ts (Some b) h = IsBodyBy-same n t (function_known n (but_last ts) (tree_from_front 0 (backwards ts))) b h

  -- the parts of a declaration are those over the other setting too
  pub ArePartsOf-same : (n : ℕ) (t : Node) (ts : List TypedNode) (v b : Option TypedNode) → ArePartsOf (over p ds l) n t ts v b →
      ArePartsOf (over p es l) n t ts v b
  ArePartsOf-same n t ts v b h = record {
    types = AreTyped-same n (written_types t) ts h.types;
    value = λ e. IsValued-same n t ts v (h.value e);
    body = λ e. HasBody-same n t ts b (h.body e);
  }
