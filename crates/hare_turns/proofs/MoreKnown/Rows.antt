-- The rows of a declaration read nothing that is known of declarations.
use Rattle.std.proofs.Common.{◌≡◌, ℕ, List, refl, ap}
use Rattle.std.specs.Prelude.{find, not, is_some, option_and_then}
use Rattle.hare_tree.specs.declared.kind.Kind.{Kind}
use Rattle.hare_tree.specs.declared.kind.Kind.TheVariants as ki
use Rattle.hare_tree.specs.Node.{Node, head}
use Rattle.hare_types.specs.Store.{Store}
use Rattle.hare_typed.specs.Typed.{TypedNode}
use Rattle.hare_rules.specs.declared.declared.DeclType.{DeclType}
use Rattle.hare_rules.specs.declared.row_id.RowId.{RowId}
use Rattle.hare_rules.specs.declared.row_id.RowId.TheVariants as row
use Rattle.hare_rules.specs.Context.{Ordinary}
use Rattle.hare_rules.specs.Operators.{written}
use Rattle.hare_rules.specs.Constants.{length_of, length_by, unless_long}
use Rattle.hare_rules.specs.Rows.{small_array, holds, rows_in_role, first_failing}
use Rattle.hare_modules.specs.Uses.{kid}
use Rattle.hare_whole.specs.Listing.{Listing}
use Rattle.hare_whole.specs.Turns.{plain_of, context_of}
use Rattle.hare_turns.specs.Stages.{over}

module _ (p : Listing) (ds es : List DeclType) (f : Store) (n : ℕ) (t : Node) (ts : List TypedNode) (v : TypedNode) where
  -- what is left out or written where an array has its length means nothing
  length-told : length_of (over p ds f) (plain_of (over p ds f) (kid t 0)) ≡ length_of (over p es f) (plain_of (over p es f) (kid t 0))
  length-told = ap (option_and_then unless_long) (by (head (kid t 0)).kind)
    where
      by : (k : Kind) →
          length_by (over p ds f) k (plain_of (over p ds f) (kid t 0)) ≡ length_by (over p es f) k (plain_of (over p es f) (kid t 0))
      by ki.Path = refl
      by _ = refl

  holds-told : (r : RowId) → holds r (context_of (over p ds f) n t ts v) ≡ holds r (context_of (over p es f) n t ts v)
  holds-told row.ArrayLength = ap is_some length-told
  holds-told row.ArrayTypeSmall =
      ap (λ o. small_array (context_of (over p ds f) n t ts v) o (written (context_of (over p ds f) n t ts v) 1)) length-told
  holds-told _ = refl

  pub first_failing-told : first_failing (context_of (over p ds f) n t ts v) ≡ first_failing (context_of (over p es f) n t ts v)
  first_failing-told = λ i. find (λ r. not (holds-told r i)) (rows_in_role Ordinary (head t).kind)
