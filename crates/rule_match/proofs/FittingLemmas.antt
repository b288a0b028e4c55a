-- The first case of which something is so.
use Rattle.std.proofs.Common.{◌≡◌, ℕ, ◌+◌, ◌<◌, ◌≤◌, Bool, true, false, not, cond, List, length, drop, Option, Some, None, ap, ap₂, sym, ◌∙◌}
use Rattle.std.specs.Prelude.{find, option_map}
use Rattle.hare_tree.specs.declared.place.Place.{Place}
use Rattle.hare_types.specs.declared.coercion.Ty.{Ty}
use Rattle.hare_types.specs.Store.{Store}
use Rattle.hare_typed.specs.Typed.{TypedNode}
use Rattle.hare_typed.specs.Order.{tree_from_front}
use Rattle.hare_rules.specs.Context.{place_of}
use Rattle.hare_rules.specs.Control.{Pattern, fits_pattern, pattern_kid}
use Rattle.rule_judge.proofs.KidLemmas.{drop_front, drop_past}

module _ (p : TypedNode → Bool) (xs : List TypedNode) (i : ℕ) (all : Option TypedNode) (e : all ≡ find p (drop i xs)) where
  pub found_here : (q : Place) → i < length xs → p (tree_from_front i xs) ≡ true → q ≡ place_of (pattern_kid (tree_from_front i xs))
      → Some q ≡ option_map (λ x. place_of (pattern_kid x)) all
  found_here q l h g =
      ap Some g
      ∙ sym (ap (option_map (λ x. place_of (pattern_kid x)))
      (e ∙ ap (find p) (drop_front xs i l) ∙ ap (λ b. cond b (Some (tree_from_front i xs)) (find p (drop (i + 1) xs))) h))

  pub found_later : i < length xs → p (tree_from_front i xs) ≡ false → all ≡ find p (drop (i + 1) xs)
  found_later l h = e ∙ ap (find p) (drop_front xs i l) ∙ ap (λ b. cond b (Some (tree_from_front i xs)) (find p (drop (i + 1) xs))) h

  pub found_nowhere : length xs ≤ i → None ≡ option_map (λ x. place_of (pattern_kid x)) all
  found_nowhere l = sym (ap (option_map (λ x. place_of (pattern_kid x))) (e ∙ ap (find p) (drop_past xs i l)))

-- whether a pattern is none of a type
pub misfits : (f : Store) (a b : Ty) (p q : Pattern) (fit : Bool) → a ≡ b → p ≡ q → fit ≡ fits_pattern f a p
    → not (fits_pattern f b q) ≡ not fit
misfits f a b p q fit e g h = ap not (sym (h ∙ ap₂ (fits_pattern f) e g))
