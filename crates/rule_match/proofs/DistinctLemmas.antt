-- The first case whose pattern an earlier one has.
use Rattle.std.proofs.Common.{◌≡◌, ℕ, ◌+◌, ◌<◌, ◌≤◌, true, false, cond, ◌||◌, List, [], ◌∷◌, length, drop, Some, None, refl, ap, sym, ◌∙◌}
use Rattle.std.specs.Prelude.{option_map}
use Rattle.hare_tree.specs.declared.place.Place.{Place}
use Rattle.hare_typed.specs.Typed.{TypedNode}
use Rattle.hare_typed.specs.Order.{tree_from_front}
use Rattle.hare_rules.specs.Context.{place_of}
use Rattle.hare_rules.specs.Control.{Pattern, same_pattern, pattern_of, repeated_pattern}
use Rattle.rule_judge.proofs.KidLemmas.{drop_front, drop_past}
use Rattle.rule_match.specs.declared.listed.Patterns.{Patterns}
use Rattle.rule_match.specs.Patterns.{holds, AreListed}

-- The patterns are those of the cases before these, none of which repeats one.
pub record AreEarlier (q : Patterns) (all left : List TypedNode) : Type 0 where
  pub earlier : List Pattern
  pub listed : AreListed q earlier
  pub rest : repeated_pattern [] all ≡ repeated_pattern earlier left

pub none_earlier : (q : Patterns) (xs : List TypedNode) → AreListed q [] → AreEarlier q xs xs
none_earlier q xs h = record { earlier = []; listed = h; rest = refl }

module _ (q : Patterns) (all xs : List TypedNode) (i : ℕ) (h : AreEarlier q all (drop i xs)) where
  module _ (x : Pattern) (l : i < length xs) (e : x ≡ pattern_of (tree_from_front i xs)) where
    step : holds q x ≡ false → repeated_pattern [] all ≡ repeated_pattern (x ∷ h.earlier) (drop (i + 1) xs)
    step n =
        h.rest ∙ ap (repeated_pattern h.earlier) (drop_front xs i l)
        ∙ ap (λ b. cond b (Some (tree_from_front i xs))
        (repeated_pattern (pattern_of (tree_from_front i xs) ∷ h.earlier) (drop (i + 1) xs)))
        (sym (h.listed (pattern_of (tree_from_front i xs))) ∙ ap (holds q) (sym e) ∙ n)
        ∙ ap (λ y. repeated_pattern (y ∷ h.earlier) (drop (i + 1) xs)) (sym e)

    pub earlier_more : (new : Patterns) → holds q x ≡ false → ((p : Pattern) → holds new p ≡ (same_pattern p x || holds q p))
        → AreEarlier new all (drop (i + 1) xs)
    earlier_more new n k = record {
      earlier = x ∷ h.earlier;
      listed = λ p. k p ∙ ap (λ b. same_pattern p x || b) (h.listed p);
      rest = step n;
    }

    pub repeats_here : (p : Place) → holds q x ≡ true → p ≡ place_of (tree_from_front i xs)
        → Some p ≡ option_map place_of (repeated_pattern [] all)
    repeats_here p n g =
        sym (ap (option_map place_of) (h.rest ∙ ap (repeated_pattern h.earlier) (drop_front xs i l)
        ∙ ap (λ b. cond b (Some (tree_from_front i xs))
        (repeated_pattern (pattern_of (tree_from_front i xs) ∷ h.earlier) (drop (i + 1) xs)))
        (sym (h.listed (pattern_of (tree_from_front i xs))) ∙ ap (holds q) (sym e) ∙ n)) ∙ ap Some (sym g))

  pub none_repeats : length xs ≤ i → None ≡ option_map place_of (repeated_pattern [] all)
  none_repeats l = sym (ap (option_map place_of) (h.rest ∙ ap (repeated_pattern h.earlier) (drop_past xs i l)))
