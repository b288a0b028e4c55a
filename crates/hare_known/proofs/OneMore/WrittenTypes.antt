-- Written types by their places.
use Rattle.std.proofs.Common.{◌≡◌, ℕ, zero, suc, ◌+◌, ◌-◌, ◌<◌, ◌≤◌, List, [], ◌∷◌, ◌++◌, length, drop, map, Some, refl, ap, sym, ◌∙◌, arith, append_assoc, length-append}
use Rattle.std.specs.Prelude.{slice_get}
use Rattle.std.proofs.lemmas.List.{append-nil}
use Rattle.std.proofs.lemmas.Option.{slice_get_within}
use Rattle.hare_typed.specs.Typed.{TypedNode}
use Rattle.hare_typed.specs.Order.{tree_from_front, backwards}
use Rattle.hare_rules.specs.Aggregates.{but_last}
use Rattle.hare_whole.specs.Parts.{written_id}
use Rattle.hare_known.specs.Known.{IsWrittenAt}
use Rattle.rule_judge.proofs.KidLemmas.{front_found}
use Rattle.rule_judge.proofs.PartLemmas.{but_last-drop, but_last-end}

-- the id of the first
pub written-first : (ts : List TypedNode) (u : ℕ) → IsWrittenAt ts 0 u → u ≡ written_id (tree_from_front 0 ts)
written-first ts u (t, e, w) = w ∙ ap written_id (front_found ts 0 t e)

-- ---- parameters

-- the ids of those before place i
module _ (ts : List TypedNode) (us all : List ℕ) (i : ℕ) (before : us ++ map written_id (but_last (drop i ts)) ≡ all) where
  pub parameters-more : (vs : List ℕ) (u : ℕ) → i < length ts - 1 → IsWrittenAt ts i u → vs ≡ us ++ u ∷ [] →
      vs ++ map written_id (but_last (drop (i + 1) ts)) ≡ all
  parameters-more vs u h (t, e, w) g =
      let rest = map written_id (but_last (drop (i + 1) ts)) in
      ap (λ ys. ys ++ rest) g
      ∙ append_assoc us (u ∷ []) rest
      ∙ ap (λ y. us ++ y ∷ rest) w
      ∙ sym (ap (λ xs. us ++ map written_id xs) (but_last-drop ts i t e h))
      ∙ before

  pub parameters-all : length ts - 1 ≤ i → us ≡ all
  parameters-all h = sym (append-nil us) ∙ sym (ap (λ xs. us ++ map written_id xs) (but_last-end ts i h)) ∙ before

-- ---- the last of them

front-append : (xs ys : List TypedNode) → 0 < length xs → tree_from_front 0 (xs ++ ys) ≡ tree_from_front 0 xs
front-append [] ys h = absurd (omega arith)
front-append (x ∷ xs) ys h = refl

length-backwards : (ts : List TypedNode) → length (backwards ts) ≡ length ts
length-backwards [] = refl
length-backwards (t ∷ ts) = omega (arith, length-append (backwards ts) (t ∷ []), length-backwards ts)

backwards-first : (ts : List TypedNode) (i : ℕ) (t : TypedNode) → suc i ≡ length ts → slice_get ts i ≡ Some t →
    tree_from_front 0 (backwards ts) ≡ t
backwards-first [] i t h e = absurd cc
backwards-first (x ∷ []) zero t h e = cc
backwards-first (x ∷ y ∷ ys) zero t h e = absurd (omega arith)
backwards-first (x ∷ []) (suc i) t h e = absurd cc
backwards-first (x ∷ y ∷ ys) (suc i) t h e =
    front-append (backwards (y ∷ ys)) (x ∷ []) (omega (arith, length-backwards (y ∷ ys))) ∙ backwards-first (y ∷ ys) i t (omega arith) e

backwards-last : (ts : List TypedNode) (i : ℕ) (t : TypedNode) → i ≡ length ts - 1 → slice_get ts i ≡ Some t →
    tree_from_front 0 (backwards ts) ≡ t
backwards-last ts i t h e = let there : i < length ts = slice_get_within ts i t e in backwards-first ts i t (omega arith) e

pub written-last : (ts : List TypedNode) (u i : ℕ) → i ≡ length ts - 1 → IsWrittenAt ts i u →
    u ≡ written_id (tree_from_front 0 (backwards ts))
written-last ts u i h (t, e, w) = w ∙ ap written_id (sym (backwards-last ts i t h e))
