-- The items of an array.
use Rattle.std.proofs.Common.{◌≡◌, ℕ, zero, suc, ◌+◌, ◌-◌, ◌<◌, ◌≤◌, Bool, true, false, not, cond, ◌||◌, List, [], ◌∷◌, length, Option, Some, None, is_some, refl, ap, sym, ◌∙◌, arith}
use Rattle.std.specs.Prelude.{slice_get, is_none}
use Rattle.std.specs.Option.{option_or}
use Rattle.hare_types.specs.Store.{Store}
use Rattle.hare_types.specs.declared.coercion.Ty.{Ty}
use Rattle.hare_typed.specs.Typed.{TypedNode}
use Rattle.hare_typed.specs.Order.{tree_from_front}
use Rattle.hare_rules.specs.Context.{own_type, is_there}
use Rattle.hare_rules.specs.Aggregates.{but_last, last_of, there, default_of, unless_default}
use Rattle.hare_rules.specs.Words.{has_default, default_in}
use Rattle.rule_mem.proofs.FillLemmas.{length-but_last}
use Rattle.rule_mem.proofs.TupleLemmas.{slice_get-front}

pub length-items : (xs : List TypedNode) → length (but_last (but_last xs)) ≡ length xs - 2
length-items xs = length-but_last (but_last xs) ∙ ap (λ n. n - 1) (length-but_last xs) ∙ omega arith

-- what stands before the last
pub last_of-but_last : (xs : List TypedNode) → 2 ≤ length xs → last_of (but_last xs) ≡ Some (tree_from_front (length xs - 2) xs)
last_of-but_last [] h = absurd (omega arith)
last_of-but_last (x ∷ []) h = absurd (omega arith)
last_of-but_last (x ∷ y ∷ []) h = refl
last_of-but_last (x ∷ y ∷ z ∷ zs) h =
    let here : length (x ∷ y ∷ z ∷ zs) - 2 ≡ suc (length (y ∷ z ∷ zs) - 2) = omega arith in
    last_of-but_last (y ∷ z ∷ zs) (omega arith) ∙ ap Some (sym (ap (λ n. tree_from_front n (x ∷ y ∷ z ∷ zs)) here))

pub none-last : (xs : List TypedNode) → length xs < 2 → last_of (but_last xs) ≡ None
none-last [] h = refl
none-last (x ∷ []) h = refl
none-last (x ∷ y ∷ ys) h = absurd (omega arith)

-- the first item
pub first_item : (xs : List TypedNode) → 0 < length (but_last (but_last xs)) →
    slice_get (but_last (but_last xs)) 0 ≡ Some (tree_from_front 0 xs)
first_item [] h = absurd (omega arith)
first_item (x ∷ []) h = absurd (omega arith)
first_item (x ∷ y ∷ []) h = absurd (omega arith)
first_item (x ∷ y ∷ z ∷ zs) h = by (but_last (z ∷ zs)) refl
  where
    by : (us : List TypedNode) → but_last (z ∷ zs) ≡ us → slice_get (but_last (x ∷ y ∷ but_last (z ∷ zs))) 0 ≡ Some x
    by us e = refl

pub no_item : (xs : List TypedNode) → length (but_last (but_last xs)) ≡ 0 → slice_get (but_last (but_last xs)) 0 ≡ None
no_item xs h = by (but_last (but_last xs)) h
  where
    by : (us : List TypedNode) → length us ≡ 0 → slice_get us 0 ≡ None
    by [] e = refl
    by (u ∷ us) e = absurd (omega (arith, e))

-- the first item has a default, or it lacks one
pub first_default : (h : Bool) (xs : List TypedNode) (b : Bool) → h ≡ false → 0 < length (but_last (but_last xs)) →
    b ≡ has_default (own_type (tree_from_front 0 xs))
    → b ≡ is_none (cond h None (unless_default (slice_get (but_last (but_last xs)) 0)))
first_default h xs b e k g =
    g ∙ by (tree_from_front 0 xs) (has_default (own_type (tree_from_front 0 xs)))
    ∙ sym (ap (λ o. is_none (unless_default o)) (first_item xs k)) ∙ sym
    (ap (λ c. is_none (cond c None (unless_default (slice_get (but_last (but_last xs)) 0)))) e)
  where
    by : (x : TypedNode) (c : Bool) → c ≡ is_none (cond (not c) (Some x) None)
    by x true = refl
    by x false = refl

-- the element by the first item
pub own_item : (f : Store) (h o : Option ℕ) (xs : List TypedNode) (a : Ty) → None ≡ h → 0 < length (but_last (but_last xs)) →
    a ≡ own_type (tree_from_front 0 xs) → o ≡ default_in f a
    → o ≡ option_or h (default_of f (slice_get (but_last (but_last xs)) 0))
own_item f h o xs a e k g m =
    m ∙ ap (default_in f) g ∙ sym (ap (default_of f) (first_item xs k)) ∙ ap
    (λ p. option_or p (default_of f (slice_get (but_last (but_last xs)) 0))) e
