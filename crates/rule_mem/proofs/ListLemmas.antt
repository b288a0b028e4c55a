-- Kids one by one, but for the last.
use Rattle.std.proofs.Common.{◌≡◌, ℕ, zero, suc, ◌+◌, ◌-◌, ◌<◌, ◌≤◌, Bool, true, false, not, cond, ◌&&◌, List, [], ◌∷◌, ◌++◌, length, drop, take, Option, Some, None, is_some, refl, ap, ap₂, sym, ◌∙◌, subst, arith, add-one, append_assoc}
use Rattle.std.specs.Prelude.{slice_get, find, option_map}
use Rattle.hare_typed.specs.Typed.{TypedNode}
use Rattle.hare_rules.specs.Context.{place_of}
use Rattle.hare_tree.specs.declared.place.Place.{Place}
use Rattle.hare_rules.specs.Aggregates.{but_last}
use Rattle.rule_mem.proofs.FillLemmas.{but_last-drop, but_last-end}

-- the first of those that are left is passed over
pub find-passed : {A : Type 0} (p : A → Bool) (xs : List A) (i : ℕ) (x : A) (all : Option A) → slice_get xs i ≡ Some x → i < length xs - 1 →
    p x ≡ false
    → find p (but_last (drop i xs)) ≡ all → find p (but_last (drop (i + 1) xs)) ≡ all
find-passed p xs i x all e h k g =
    sym (ap (find p) (but_last-drop xs i x e h) ∙ ap (λ b. cond b (Some x) (find p (but_last (drop (i + 1) xs)))) k) ∙ g

-- it is found
pub find-here : {A : Type 0} (p : A → Bool) (xs : List A) (i : ℕ) (x : A) (all : Option A) → slice_get xs i ≡ Some x → i < length xs - 1 →
    p x ≡ true
    → find p (but_last (drop i xs)) ≡ all → Some x ≡ all
find-here p xs i x all e h k g =
    sym (ap (find p) (but_last-drop xs i x e h) ∙ ap (λ b. cond b (Some x) (find p (but_last (drop (i + 1) xs)))) k) ∙ g

-- none is left
pub find-end : {A : Type 0} (p : A → Bool) (xs : List A) (i : ℕ) (all : Option A) → length xs - 1 ≤ i →
    find p (but_last (drop i xs)) ≡ all → None ≡ all
find-end p xs i all h g = sym (ap (find p) (but_last-end xs i h)) ∙ g
