-- What holds of each of some types, one by one.
use Rattle.std.proofs.Common.{◌≡◌, ℕ, suc, ◌+◌, ◌<◌, ◌≤◌, Bool, true, false, ◌&&◌, List, [], ◌∷◌, length, drop, get_or, refl, ap, sym, ◌∙◌, arith, add-one, drop-cons}
use Rattle.hare_types.specs.Store.{Store}
use Rattle.hare_types.specs.ByIds.{has_size_at}
use Rattle.hare_rules.specs.Aggregates.{all_sized}
use Rattle.rule_judge.proofs.KidLemmas.{drop_past}

pub drop-more : (ts : List ℕ) (i t : ℕ) → i < length ts → t ≡ get_or ts i t → drop i ts ≡ t ∷ drop (i + 1) ts
drop-more ts i t h e = rw add-one (drop-cons ts i t h ∙ ap (λ u. u ∷ drop (suc i) ts) (sym e))

-- one has no size
pub sized-not : (f : Store) (ts : List ℕ) (i t : ℕ) (b all : Bool) → i < length ts → t ≡ get_or ts i t → b ≡ false → b ≡ has_size_at f t
    → all_sized f (drop i ts) ≡ all → false ≡ all
sized-not f ts i t b all h e n k g = sym (ap (λ x. x && all_sized f (drop (i + 1) ts)) (sym k ∙ n)) ∙ sym
    (ap (all_sized f) (drop-more ts i t h e)) ∙ g

-- it has one
pub sized-next : (f : Store) (ts : List ℕ) (i t : ℕ) (b all : Bool) → i < length ts → t ≡ get_or ts i t → b ≡ true → b ≡ has_size_at f t
    → all_sized f (drop i ts) ≡ all → all_sized f (drop (i + 1) ts) ≡ all
sized-next f ts i t b all h e n k g = sym (ap (λ x. x && all_sized f (drop (i + 1) ts)) (sym k ∙ n)) ∙ sym
    (ap (all_sized f) (drop-more ts i t h e)) ∙ g

-- none is left
pub sized-end : (f : Store) (ts : List ℕ) (i : ℕ) (all : Bool) → length ts ≤ i → all_sized f (drop i ts) ≡ all → true ≡ all
sized-end f ts i all h g = sym (ap (all_sized f) (drop_past ts i h)) ∙ g
