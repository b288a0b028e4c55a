-- Ids of a store, one more at the end.
use Rattle.std.proofs.Common.{◌≡◌, ℕ, zero, suc, ◌<◌, length, get_or, Some, ap, sym, ◌∙◌, subst, List, [], ◌∷◌, ◌++◌}
use Rattle.std.specs.Prelude.{slice_get}
use Rattle.std.proofs.lemmas.Option.{slice_get-get_or}
use Rattle.hare_types.specs.Rows.{AllBelow}

pub AllBelow-push : (n : ℕ) (is : List ℕ) (i : ℕ) → AllBelow n is → i < n → AllBelow n (is ++ i ∷ [])
AllBelow-push n [] i h l = (l, tt)
AllBelow-push n (j ∷ js) i h l = (h.0, AllBelow-push n js i h.1 l)

pub AllBelow-get : (n : ℕ) (is : List ℕ) → AllBelow n is → (k p : ℕ) → slice_get is k ≡ Some p → p < n
AllBelow-get n [] h k p e = absurd cc
AllBelow-get n (i ∷ is) h zero p e =
    let same : i ≡ p = cc in
    subst (λ x. x < n) same h.0
AllBelow-get n (i ∷ is) h (suc k) p e = AllBelow-get n is h.1 k p e

-- an element that an iterator gives
pub AllBelow-item : (n : ℕ) (is : List ℕ) → AllBelow n is → (k p : ℕ) → k < length is → p ≡ get_or is k p → p < n
AllBelow-item n is h k p less e = AllBelow-get n is h k p (slice_get-get_or is k p less ∙ ap Some (sym e))
