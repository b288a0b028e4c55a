-- What nodes ask of their kids.
use Rattle.std.proofs.Common.{◌≡◌, ℕ, zero, suc, true, cond, List, [], ◌∷◌, length, take, Option, Some, None, is_some, refl, ap, sym, ◌∙◌, arith}
use Rattle.hare_typed.specs.Typed.{TypedNode}
use Rattle.hare_typed.specs.Order.{tree_from_front}
use Rattle.hare_rules.specs.declared.hint.Hint.TheVariants as hint
use Rattle.hare_rules.specs.Above.{hint_to, by_place, first, written_hint}
use Rattle.hare_rules.specs.Context.{is_there, own_type}
use Rattle.hare_rules.specs.Judged.{is_type_hint}
use Rattle.hare_rules.specs.Words.{id_in}

pub hint_to-asks : (o : Option ℕ) → is_type_hint (hint_to o) ≡ is_some o
hint_to-asks None = refl
hint_to-asks (Some t) = refl

-- the first of some kids
pub first_take : (xs : List TypedNode) (i n : ℕ) → length (take i xs) ≡ suc n → tree_from_front 0 (take i xs) ≡ tree_from_front 0 xs
first_take [] zero n e = refl
first_take [] (suc i) n e = refl
first_take (x ∷ xs) zero n e = absurd (omega (arith, e))
first_take (x ∷ xs) (suc i) n e = refl

-- ---- the value of a binding

value_asked : (xs : List TypedNode) (i : ℕ) → length (take i xs) ≡ 1
    → is_type_hint (written_hint (tree_from_front 0 xs)) ≡
    is_type_hint (by_place (length (take i xs)) (hint.None ∷ written_hint (first (take i xs)) ∷ []) hint.None)
value_asked xs i e =
    sym (ap (λ n. is_type_hint (by_place n (hint.None ∷ written_hint (first (take i xs)) ∷ []) hint.None)) e ∙ ap
    (λ (x : TypedNode). is_type_hint (written_hint x)) (first_take xs i 0 e))

-- of the value the type that is written, where one is
pub value_written : (xs : List TypedNode) (i : ℕ) → length (take i xs) ≡ 1 → is_there (tree_from_front 0 xs) ≡ true
    → is_some (id_in (own_type (tree_from_front 0 xs))) ≡
    is_type_hint (by_place (length (take i xs)) (hint.None ∷ written_hint (first (take i xs)) ∷ []) hint.None)
value_written xs i e k =
    sym (hint_to-asks (id_in (own_type (tree_from_front 0 xs)))) ∙ sym
    (ap (λ b. is_type_hint (cond b (hint_to (id_in (own_type (tree_from_front 0 xs)))) hint.None)) k) ∙ value_asked xs i e
