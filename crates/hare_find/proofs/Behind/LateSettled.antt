-- What is settled late, one by one.
use Rattle.std.proofs.Common.{◌≡◌, ℕ, zero, suc, ◌+◌, ◌<◌, List, [], ◌∷◌, ◌++◌, length, map, drop, get_or, refl, ap, sym, ◌∙◌, arith, add-one, append_assoc}
use Rattle.hare_types.specs.declared.coercion.Coercion.{Coercion}
use Rattle.hare_rules.specs.Context.{Given}
use Rattle.hare_rules.specs.Settles.{Settled}
use Rattle.hare_told.specs.Settled.{late_where, listed_late}
use Rattle.hare_flow.specs.declared.yields.Handed.{Handed}
use Rattle.hare_flow.specs.Seen.{given_of}

pub none_late : (gs : List Given) → listed_late gs [] ≡ []
none_late [] = refl
none_late (g ∷ gs) = refl

-- one more
late_more : (gs : List Handed) (rs : List Coercion) (i : ℕ) (g : Handed) (r : Coercion) → i < length gs → i < length rs →
    g ≡ get_or gs i g →
    r ≡ get_or rs i r →
    listed_late (map given_of (drop i gs)) (drop i rs)
    ≡ late_where (given_of g).node (given_of g).ty r ++ listed_late (map given_of (drop (suc i) gs)) (drop (suc i) rs)
late_more [] rs i g r h k e d = absurd (omega arith)
late_more (p ∷ gs) [] i g r h k e d = absurd (omega arith)
late_more (p ∷ gs) (q ∷ rs) zero g r h k e d = rw (e, d) refl
late_more (p ∷ gs) (q ∷ rs) (suc i) g r h k e d = late_more gs rs i g r (omega arith) (omega arith) e d

pub late_next : (gs : List Handed) (rs : List Coercion) (i : ℕ) (g : Handed) (r : Coercion) (now new all : List Settled) → i < length gs →
    i < length rs → g ≡ get_or gs i g → r ≡ get_or rs i r → new ≡ now ++ late_where (given_of g).node (given_of g).ty r →
    now ++ listed_late (map given_of (drop i gs)) (drop i rs) ≡ all →
    new ++ listed_late (map given_of (drop (i + 1) gs)) (drop (i + 1) rs) ≡ all
late_next gs rs i g r now new all h k e d n p =
    rw (add-one, n)
    (append_assoc now (late_where (given_of g).node (given_of g).ty r) (listed_late (map given_of (drop (suc i) gs)) (drop (suc i) rs))
    ∙ ap (λ ss. now ++ ss) (sym (late_more gs rs i g r h k e d)) ∙ p)
