-- Cells that lead nowhere, by each of them.
use Rattle.std.proofs.Common.{◌≡◌, zero, suc, List, [], ◌∷◌, ◌++◌, Contains, ap₂, subst, refl, arith}
use Rattle.hare_typed.specs.declared.cell.Cell.{Cell}
use Rattle.hare_typed.specs.Leads.{led_to, leads}

front-empty : {A : Type 0} (xs ys : List A) → xs ++ ys ≡ [] → xs ≡ []
front-empty [] ys e = refl
front-empty (x ∷ xs) ys e = cc

rest-empty : {A : Type 0} (xs ys : List A) → xs ++ ys ≡ [] → ys ≡ []
rest-empty [] ys e = e
rest-empty (x ∷ xs) ys e = cc

-- where each leads nowhere, so do all
pub leads-none : (cs : List Cell) → ((c : Cell) → Contains cs c → led_to c ≡ []) → leads cs ≡ []
leads-none [] h = refl
leads-none (c ∷ cs) h =
    ap₂ (λ xs ys. xs ++ ys) (h c (0, omega arith, refl)) (leads-none cs (λ d i. h d (suc i.0, omega (arith, i.1), i.2)))

-- where all lead nowhere, so does each
pub none-leads : (cs : List Cell) (c : Cell) → Contains cs c → leads cs ≡ [] → led_to c ≡ []
none-leads [] c (k, l, f) e = absurd (omega (arith, l))
none-leads (x ∷ cs) c (zero, l, f) e = subst (λ y. led_to y ≡ []) f (front-empty (led_to x) (leads cs) e)
none-leads (x ∷ cs) c (suc k, l, f) e = none-leads cs c (k, omega (arith, l), f) (rest-empty (led_to x) (leads cs) e)

-- lists of the same cells lead nowhere both, or neither does
pub leads-alike : (cs ds : List Cell) → ((c : Cell) → Contains ds c → Contains cs c) → leads cs ≡ [] → leads ds ≡ []
leads-alike cs ds h e = leads-none ds (λ c i. none-leads cs c (h c i) e)
