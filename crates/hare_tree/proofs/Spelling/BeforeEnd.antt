-- All tokens but the last are a front of the list.
use Rattle.std.proofs.Common.{◌≡◌, suc, ◌-◌, List, [], ◌∷◌, take, length, refl, ap, sym, ◌∙◌, arith}
use Rattle.hare_tree.specs.declared.token.Token.{Token}
use Rattle.hare_tree.specs.Grammar.{before_end}

pub before_end_is : (ts : List Token) → before_end ts ≡ take (length ts - 1) ts
before_end_is [] = refl
before_end_is (t ∷ []) = refl
before_end_is (t ∷ u ∷ us) =
    let e : length (t ∷ u ∷ us) - 1 ≡ suc (length (u ∷ us) - 1) = omega arith in
    ap (λ l. t ∷ l) (before_end_is (u ∷ us)) ∙ ap (λ n. take n (t ∷ u ∷ us)) (sym e)
