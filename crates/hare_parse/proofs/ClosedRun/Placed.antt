-- Places of tokens of a list.
use Rattle.std.proofs.Common.{◌≡◌, ℕ, zero, suc, ◌-◌, ◌<◌, ◌≤◌, min, List, [], ◌∷◌, drop, length, Some, refl, ap, sym, ◌∙◌, arith}
use Rattle.std.specs.Prelude.{slice_get}
use Rattle.hare_tree.specs.declared.token.Token.{Token}
use Rattle.hare_tree.specs.Grammar.{place_of}
use Rattle.hare_parse.specs.Answers.{place_up_to}

pub place_got : (ts : List Token) (n : ℕ) (t : Token) → slice_get ts n ≡ Some t → place_of ts n ≡ t.place
place_got [] n t e = cc
place_got (u ∷ us) zero t e = let i : u ≡ t = cc in ap (λ y. y.place) i
place_got (u ∷ us) (suc n) t e = place_got us n t e

-- a place of the list, or else the last one
pub place_last : (ts : List Token) (n : ℕ) → place_up_to ts n ≡ place_of ts (min n (length ts - 1))
place_last [] n = refl
place_last (t ∷ []) n = let e : min n (length (t ∷ []) - 1) ≡ 0 = omega arith in ap (place_of (t ∷ [])) (sym e)
place_last (t ∷ u ∷ us) zero = let e : min 0 (length (t ∷ u ∷ us) - 1) ≡ 0 = omega arith in ap (place_of (t ∷ u ∷ us)) (sym e)
place_last (t ∷ u ∷ us) (suc n) =
    let e : min (suc n) (length (t ∷ u ∷ us) - 1) ≡ suc (min n (length (u ∷ us) - 1)) = omega arith in
    place_last (u ∷ us) n ∙ ap (place_of (t ∷ u ∷ us)) (sym e)

-- the list from a place on has the same places
pub place_dropped : (ts : List Token) (at n : ℕ) → at < length ts → at ≤ n → place_up_to (drop at ts) (n - at) ≡ place_up_to ts n
place_dropped [] at n h i = absurd (omega (arith, h))
place_dropped (t ∷ ts) zero n h i = let e : n - 0 ≡ n = omega arith in ap (place_up_to (t ∷ ts)) e
place_dropped (t ∷ []) (suc at) n h i = absurd (omega (arith, h))
place_dropped (t ∷ u ∷ us) (suc at) zero h i = absurd (omega (arith, i))
place_dropped (t ∷ u ∷ us) (suc at) (suc n) h i =
    let e : suc n - suc at ≡ n - at = omega arith in
    ap (place_up_to (drop at (u ∷ us))) e ∙ place_dropped (u ∷ us) at n (omega (arith, h)) (omega (arith, i))
