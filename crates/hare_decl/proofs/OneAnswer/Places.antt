-- The places of tokens of a list.
use Rattle.std.proofs.Common.{◌≡◌, ℕ, zero, suc, ◌<◌, ◌⊎◌, inl, inr, List, [], ◌∷◌, slice_get, Some, None, length, refl, ap, sym, ◌∙◌, arith}
use Rattle.std.proofs.lemmas.Option.{slice_get_within}
use Rattle.hare_tree.specs.declared.token.Token.{Token}
use Rattle.hare_tree.specs.Grammar.{Language, IsSyntaxFault, IsDepthFault, IsFirstFault, place_of, before_end}
use Rattle.hare_prefixes.proofs.Joining.Places.{cut}
use Rattle.hare_ll_table.proofs.SeenTokens.Joining.{read_drop, drop_past}
use Rattle.hare_decl.specs.Answers.{last_place}

-- the place of the token that is got
pub place_got : (ts : List Token) (n : ℕ) (t : Token) → Some t ≡ slice_get ts n → t.place ≡ place_of ts n
place_got ts n t e =
    let c = cut ts n (slice_get_within ts n t (sym e)) in
    let d = sym c.rest ∙ read_drop ts n t e in
    let i : c.first ≡ t = cc in
    ap (λ (x : Token). x.place) (sym i) ∙ sym c.place

-- nothing is got behind the tokens alone
pub some_got : (ts : List Token) (n : ℕ) → n < length ts → None ≡ slice_get ts n → ⊥
some_got ts n h e = let c = cut ts n h in let d = sym c.rest ∙ drop_past ts n e in cc

-- the last place is that of the last token
pub last_is : (file : ℕ) (ts : List Token) (n : ℕ) → length ts ≡ suc n → place_of ts n ≡ last_place file ts
last_is file [] n e = absurd (omega (arith, e))
last_is file (t ∷ []) zero e = refl
last_is file (t ∷ []) (suc n) e = absurd (omega (arith, e))
last_is file (t ∷ u ∷ us) zero e = absurd (omega (arith, e))
last_is file (t ∷ u ∷ us) (suc n) e = last_is file (u ∷ us) n (omega (arith, e))

-- the last token keeps the places of those before it as they are
pub place_before_end : (ts : List Token) (n : ℕ) → n < length (before_end ts) → place_of (before_end ts) n ≡ place_of ts n
place_before_end [] n h = refl
place_before_end (t ∷ []) n h = absurd (omega (arith, h))
place_before_end (t ∷ u ∷ us) zero h = refl
place_before_end (t ∷ u ∷ us) (suc n) h = place_before_end (u ∷ us) n (omega (arith, h))

-- a fault stands at a token of the list
pub first_within : {T : Type 0} (l : Language T) (ts : List Token) (number n : ℕ) → IsFirstFault l ts number n → n < length ts
first_within l ts number n f = by f.fault
  where
    by : ((number ≡ 8) × IsSyntaxFault l ts n) ⊎ ((number ≡ 9) × IsDepthFault l ts n × (IsSyntaxFault l ts n → ⊥)) → n < length ts
    by (inl s) = s.1.within
    by (inr d) = let a = d.1.within in let b = d.1.holds in omega (arith, a, b)
