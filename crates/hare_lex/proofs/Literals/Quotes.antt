-- Closing quotes, and what holds between them.
use Rattle.std.proofs.Common.{◌≡◌, ℕ, ◌+◌, List, [], ◌∷◌, ◌++◌, Some, None, Bool, true, false, cond, ◌&&◌, not, eqb, length, refl, sym, ap, ◌∙◌, arith, eq-eqb}
use Rattle.std.proofs.lemmas.Bool.Decides.{nat_tests}
use Rattle.std.specs.List.{list_all}
use Rattle.hare_tree.specs.Tokens.{holds}
use Rattle.hare_lex.specs.Lexing.{closing, takes}
use Rattle.hare_lex.proofs.Fronts.Lists.{and_left, and_right, and_both}

-- the quote that is found closes what stands before it
pub record Closes (q : ℕ) (t : Bool) (i : ℕ) (s : List ℕ) (n : ℕ) : Type 0 where
  pub content : List ℕ
  pub rest : List ℕ
  pub split : s ≡ content ++ q ∷ rest
  pub inside : holds q t content ≡ true
  pub len : n ≡ i + length content

same_byte : (c q : ℕ) → eqb c q ≡ true → c ≡ q
same_byte c q h = grind (arith, nat_tests)

holds_more : (q : ℕ) (t : Bool) (c : ℕ) (s : List ℕ) → (not t && eqb c q) ≡ false → holds q (takes q t c) s ≡ true →
    holds q t (c ∷ s) ≡ true
holds_more q true c s e h = h
holds_more q false c s e h = rw e h

not_taken : (t : Bool) (b : Bool) → (not t && b) ≡ true → (not t ≡ true) × (b ≡ true)
not_taken false b h = (refl, h)
not_taken true b h = absurd (cc)

some_is : (i n : ℕ) → Some i ≡ Some n → n ≡ i
some_is i n h = cc

found_step : (q : ℕ) (t : Bool) (i : ℕ) (c : ℕ) (s : List ℕ) (n : ℕ) (b : Bool) → (not t && eqb c q) ≡ b →
    cond b (Some i) (closing q (takes q t c) (i + 1) s) ≡ Some n →
    (closing q (takes q t c) (i + 1) s ≡ Some n → Closes q (takes q t c) (i + 1) s n) → Closes q t i (c ∷ s) n
found_step q t i c s n true e h more =
    let p = not_taken t (eqb c q) e in
    record { content = []; rest = s; split = ap (λ x. x ∷ s) (same_byte c q p.1); inside = p.0; len = omega (arith, some_is i n h) }
found_step q t i c s n false e h more =
    let r = more h in
    record {
      content = c ∷ r.content;
      rest = r.rest;
      split = ap (λ l. c ∷ l) r.split;
      inside = holds_more q t c r.content e r.inside;
      len =
          omega (arith, r.len);
    }

pub closing_found : (q : ℕ) (t : Bool) (i : ℕ) (s : List ℕ) (n : ℕ) → closing q t i s ≡ Some n → Closes q t i s n
closing_found q t i [] n h = absurd (cc)
closing_found q t i (c ∷ s) n h = found_step q t i c s n (not t && eqb c q) refl h (closing_found q (takes q t c) (i + 1) s n)

-- what holds is closed by the first quote behind it
pub closing_holds : (q : ℕ) (t : Bool) (i : ℕ) (content rest : List ℕ) → holds q t content ≡ true →
    closing q t i (content ++ q ∷ rest) ≡ Some (i + length content)
closing_holds q false i [] rest h = rw (eq-eqb q q refl) (ap Some (omega arith))
closing_holds q true i [] rest h = absurd (cc)
closing_holds q true i (c ∷ content) rest h = closing_holds q false (i + 1) content rest h ∙ ap Some (omega arith)
closing_holds q false i (c ∷ content) rest h =
    let other : eqb c q ≡ false = not_true (eqb c q) (and_left _ _ h) in
    rw other (closing_holds q (takes q false c) (i + 1) content rest (and_right _ _ h) ∙ ap Some (omega arith))
  where
    not_true : (b : Bool) → not b ≡ true → b ≡ false
    not_true false h = refl
    not_true true h = absurd (cc)

-- no quote closes where none is found
pub closing_none : (q : ℕ) (s content rest : List ℕ) → closing q false 0 s ≡ None → s ≡ content ++ q ∷ rest → holds q false content ≡ true →
    ⊥
closing_none q s content rest h e k =
    let found : closing q false 0 s ≡ Some (0 + length content) = ap (closing q false 0) e ∙ closing_holds q false 0 content rest k in
    let both : None ≡ Some (0 + length content) = sym h ∙ found in cc

-- between backticks
pub raw_holds : (s : List ℕ) → list_all (λ c. not (eqb c 96)) s ≡ true → holds 96 false s ≡ true
raw_holds [] h = refl
raw_holds (c ∷ s) h = and_both _ _ (and_left _ _ h) (raw_takes (eqb c 92) s (raw_holds s (and_right _ _ h)))
  where
    raw_takes : (b : Bool) (s : List ℕ) → holds 96 false s ≡ true → holds 96 (b && not (eqb 96 96)) s ≡ true
    raw_takes true s h = h
    raw_takes false s h = h

pub holds_raw : (s : List ℕ) → holds 96 false s ≡ true → list_all (λ c. not (eqb c 96)) s ≡ true
holds_raw [] h = refl
holds_raw (c ∷ s) h = and_both _ _ (and_left _ _ h) (holds_raw s (raw_took (eqb c 92) s (and_right _ _ h)))
  where
    raw_took : (b : Bool) (s : List ℕ) → holds 96 (b && not (eqb 96 96)) s ≡ true → holds 96 false s ≡ true
    raw_took true s h = h
    raw_took false s h = h
