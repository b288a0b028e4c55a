-- A text has one gap at its front.
use Rattle.std.proofs.Common.{◌≡◌, ℕ, List, [], ◌∷◌, ◌++◌, Bool, true, false, ◌&&◌, ◌||◌, not, eqb, get_or, refl, ap, ◌∙◌, arith}
use Rattle.std.proofs.Math.Logic.{⊎_elim}
use Rattle.std.specs.List.{list_all}
use Rattle.std.proofs.lemmas.Grind.{common_steps}
use Rattle.std.proofs.lemmas.Bool.Decides.{nat_tests}
use Rattle.hare_tree.specs.Words.{is_blank, is_not_feed}
use Rattle.hare_tree.specs.Tokens.{Gap, ends_line, no_gap}
use Rattle.hare_lex.specs.Lexing.{skipped}
use Rattle.hare_lex.proofs.Fronts.Lists.{and_left, and_right}

neither : (a b : Bool) → not (a || b) ≡ true → (a ≡ false) × (b ≡ false)
neither false false h = (refl, refl)
neither false true h = absurd (cc)
neither true b h = absurd (cc)

pub stays : (left : List ℕ) → no_gap left ≡ true → skipped false left ≡ left
stays [] h = refl
stays (c ∷ rest) h =
    let p = neither (is_blank c) (eqb c 47 && eqb (get_or rest 0 0) 47) h in
    let a = p.0 in
    let b = p.1 in
    rw (b, a) refl

blank_no_slash : (c : ℕ) → is_blank c ≡ true → eqb c 47 ≡ false
blank_no_slash c h = grind (arith, nat_tests, common_steps)

pub past_blank : (c : ℕ) (rest : List ℕ) → is_blank c ≡ true → skipped false (c ∷ rest) ≡ skipped false rest
past_blank c rest h = let a = blank_no_slash c h in rw (a, h) refl

same_byte : (c k : ℕ) → eqb c k ≡ true → c ≡ k
same_byte c k h = grind (arith, nat_tests)

not_true : (b : Bool) → not b ≡ true → b ≡ false
not_true false h = refl
not_true true h = absurd (cc)

pub past_body : (body rest : List ℕ) → list_all is_not_feed body ≡ true → ends_line rest ≡ true →
    skipped true (body ++ rest) ≡ skipped false rest
past_body [] [] h z = refl
past_body [] (c ∷ rest) h z = rw (same_byte c 10 z) refl
past_body (c ∷ body) rest h z =
    let a : eqb c 10 ≡ false = not_true (eqb c 10) (and_left _ _ h) in ap (λ b. skipped (not b) (body ++ rest)) a ∙ past_body body rest
    (and_right _ _ h) z

-- what is skipped is the gap
pub gap_is : (parts : List (List ℕ)) (text left : List ℕ) → Gap parts text left → skipped false text ≡ left
gap_is [] text left g = ap (skipped false) g.0 ∙ stays left g.1
gap_is (p ∷ parts) text left g =
    let rest = g.0 in
    let more = gap_is parts rest left g.3 in
    ⊎_elim
    (λ b. ap (skipped false) (g.1 ∙ ap (λ l. l ++ rest) b.1) ∙ past_blank b.0 rest b.2 ∙ more)
    (λ m. ap (skipped false) (g.1 ∙ ap (λ l. l ++ rest) m.1) ∙ past_body m.0 rest m.2 m.3 ∙ more)
    g.2
