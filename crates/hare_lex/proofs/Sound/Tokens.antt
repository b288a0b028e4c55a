-- What the lexer finds at the front of a text stands there.
use Rattle.std.proofs.Common.{◌≡◌, ℕ, ◌<◌, List, [], ◌∷◌, Bool, true, false, cond, eqb, length, refl, sym, ap, arith, subst, inr}
use Rattle.std.specs.Char.{is_ascii_digit}
use Rattle.std.proofs.lemmas.Bool.Decides.{nat_tests}
use Rattle.hare_tree.specs.Words.{is_letter}
use Rattle.hare_lex.specs.declared.front.Found.TheVariants as found
use Rattle.hare_lex.specs.Lexing.{at_front, word_front, number_front, string_front, raw_front, rune_front, mark_front}
use Rattle.hare_lex.proofs.Literals.Numbers.{number_within}
use Rattle.hare_lex.specs.Fronts.{Sound}
use Rattle.hare_lex.proofs.Sound.Words.{word_sound}
use Rattle.hare_lex.proofs.Sound.Marks.{mark_sound}
use Rattle.hare_lex.proofs.Sound.Numbers.{number_sounds}
use Rattle.hare_lex.proofs.Sound.Literals.{string_sound, raw_sound, rune_sound}

-- a byte that tests as another is that byte
byte_is : (c k : ℕ) → eqb c k ≡ true → c ≡ k
byte_is c k h = grind (arith, nat_tests)

-- by the first byte: what is found there is right
front_at : (b : Bool) (c : ℕ) (s : List ℕ) (t1 t2 t3 t4 t5 t6 : Bool) → is_letter c ≡ t1 → is_ascii_digit c ≡ t2 → eqb c 34 ≡ t3 →
    eqb c 96 ≡ t4 → eqb c 39 ≡ t5 → eqb c 64 ≡ t6
    → Sound b (c ∷ s) (cond t1 (word_front b (c ∷ s))
    (cond t2 (number_front (c ∷ s)) (cond t3 (string_front s)
    (cond t4 (raw_front s) (cond t5 (rune_front s) (cond t6 (found.Fault 10 0) (mark_front (c ∷ s))))))))
front_at b c s true t2 t3 t4 t5 t6 e1 e2 e3 e4 e5 e6 = word_sound b (c ∷ s) e1
front_at b c s false true t3 t4 t5 t6 e1 e2 e3 e4 e5 e6 = number_sounds b (c ∷ s) e2 (number_within (c ∷ s) e2)
front_at b c s false false true t4 t5 t6 e1 e2 e3 e4 e5 e6 =
    subst (λ q. Sound b (q ∷ s) (string_front s)) (sym (byte_is c 34 e3)) (string_sound b s _ refl)
front_at b c s false false false true t5 t6 e1 e2 e3 e4 e5 e6 =
    subst (λ q. Sound b (q ∷ s) (raw_front s)) (sym (byte_is c 96 e4)) (raw_sound b s _ refl)
front_at b c s false false false false true t6 e1 e2 e3 e4 e5 e6 =
    subst (λ q. Sound b (q ∷ s) (rune_front s)) (sym (byte_is c 39 e5)) (rune_sound b s _ refl)
front_at b c s false false false false false true e1 e2 e3 e4 e5 e6 =
    inr (inr (inr (inr (refl, refl, inr (inr (s, ap (λ q. q ∷ s) (byte_is c 64 e6)))))))
front_at b c s false false false false false false e1 e2 e3 e4 e5 e6 = mark_sound b (c ∷ s) (omega arith) (e1, e2, e3, e4, e5, e6)

-- what is found at the front of a text is right
pub front_sound : (b : Bool) (s : List ℕ) → 0 < length s → Sound b s (at_front b s)
unfolding at_front
front_sound b [] h = absurd (omega arith)
front_sound b (c ∷ s) h = front_at b c s _ _ _ _ _ _ refl refl refl refl refl refl
