-- The text of a token is never longer than its spelling.
use Rattle.std.proofs.Common.{◌≡◌, ℕ, ◌+◌, ◌<◌, ◌≤◌, List, [], ◌∷◌, Some, None, Bool, true, false, cond, eqb, length, refl, ap, arith, length-append, encode_utf8, ◌⊎◌}
use Rattle.std.proofs.Math.Logic.{⊎_elim}
use Rattle.std.specs.List.{AllByRecursion}
use Rattle.std.proofs.lemmas.Str.{length-encode, len_utf8_ascii, len_utf8_bounds}
use Rattle.std.proofs.lemmas.Bool.Decides.{nat_tests}
use Rattle.hare_tree.specs.declared.token.TokenKind.{TokenKind}
use Rattle.hare_tree.specs.declared.token.TokenKind.TheVariants.{Name, Keyword, Number, Str, RuneLit, Mark, End}
use Rattle.hare_tree.specs.declared.token.Suffix.{Suffix}
use Rattle.hare_tree.specs.Spelling.{IsSpellingOf, IsEscape, IsPart, IsQuoted, IsRaw, spelled, decoded}
use Rattle.hare_lex.proofs.Literals.Runes.{simple_below}

ascii_len : (v : ℕ) → v < 128 → length (encode_utf8 v) ≤ 1
ascii_len v h = omega (arith, length-encode v, len_utf8_ascii v h)

some_len : (v : ℕ) → length (encode_utf8 v) ≤ 4
some_len v = omega (arith, length-encode v, (len_utf8_bounds v).1)

byte_is : (c k : ℕ) → eqb c k ≡ true → c ≡ k
byte_is c k h = grind (arith, nat_tests)

hex_len_of : (c n v : ℕ) (a b d : Bool) → eqb c 120 ≡ a → cond a (Some 2) (cond b (Some 4) (cond d (Some 8) None)) ≡ Some n →
    (c ≡ 120 → v < 128) → length (encode_utf8 v) ≤ n + 2
hex_len_of c n v true b d e h k = omega (arith, ascii_len v (k (byte_is c 120 e)))
hex_len_of c n v false true d e h k = let m : 4 ≡ n = cc in omega (arith, m, some_len v)
hex_len_of c n v false false true e h k = let m : 8 ≡ n = cc in omega (arith, m, some_len v)
hex_len_of c n v false false false e h k = absurd (cc)

escape_shorter : (e : List ℕ) (v : ℕ) → IsEscape e v → length (encode_utf8 v) ≤ length e
escape_shorter e v h = ⊎_elim
    (λ a. omega (arith, ap length a.1, ascii_len v (simple_below a.0 v a.2)))
    (λ a. omega (arith, ap length a.2, hex_len_of a.0 (length a.1) v _ _ _ refl a.3 a.6.1))
    h

part_shorter : (p : List ℕ × List ℕ) → IsPart p → length p.1 ≤ length p.0
part_shorter p h = ⊎_elim
    (λ a. omega (arith, ap length a.1, ap length a.2))
    (λ a. omega (arith, ap length a.2, escape_shorter p.0 a.0 a.1))
    h

parts_shorter : (ps : List (List ℕ × List ℕ)) → AllByRecursion IsPart ps → length (decoded ps) ≤ length (spelled ps)
parts_shorter [] h = omega arith
parts_shorter (p ∷ ps) h = omega (
  arith,
  part_shorter p h.0,
  parts_shorter ps h.1,
  length-append p.0 (spelled ps),
  length-append p.1
      (decoded ps),
)

string_shorter : (text s : List ℕ) → IsQuoted text s ⊎ IsRaw text s → length text ≤ length s
string_shorter text s h = ⊎_elim
    (λ a. omega (
      arith,
      ap length a.spelled_by,
      ap length a.decoded_is,
      parts_shorter a.parts a.each,
      length-append (spelled a.parts)
          (34 ∷ []),
    ))
    (λ a. omega (arith, ap length a.spelled_by, length-append text (96 ∷ [])))
    h

pub no_longer : (k : TokenKind) (text : List ℕ) (n : ℕ) (x : Suffix) (s : List ℕ) → IsSpellingOf k text n x s → length text ≤ length s
no_longer Name text n x s h = omega (arith, ap length h.0)
no_longer Keyword text n x s h = omega (arith, ap length h.0)
no_longer Number text n x s h = omega (arith, ap length h.0)
no_longer Str text n x s h = string_shorter text s h.2
no_longer RuneLit text n x s h = omega (arith, ap length h.0)
no_longer Mark text n x s h = omega (arith, ap length h.0)
no_longer End text n x s h = absurd h
