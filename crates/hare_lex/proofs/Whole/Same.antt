-- A spelling has one token.
use Rattle.std.proofs.Common.{◌≡◌, ℕ, suc, ◌+◌, ◌<◌, ◌≤◌, List, [], ◌∷◌, ◌++◌, Some, Bool, true, false, cond, ◌||◌, not, eqb, length}
use Rattle.std.proofs.Common.{get_or, take, drop, refl, sym, ap, ◌∙◌, arith, subst, ◌⊎◌, append_assoc, append-nil, length-append, one-add}
use Rattle.std.proofs.Common.{encode_utf8}
use Rattle.std.proofs.Math.Logic.{⊎_elim}
use Rattle.std.proofs.Math.Seq.{take-length, drop-append_seam}
use Rattle.std.specs.List.{prefix_len, list_all, AllByRecursion}
use Rattle.std.specs.Char.{is_ascii_digit, is_digit}
use Rattle.std.specs.Str.Parse.{digits_value}
use Rattle.std.proofs.lemmas.Grind.{common_steps}
use Rattle.std.proofs.lemmas.Bool.Decides.{nat_tests}
use Rattle.hare_tree.specs.declared.token.TokenKind.{TokenKind}
use Rattle.hare_tree.specs.declared.token.TokenKind.TheVariants.{Name, Keyword, Number, Str, RuneLit, Mark, End}
use Rattle.hare_tree.specs.declared.token.Suffix.{Suffix}
use Rattle.hare_tree.specs.Words.{is_letter, is_listed, keywords, suffix_word, Base, Decimal, Hexadecimal, Octal, Binary, radix, base_mark}
use Rattle.hare_tree.specs.Spelling.{IsSpellingOf, IsNumber, IsEscape, IsPart, spelled, decoded, IsRune, IsQuoted, IsRaw}
use Rattle.hare_lex.specs.Lexing.{string_text, inner, unescaped, bad_escape, one, longest, suffixes, suffix_named, number_at, number_in}
use Rattle.hare_lex.specs.Lexing.{radix_of, mark_len_of}
use Rattle.hare_lex.proofs.Fronts.Lists.{and_left, and_right, front_is, behind_is}
use Rattle.hare_lex.proofs.Fronts.Firsts.{is_other, first_of_kind}
use Rattle.hare_lex.proofs.Fronts.Longest.{named_suffix, suffix_no_digit, no_suffix_digit, suffix_most, longest_within}
use Rattle.hare_lex.proofs.Literals.Numbers.{digits_at, radix_has, one_zero}
use Rattle.hare_lex.proofs.Turns.Steps.{unescaped_skip, bad_escape_skip}
use Rattle.hare_lex.proofs.Literals.Escapes.{escape_stands, escape_first}
use Rattle.hare_lex.proofs.Literals.Strings.{unescaped_plain, unescaped_escape, bad_plain, bad_behind}
use Rattle.hare_lex.proofs.Literals.Runes.{one_stands}
use Rattle.hare_lex.proofs.Sound.Literals.{inner_is, string_text_is, raw_text_is}

-- ---- the kind

-- the kind of the token that these bytes spell
abbrev pub kind_of : List ℕ → TokenKind
kind_of s =
    let c = get_or s 0 0 in
    cond (is_letter c) (cond (is_listed keywords s) Keyword Name)
    (cond (is_ascii_digit c) Number (cond (eqb c 34 || eqb c 96) Str (cond (eqb c 39) RuneLit Mark)))

quote_not : (c : ℕ) → (eqb c 34 || eqb c 96) ≡ true → (is_letter c ≡ false) × (is_ascii_digit c ≡ false)
quote_not c h = (grind (arith, nat_tests, common_steps), grind (arith, nat_tests, common_steps))

rune_not : (c : ℕ) → eqb c 39 ≡ true → (is_letter c ≡ false) × (is_ascii_digit c ≡ false) × ((eqb c 34 || eqb c 96) ≡ false)
rune_not c h = (grind (arith, nat_tests, common_steps), (grind (arith, nat_tests, common_steps)), (grind (arith, nat_tests, common_steps)))

other_not : (c : ℕ) → is_other c ≡ true → (is_letter c ≡ false) × (is_ascii_digit c ≡ false) × ((eqb c 34 || eqb c 96) ≡ false) ×
    (eqb c 39 ≡ false)
other_not c h = (
  grind (arith, nat_tests, common_steps),
  (grind (arith, nat_tests, common_steps)),
  (grind (arith, nat_tests, common_steps)),
  (grind (arith, nat_tests, common_steps)),
)

digit_not : (c : ℕ) → is_ascii_digit c ≡ true → is_letter c ≡ false
digit_not c h = grind (arith, nat_tests, common_steps)

pub kind_is : (k : TokenKind) (text : List ℕ) (n : ℕ) (x : Suffix) (s : List ℕ) → IsSpellingOf k text n x s → k ≡ kind_of s
kind_is Name text n x s h = let f = (first_of_kind Name text n x s h).1 in let g = h.4 in rw (f, g) refl
kind_is Keyword text n x s h = let f = (first_of_kind Keyword text n x s h).1 in let g = h.3 in rw (f, g) refl
kind_is Number text n x s h = let f = (first_of_kind Number text n x s h).1 in let g = digit_not (get_or s 0 0) f in rw (g, f) refl
kind_is Str text n x s h =
    let f = (first_of_kind Str text n x s h).1 in let g = quote_not (get_or s 0 0) f in let a = g.0 in let b = g.1 in rw (a, b, f) refl
kind_is RuneLit text n x s h =
    let f = (first_of_kind RuneLit text n x s h).1 in let g = rune_not (get_or s 0 0) f in let a = g.0 in let b = g.1 in let d =
    g.2 in rw (a, b, d, f) refl
kind_is Mark text n x s h =
    let f = (first_of_kind Mark text n x s h).1 in let g = other_not (get_or s 0 0) f in let a = g.0 in let b = g.1 in let d =
    g.2 in let e = g.3 in rw (a, b, d, e) refl
kind_is End text n x s h = absurd h

-- ---- the text

part_plain : (p : List ℕ × List ℕ) (t : List ℕ) (c : ℕ) → p.0 ≡ c ∷ [] → p.1 ≡ c ∷ [] → eqb c 92 ≡ false →
    (unescaped 0 (p.0 ++ t) ≡ p.1 ++ unescaped 0 t) × (bad_escape 0 (p.0 ++ t) ≡ bad_escape 0 t)
part_plain p t c e f h = (
  ap (λ l. unescaped 0 (l ++ t)) e ∙ unescaped_plain c t h ∙ sym (ap (λ l. l ++ unescaped 0 t) f),
  ap
      (λ l. bad_escape 0 (l ++ t)) e ∙ bad_plain c t h,
)

part_escape : (p : List ℕ × List ℕ) (t : List ℕ) (v : ℕ) → IsEscape p.0 v → p.1 ≡ encode_utf8 v →
    (unescaped 0 (p.0 ++ t) ≡ p.1 ++ unescaped 0 t) × (bad_escape 0 (p.0 ++ t) ≡ bad_escape 0 t)
part_escape p t v h f =
    let g = escape_first p.0 v h in
    let w = g.0 in
    let read = escape_stands w t v (subst (λ l. IsEscape l v) g.1 h) in
    let back = drop-append_seam w t in (
      ap (λ l. unescaped 0 (l ++ t)) g.1 ∙ unescaped_escape 92 (w ++ t) v (length w) refl read ∙ ap (λ l. encode_utf8 v ++ l)
          (unescaped_skip (length w) (w ++ t) ∙ ap (unescaped 0) back) ∙ sym (ap (λ l. l ++ unescaped 0 t) f),
      ap (λ l. bad_escape 0 (l ++ t)) g.1 ∙ bad_behind 92 (w ++ t) v (length w) refl read ∙ bad_escape_skip (length w) (w ++ t) ∙ ap
          (bad_escape 0) back,
    )

part_read : (p : List ℕ × List ℕ) (t : List ℕ) → IsPart p → (unescaped 0 (p.0 ++ t) ≡ p.1 ++ unescaped 0 t) ×
    (bad_escape 0 (p.0 ++ t) ≡ bad_escape 0 t)
part_read p t h = ⊎_elim (λ a. part_plain p t a.0 a.1 a.2 a.4) (λ a. part_escape p t a.0 a.1 a.2) h

-- the parts of a string decode to one text
parts_text : (ps : List (List ℕ × List ℕ)) → AllByRecursion IsPart ps → unescaped 0 (spelled ps) ≡ decoded ps
parts_text [] h = refl
parts_text (p ∷ ps) h = (part_read p (spelled ps) h.0).0 ∙ ap (λ l. p.1 ++ l) (parts_text ps h.1)

-- and what is bad stands behind them
pub parts_bad : (ps : List (List ℕ × List ℕ)) (t : List ℕ) → AllByRecursion IsPart ps → bad_escape 0 (spelled ps ++ t) ≡ bad_escape 0 t
parts_bad [] t h = refl
parts_bad (p ∷ ps) t h = ap (bad_escape 0) (append_assoc p.0 (spelled ps) t) ∙ (part_read p (spelled ps ++ t) h.0).1 ∙ parts_bad ps t h.1

str_text : (text s : List ℕ) → IsQuoted text s ⊎ IsRaw text s → text ≡ string_text s
str_text text s h = ⊎_elim
    (λ a. a.decoded_is ∙ sym (parts_text a.parts a.each) ∙ sym (ap string_text a.spelled_by ∙ string_text_is (spelled a.parts)))
    (λ a. sym (ap string_text a.spelled_by ∙ raw_text_is text))
    h

-- ---- the number

decimal_radix : (w : List ℕ) (r : ℕ) (b : Base) (d : ℕ) (ds : List ℕ) (x : Suffix) (rest : List ℕ) → radix_of w ≡ r → r ≡ radix b →
    w ≡ base_mark b ++ rest → w ≡ (d ∷ ds) ++ (suffix_word x ++ []) → list_all (λ c. is_digit c 10) (d ∷ ds) ≡ true →
    length w ≡ suc (length ds + length (suffix_word x)) → radix_of w ≡ 10
decimal_radix w r Decimal d ds x rest q e k j h n = q ∙ e
decimal_radix w r Hexadecimal d ds x rest q e k j h n =
    absurd (omega (arith, n, ap length k, one_zero 120 d ds x [] rest (sym j ∙ k) (and_right _ _ h) refl refl))
decimal_radix w r Octal d ds x rest q e k j h n =
    absurd (omega (arith, n, ap length k, one_zero 111 d ds x [] rest (sym j ∙ k) (and_right _ _ h) refl refl))
decimal_radix w r Binary d ds x rest q e k j h n =
    absurd (omega (arith, n, ap length k, one_zero 98 d ds x [] rest (sym j ∙ k) (and_right _ _ h) refl refl))

ascii_digit : (d : ℕ) → is_digit d 10 ≡ true → is_ascii_digit d ≡ true
ascii_digit d h = grind (arith, nat_tests, common_steps)

radix_is : (w : List ℕ) (b : Base) (ds : List ℕ) (x : Suffix) → w ≡ base_mark b ++ (ds ++ suffix_word x) → 0 < length ds →
    list_all (λ c. is_digit c (radix b)) ds ≡ true → radix_of w ≡ radix b
radix_is w b [] x e n h = absurd (omega arith)
radix_is w Decimal (d ∷ ds) x e n h =
    let first : is_digit d 10 ≡ true = and_left _ _ h in
    let c = radix_has w (rw e (ascii_digit d first)) in
    let tail : w ≡ (d ∷ ds) ++ (suffix_word x ++ []) = e ∙ ap (λ l. (d ∷ ds) ++ l) (sym (append-nil (suffix_word x))) in
    let len : length w ≡ suc (length ds + length (suffix_word x)) = ap length e ∙ ap suc (length-append ds (suffix_word x)) in
    decimal_radix w (radix_of w) c.base d ds x _ refl c.radix_is c.split tail h len
radix_is w Hexadecimal (d ∷ ds) x e n h = let first : is_digit d 16 ≡ true = and_left _ _ h in rw e (rw first refl)
radix_is w Octal (d ∷ ds) x e n h = let first : is_digit d 8 ≡ true = and_left _ _ h in rw e (rw first refl)
radix_is w Binary (d ∷ ds) x e n h = let first : is_digit d 2 ≡ true = and_left _ _ h in rw e (rw first refl)

run_is : (r : ℕ) (ds w : List ℕ) → list_all (λ c. is_digit c r) ds ≡ true → no_suffix_digit r w ≡ true →
    prefix_len (λ c. is_digit c r) (ds ++ w) ≡ length ds
run_is r [] [] h z = refl
run_is r [] (c ∷ w) h z = stop (is_digit c r) z
  where
    stop : (t : Bool) → not t ≡ true → cond t (1 + prefix_len (λ c. is_digit c r) w) 0 ≡ 0
    stop false h = refl
    stop true h = absurd (cc)
run_is r (d ∷ ds) w h z =
    let first : is_digit d r ≡ true = and_left _ _ h in
    let more = run_is r ds w (and_right _ _ h) z in
    rw (first, more) (one-add (length ds))

suffix_len_is : (x : Suffix) → longest suffixes (suffix_word x) ≡ length (suffix_word x)
suffix_len_is x =
    let most = subst (λ l. length (suffix_word x) ≤ longest suffixes l) (append-nil (suffix_word x)) (suffix_most x []) in
    omega (arith, most, longest_within suffixes (suffix_word x))

mark_len_is : (b : Base) → mark_len_of (radix b) ≡ length (base_mark b)
mark_len_is Decimal = refl
mark_len_is Hexadecimal = refl
mark_len_is Octal = refl
mark_len_is Binary = refl

radix_most : (b : Base) → radix b ≤ 16
radix_most Decimal = omega arith
radix_most Hexadecimal = omega arith
radix_most Octal = omega arith
radix_most Binary = omega arith

read_in : (r n : ℕ) (s ds : List ℕ) (x : Suffix) → s ≡ ds ++ suffix_word x → prefix_len (λ c. is_digit c r) s ≡ length ds →
    (take (prefix_len (λ c. is_digit c r) s) s ≡ ds) × ((number_in r n s).suffix ≡ x)
unfolding number_in
read_in r n s ds x e k =
    let back : drop (length ds) s ≡ suffix_word x = behind_is s ds (suffix_word x) e in (
      ap (λ m. take m s) k ∙ front_is s ds (suffix_word x) e,
      ap (λ m. suffix_named (take (longest suffixes (drop m s)) (drop m s))) k ∙ ap (λ l. suffix_named (take (longest suffixes l) l)) back ∙
          ap (λ m. suffix_named (take m (suffix_word x))) (suffix_len_is x) ∙ ap suffix_named (take-length (suffix_word x)) ∙ named_suffix
          x,
    )

-- a number's value and suffix are those that are read
number_is : (v : ℕ) (x : Suffix) (w : List ℕ) → IsNumber v x w → (v ≡ digits_value (radix_of w) (digits_at w)) × (x ≡ (number_at w).suffix)
number_is v x w h =
    let b = h.base in
    let ds = h.digits in
    let r = radix_is w b ds x h.spelled h.some h.each in
    let s = drop (mark_len_of (radix b)) w in
    let rest : s ≡ ds ++ suffix_word x = ap (λ n. drop n w) (mark_len_is b) ∙ behind_is w (base_mark b) (ds ++ suffix_word x) h.spelled in
    let run = ap (prefix_len (λ c. is_digit c (radix b))) rest ∙ run_is (radix b) ds (suffix_word x) h.each
    (suffix_no_digit x (radix b) (radix_most b)) in
    let read = read_in (radix b) (mark_len_of (radix b)) s ds x rest run in (
      h.value_is ∙ ap (digits_value (radix b)) (sym read.0) ∙ sym
          (ap (λ q. digits_value q (take (prefix_len (λ c. is_digit c q) (drop (mark_len_of q) w)) (drop (mark_len_of q) w))) r),
      sym (ap (λ q. (number_in q (mark_len_of q) (drop (mark_len_of q) w)).suffix) r ∙ read.1),
    )

-- ---- the token

rune_value : (n : ℕ) (s : List ℕ) → IsRune n s → one (inner s) ≡ Some n
rune_value n s h = ap (λ l. one (inner l)) h.spelled_by ∙ ap one (inner_is 39 h.content) ∙ one_stands h.content n h.one

-- what two tokens have in common
pub record Alike (k k' : TokenKind) (text text' : List ℕ) (n n' : ℕ) (x x' : Suffix) : Type 0 where
  pub kind : k ≡ k'
  pub text_is : text ≡ text'
  pub number : n ≡ n'
  pub suffix_is : x ≡ x'

alike_at : (k : TokenKind) (text text' : List ℕ) (n n' : ℕ) (x x' : Suffix) (s : List ℕ) → IsSpellingOf k text n x s →
    IsSpellingOf k text' n' x' s → Alike k k text text' n n' x x'
alike_at Name text text' n n' x x' s h g = record
    { kind = refl; text_is = h.0 ∙ sym g.0; number = h.1 ∙ sym g.1; suffix_is = h.2 ∙ sym g.2 }
alike_at Keyword text text' n n' x x' s h g =
    record { kind = refl; text_is = h.0 ∙ sym g.0; number = h.1 ∙ sym g.1; suffix_is = h.2 ∙ sym g.2 }
alike_at Number text text' n n' x x' s h g =
    let a = number_is n x s h.1 in
    let b = number_is n' x' s g.1 in
    record { kind = refl; text_is = h.0 ∙ sym g.0; number = a.0 ∙ sym b.0; suffix_is = a.1 ∙ sym b.1 }
alike_at Str text text' n n' x x' s h g = record
    { kind = refl; text_is = str_text text s h.2 ∙ sym (str_text text' s g.2); number = h.0 ∙ sym g.0; suffix_is = h.1 ∙ sym g.1 }
alike_at RuneLit text text' n n' x x' s h g =
    let same : Some n ≡ Some n' = sym (rune_value n s h.2) ∙ rune_value n' s g.2 in
    record { kind = refl; text_is = h.0 ∙ sym g.0; number = cc; suffix_is = h.1 ∙ sym g.1 }
alike_at Mark text text' n n' x x' s h g = record
    { kind = refl; text_is = h.0 ∙ sym g.0; number = h.1 ∙ sym g.1; suffix_is = h.2 ∙ sym g.2 }
alike_at End text text' n n' x x' s h g = absurd h

-- one spelling, one token
pub alike : (k k' : TokenKind) (text text' : List ℕ) (n n' : ℕ) (x x' : Suffix) (s : List ℕ) → IsSpellingOf k text n x s →
    IsSpellingOf k' text' n' x' s → Alike k k' text text' n n' x x'
alike k k' text text' n n' x x' s h g =
    let same : k' ≡ k = kind_is k' text' n' x' s g ∙ sym (kind_is k text n x s h) in
    subst (λ q. Alike k q text text' n n' x x') (sym same)
    (alike_at k text text' n n' x x' s h (subst (λ q. IsSpellingOf q text' n' x' s) same g))
