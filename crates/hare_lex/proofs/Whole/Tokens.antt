-- What stands at the front of a text is found there, and so only one token or fault does.
use Rattle.std.proofs.Common.{◌≡◌, ℕ, ◌<◌, ◌^◌, List, [], ◌∷◌, ◌++◌, None, Bool, true, false, cond, eqb, length, get_or, refl, sym, ap, ◌∙◌, arith, subst, ◌⊎◌, append_assoc, append-nil, length-append}
use Rattle.std.proofs.Math.Logic.{⊎_elim}
use Rattle.std.specs.List.{prefix_len}
use Rattle.std.specs.Char.{is_ascii_digit}
use Rattle.std.proofs.lemmas.Grind.{common_steps}
use Rattle.std.proofs.lemmas.Bool.Decides.{nat_tests}
use Rattle.hare_tree.specs.declared.token.TokenKind.{TokenKind}
use Rattle.hare_tree.specs.declared.token.TokenKind.TheVariants.{Name, Keyword, Number, Str, RuneLit, Mark, End}
use Rattle.hare_tree.specs.declared.token.Suffix.{Suffix}
use Rattle.hare_tree.specs.declared.token.Suffix.TheVariants as suffix
use Rattle.hare_tree.specs.declared.token.Token.{Token}
use Rattle.hare_tree.specs.Words.{is_letter, is_word_byte, is_listed, is_left_out, keywords, marks, begins_fraction}
use Rattle.hare_tree.specs.Spelling.{IsSpellingOf, IsQuoted, IsRaw, IsRune, spelled}
use Rattle.hare_tree.specs.Tokens.{Fits, Stands, Break}
use Rattle.hare_lex.specs.declared.front.Found.{Found}
use Rattle.hare_lex.specs.declared.front.Found.TheVariants as found
use Rattle.hare_lex.specs.Lexing.{at_front, bad_escape, string_end, rune_end, longest}
use Rattle.hare_lex.proofs.Fronts.Lists.{same_front}
use Rattle.hare_lex.proofs.Fronts.Firsts.{is_first, is_other, first_of_kind}
use Rattle.hare_lex.proofs.Literals.Quotes.{raw_holds}
use Rattle.hare_lex.proofs.Literals.Runes.{one_holds, one_stands}
use Rattle.hare_lex.proofs.Whole.Same.{parts_bad}
use Rattle.hare_lex.proofs.Fronts.Standing.{kind_first}
use Rattle.hare_lex.proofs.Sound.Words.{word_of}
use Rattle.hare_lex.proofs.Sound.Marks.{NoOther, mark_longest}
use Rattle.hare_lex.proofs.Sound.Literals.{quoted_holds, lit}
use Rattle.hare_lex.proofs.Whole.Words.{word_same, front_letter, number_same, front_digit, small_front}
use Rattle.hare_lex.proofs.Whole.Literals.{string_found, raw_found, rune_found, front_string, front_raw, front_rune, front_other}
use Rattle.hare_lex.proofs.Whole.Breaks.{break_front}

-- ---- tokens

-- what is found is a token
abbrev is_token : Found → Bool
is_token (found.Token k len n x) = true
is_token (found.Fault n o) = false

-- a run that is not left out is a token
word_token : (b c : Bool) (n : ℕ) → b ≡ false →
    is_token (cond b (found.Fault 10 0) (cond c (found.Token Keyword n 0 suffix.None) (found.Token Name n 0 suffix.None))) ≡ true
word_token true c n e = absurd (cc)
word_token false true n e = refl
word_token false false n e = refl

-- where a word stands a token is found
word_found : (b : Bool) (t : Token) (s rest text : List ℕ) → text ≡ s ++ rest → Fits t s rest → is_left_out b s ≡ false →
    is_letter (get_or text 0 0) ≡ true → is_token (at_front b text) ≡ true
word_found b t s rest text e f out l =
    let same = word_same t s rest text e f l in
    ap is_token (front_letter b text l) ∙ word_token (is_left_out b (word_of text)) (is_listed keywords (word_of text))
    (prefix_len is_word_byte text) (ap (is_left_out b) same ∙ out)

-- where a number stands a token is found
number_found : (b : Bool) (t : Token) (s rest text : List ℕ) → text ≡ s ++ rest → Fits t s rest → t.number < 2 ^ 127 →
    begins_fraction text ≡ false → is_ascii_digit (get_or text 0 0) ≡ true → is_token (at_front b text) ≡ true
number_found b t s rest text e f small whole d =
    let same = number_same t s rest text e f d in
    ap is_token (front_digit b text d ∙ small_front text false (omega (arith, same, small)) whole)

-- a text that begins with a literal has its content, its closing quote, and the rest
lit_text : (q : ℕ) (content rest s text : List ℕ) → text ≡ s ++ rest → s ≡ lit q content → text ≡ q ∷ (content ++ q ∷ rest)
lit_text q content rest s text e k = e ∙ ap (λ l. l ++ rest) k ∙ ap (λ l. q ∷ l) (append_assoc content (q ∷ []) rest)

-- where a string stands a token is found
str_found : (b : Bool) (text s rest own : List ℕ) → text ≡ s ++ rest → IsQuoted own s ⊎ IsRaw own s → is_token (at_front b text) ≡ true
str_found b text s rest own e h = ⊎_elim
    (λ a.
    let ps = spelled a.parts in
    let good : bad_escape 0 ps ≡ None = ap (bad_escape 0) (sym (append-nil ps)) ∙ parts_bad a.parts [] a.each in
    ap is_token (ap (at_front b) (lit_text 34 ps rest s text e a.spelled_by) ∙ front_string b (ps ++ 34 ∷ rest) ∙ string_found
    (ps ++ 34 ∷ rest) ps rest refl (quoted_holds a.parts a.each) ∙ ap (string_end (length ps)) good))
    (λ a. ap is_token (ap (at_front b) (lit_text 96 own rest s text e a.spelled_by) ∙ front_raw b (own ++ 96 ∷ rest) ∙ raw_found
    (own ++ 96 ∷ rest) own rest refl (raw_holds own a.each)))
    h

-- where a rune stands a token is found
rune_stands : (b : Bool) (text s rest : List ℕ) (n : ℕ) → text ≡ s ++ rest → IsRune n s → is_token (at_front b text) ≡ true
rune_stands b text s rest n e a =
    let content = a.content in
    ap is_token (ap (at_front b) (lit_text 39 content rest s text e a.spelled_by) ∙ front_rune b (content ++ 39 ∷ rest) ∙ rune_found
    (content ++ 39 ∷ rest) content rest refl (one_holds content n a.one) ∙ ap (rune_end (length content) content)
    (one_stands content n a.one))

-- a byte of a mark begins no other kind of token
other_is : (c : ℕ) → is_other c ≡ true → NoOther c
other_is c h = (
  grind (arith, nat_tests, common_steps),
  (grind (arith, nat_tests, common_steps)),
  (grind (arith, nat_tests, common_steps)),
  (grind (arith, nat_tests, common_steps)),
  (grind (arith, nat_tests, common_steps)),
  (grind (arith, nat_tests, common_steps)),
)

-- a mark of some length is a token
mark_some : (n : ℕ) → 0 < n → is_token (cond (eqb n 0) (found.Fault 4 0) (found.Token Mark n 0 suffix.None)) ≡ true
mark_some n h = by_test (eqb n 0) (not_zero n h)
  where
    not_zero : (n : ℕ) → 0 < n → eqb n 0 ≡ false
    not_zero n h = grind (arith, nat_tests)

    by_test : (t : Bool) → t ≡ false → is_token (cond t (found.Fault 4 0) (found.Token Mark n 0 suffix.None)) ≡ true
    by_test false e = refl
    by_test true e = absurd (cc)

-- where a mark stands a token is found
mark_found : (b : Bool) (text s rest own : List ℕ) (n : ℕ) (x : Suffix) → text ≡ s ++ rest → IsSpellingOf Mark own n x s → 0 < length s →
    is_other (get_or text 0 0) ≡ true → is_token (at_front b text) ≡ true
mark_found b [] s rest own n x e h z f = let k = ap length e ∙ length-append s rest in absurd (omega (arith, k))
mark_found b (c ∷ r) s rest own n x e h z f =
    let most = mark_longest Mark own n x (c ∷ r) s rest refl e h in
    ap is_token (front_other b c r (other_is c f)) ∙ mark_some (longest marks (c ∷ r)) (omega (arith, most, z))

-- by its kind: where a token stands, one is found
stands_at : (k : TokenKind) (b : Bool) (t : Token) (s rest text : List ℕ) → t.kind ≡ k → text ≡ s ++ rest → Stands b t s rest →
    IsSpellingOf k t.text t.number t.suffix s → is_first k (get_or text 0 0) ≡ true → begins_fraction text ≡ false →
    is_token (at_front b text) ≡ true
stands_at Name b t s rest text k e st h f w = word_found b t s rest text e st.fits st.kept_word f
stands_at Keyword b t s rest text k e st h f w = word_found b t s rest text e st.fits st.kept_word f
stands_at Number b t s rest text k e st h f w = number_found b t s rest text e st.fits st.small w f
stands_at Str b t s rest text k e st h f w = str_found b text s rest t.text e h.2
stands_at RuneLit b t s rest text k e st h f w = rune_stands b text s rest t.number e h.2
stands_at Mark b t s rest text k e st h f w =
    mark_found b text s rest t.text t.number t.suffix e h (first_of_kind Mark t.text t.number t.suffix s h).0 f
stands_at End b t s rest text k e st h f w = absurd h

-- where a token stands, one is found
pub stands_front : (b : Bool) (t : Token) (s rest text : List ℕ) → text ≡ s ++ rest → Stands b t s rest → is_token (at_front b text) ≡ true
stands_front b t s rest text e st =
    stands_at t.kind b t s rest text refl e st st.fits.spells (kind_first t.kind t.text t.number t.suffix text s rest e st.fits.spells)
    (subst (λ q. begins_fraction q ≡ false) (sym e) st.whole)

-- ---- one of them

-- two tokens that fit in front of one text have one spelling
pub fits_same : (t u : Token) (s rest w more : List ℕ) → Fits t s rest → Fits u w more → s ++ rest ≡ w ++ more → s ≡ w
fits_same t u s rest w more f g e =
    let a = f.longest u w more e g.spells in
    let b = g.longest t s rest (sym e) f.spells in
    same_front s w rest more e (omega (arith, a, b))

-- no token stands where a break is
pub break_stands : (b : Bool) (t : Token) (s rest text : List ℕ) (n o : ℕ) → text ≡ s ++ rest → Stands b t s rest → Break b text n o → ⊥
break_stands b t s rest text n o e st h =
    let both : true ≡ false = sym (stands_front b t s rest text e st) ∙ ap is_token (break_front b text n o h) in absurd (cc)

-- two breaks of one text are one
pub break_once : (b : Bool) (text : List ℕ) (n o m p : ℕ) → Break b text n o → Break b text m p → (n ≡ m) × (o ≡ p)
break_once b text n o m p h g =
    let both : found.Fault n o ≡ found.Fault m p = sym (break_front b text n o h) ∙ break_front b text m p g in (cc, cc)
