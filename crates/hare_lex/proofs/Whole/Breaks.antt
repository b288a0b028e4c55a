-- The fault that stands at the front of a text is found there.
use Rattle.std.proofs.Common.{◌≡◌, ℕ, zero, suc, ◌+◌, ◌-◌, ◌<◌, ◌≤◌, ◌^◌, List, [], ◌∷◌, ◌++◌, Option, Some, None, Bool, true, false, cond}
use Rattle.std.proofs.Common.{◌||◌, eqb, length, get_or, take, drop, refl, sym, ap, ◌∙◌, arith, subst, inl, inr, length-append}
use Rattle.std.proofs.Common.{take-append-drop}
use Rattle.std.proofs.Math.Logic.{⊎_elim}
use Rattle.std.specs.List.{prefix_len}
use Rattle.std.specs.Char.{is_ascii_digit}
use Rattle.std.specs.Str.Parse.{digits_value}
use Rattle.std.proofs.lemmas.Bool.Decides.{nat_tests}
use Rattle.hare_tree.specs.declared.token.TokenKind.{TokenKind}
use Rattle.hare_tree.specs.declared.token.TokenKind.TheVariants.{Name, Keyword, Number, Str, RuneLit, Mark, End}
use Rattle.hare_tree.specs.declared.token.Suffix.{Suffix}
use Rattle.hare_tree.specs.declared.token.Suffix.TheVariants as suffix
use Rattle.hare_tree.specs.declared.token.Token.{Token}
use Rattle.hare_tree.specs.Words.{Decimal, is_letter, is_word_byte, is_listed, is_left_out, keywords, marks, begins_fraction}
use Rattle.hare_tree.specs.Spelling.{IsSpelling, IsSpellingOf, IsOne, IsEscape, spelled}
use Rattle.hare_tree.specs.Tokens.{Break, BadByte, BadEscape, BadRune, Unclosed, TooGreat, LeftOutWord, LeftOutNumber, holds, is_quote}
use Rattle.hare_lex.specs.declared.front.Found.{Found}
use Rattle.hare_lex.specs.declared.front.Found.TheVariants as found
use Rattle.hare_lex.specs.Lexing.{at_front, mark_front, closing, escape, one, bad_escape, string_end, rune_end, longest}
use Rattle.hare_lex.proofs.Fronts.Lists.{and_left, and_both}
use Rattle.hare_lex.proofs.Fronts.Firsts.{is_first, first_of_kind}
use Rattle.hare_lex.proofs.Fronts.Longest.{longest_listed}
use Rattle.hare_lex.proofs.Literals.Escapes.{escape_read}
use Rattle.hare_lex.proofs.Literals.Strings.{bad_here}
use Rattle.hare_lex.proofs.Literals.Runes.{one_some, one_small}
use Rattle.hare_lex.proofs.Literals.Numbers.{decimal}
use Rattle.hare_lex.proofs.Whole.Same.{parts_bad}
use Rattle.hare_lex.specs.Fronts.{token_at}
use Rattle.hare_lex.proofs.Fronts.Standing.{nowhere, kind_first, first_same, left_out_is_word, word_letter}
use Rattle.hare_lex.proofs.Sound.Words.{word_of}
use Rattle.hare_lex.proofs.Whole.Words.{word_same, front_letter, number_same, front_digit, great_front, small_front}
use Rattle.hare_lex.proofs.Whole.Literals.{string_found, rune_found, open_none, front_string, front_raw, front_rune, front_at_sign}
use Rattle.hare_lex.proofs.Whole.Literals.{front_other}

-- ---- literals

-- where no escape stands none is read
escape_unread : (bad : List ℕ) → ((e more : List ℕ) (v : ℕ) → 92 ∷ bad ≡ e ++ more → IsEscape e v → ⊥) → escape bad ≡ None
escape_unread bad h = by_read (escape bad) refl
  where
    by_read : (o : Option (ℕ × ℕ)) → escape bad ≡ o → o ≡ None
    by_read None e = refl
    by_read (Some r) e =
        let is = escape_read bad r.0 r.1 e in absurd
        (h (92 ∷ take r.1 bad) (drop r.1 bad) r.0 (ap (λ l. 92 ∷ l) (sym (take-append-drop r.1 bad))) is.is)

-- the first wrong escape of a string is found
bad_escape_front : (b : Bool) (text : List ℕ) (o : ℕ) → BadEscape text o → at_front b text ≡ found.Fault 5 o
bad_escape_front b text o h =
    let ps = spelled h.parts in
    let behind = h.content ++ 34 ∷ h.rest in
    let unread = escape_unread h.bad h.none in
    let bad : bad_escape 0 h.content ≡ Some (suc (length h.bad)) =
    ap (bad_escape 0) h.content_is ∙ parts_bad h.parts (92 ∷ h.bad) h.good ∙ bad_here 92 h.bad refl unread in
    let total = ap length h.content_is ∙ length-append ps (92 ∷ h.bad) in
    let offset : 1 + (length h.content - suc (length h.bad)) ≡ o = omega (arith, total, h.offset_is) in
    ap (at_front b) h.text_is ∙ front_string b behind ∙ string_found behind h.content h.rest refl h.closes ∙ ap
    (string_end (length h.content)) bad ∙ ap (found.Fault 5) offset

-- where neither one character nor one escape stands none is read
one_unread : (content : List ℕ) → holds 39 false content ≡ true → ((v : ℕ) → IsOne content v → ⊥) → one content ≡ None
one_unread content k h = by_read (one content) refl
  where
    by_read : (o : Option ℕ) → one content ≡ o → o ≡ None
    by_read None e = refl
    by_read (Some v) e = absurd (h v (one_some content v e k))

-- a rune that is not one character is found to be a fault
bad_rune_front : (b : Bool) (text : List ℕ) (o : ℕ) → BadRune text o → at_front b text ≡ found.Fault 5 o
bad_rune_front b text o h =
    let behind = h.content ++ 39 ∷ h.rest in
    let unread = one_unread h.content h.closes h.not_one in
    ap (at_front b) h.text_is ∙ front_rune b behind ∙ rune_found behind h.content h.rest refl h.closes ∙ ap
    (rune_end (length h.content) h.content) unread ∙ ap (found.Fault 5) (sym h.offset_is)

-- a byte that tests as another is that byte
byte_is : (c k : ℕ) → eqb c k ≡ true → c ≡ k
byte_is c k h = grind (arith, nat_tests)

-- by its quote: an open literal is found to be a fault
unclosed_at : (b : Bool) (q : ℕ) (s : List ℕ) (a d : Bool) → eqb q 34 ≡ a → eqb q 39 ≡ d → is_quote q ≡ true → closing q false 0 s ≡ None →
    at_front b (q ∷ s) ≡ found.Fault 6 0
unclosed_at b q s true d e f h k =
    let same = byte_is q 34 e in
    let none : closing 34 false 0 s ≡ None = subst (λ y. closing y false 0 s ≡ None) same k in
    ap (λ y. at_front b (y ∷ s)) same ∙ front_string b s ∙ ap
    (λ o. elim o as (λ _. Found) [ None ↦ found.Fault 6 0 | Some n ↦ string_end n (bad_escape 0 (take n s)) ]) none
unclosed_at b q s false true e f h k =
    let same = byte_is q 39 f in
    let none : closing 39 false 0 s ≡ None = subst (λ y. closing y false 0 s ≡ None) same k in
    ap (λ y. at_front b (y ∷ s)) same ∙ front_rune b s ∙ ap
    (λ o. elim o as (λ _. Found) [ None ↦ found.Fault 6 0 | Some n ↦ rune_end n (take n s) (one (take n s)) ]) none
unclosed_at b q s false false e f h k =
    let same = byte_is q 96 (third (eqb q 34) (eqb q 39) (eqb q 96) e f h) in
    let none : closing 96 false 0 s ≡ None = subst (λ y. closing y false 0 s ≡ None) same k in
    ap (λ y. at_front b (y ∷ s)) same ∙ front_raw b s ∙ ap
    (λ o. elim o as (λ _. Found) [ None ↦ found.Fault 6 0 | Some n ↦ found.Token Str (n + 2) 0 suffix.None ]) none
  where
    third : (a b c : Bool) → a ≡ false → b ≡ false → (a || b || c) ≡ true → c ≡ true
    third true b c e f h = absurd (cc)
    third false true c e f h = absurd (cc)
    third false false c e f h = h

-- a quote without its closing one is found to be a fault
unclosed_front : (b : Bool) (text : List ℕ) → Unclosed text → at_front b text ≡ found.Fault 6 0
unclosed_front b text h = ap (at_front b) h.text_is ∙ unclosed_at b h.quote h.behind _ _ refl refl h.quotes
    (open_none h.quote h.behind h.open_on)

-- ---- words and numbers

-- a left-out word
left_out_front : (b : Bool) (text : List ℕ) → LeftOutWord b text → at_front b text ≡ found.Fault 10 0
left_out_front b text h =
    let word = left_out_is_word h.word (and_left _ _ h.is_out) in
    let first = first_same text h.word h.rest h.text_is
    (first_of_kind h.token.kind h.token.text h.token.number h.token.suffix h.word h.fits.spells).0 in
    let letter : is_letter (get_or text 0 0) ≡ true = subst (λ c. is_letter c ≡ true) first (word_letter h.word word) in
    let same = word_same h.token h.word h.rest text h.text_is h.fits letter in
    let out : is_left_out b (word_of text) ≡ true = ap (is_left_out b) same ∙ h.is_out in
    front_letter b text letter ∙ ap (λ q. cond q (found.Fault 10 0)
    (cond (is_listed keywords (word_of text)) (found.Token Keyword (prefix_len is_word_byte text) 0 suffix.None)
    (found.Token Name (prefix_len is_word_byte text) 0 suffix.None))) out

-- a token with a great number is a Number
great_kind : (k : TokenKind) (text : List ℕ) (n : ℕ) (x : Suffix) (w : List ℕ) → IsSpellingOf k text n x w → 2 ^ 127 ≤ n → k ≡ Number
great_kind Number text n x w h g = refl
great_kind Name text n x w h g = absurd (omega (arith, h.1))
great_kind Keyword text n x w h g = absurd (omega (arith, h.1))
great_kind Str text n x w h g = absurd (omega (arith, h.0))
great_kind Mark text n x w h g = absurd (omega (arith, h.1))
great_kind End text n x w h g = absurd h
great_kind RuneLit text n x w h g = let r = h.2 in let s = one_small r.content n r.one in absurd (omega (arith, s))

-- a number that is too great is found to be a fault
great_number_front : (b : Bool) (text : List ℕ) → TooGreat text → at_front b text ≡ found.Fault 7 0
great_number_front b text h =
    let t = h.token in
    let kind = great_kind t.kind t.text t.number t.suffix h.number h.fits.spells h.great in
    let first = kind_first t.kind t.text t.number t.suffix text h.number h.rest h.text_is h.fits.spells in
    let digit : is_ascii_digit (get_or text 0 0) ≡ true = subst (λ k. is_first k (get_or text 0 0) ≡ true) kind first in
    let same = number_same t h.number h.rest text h.text_is h.fits digit in
    front_digit b text digit ∙ great_front text (omega (arith, same, h.great))

-- a fraction begins with a digit
fraction_digit : (s : List ℕ) → begins_fraction s ≡ true → is_ascii_digit (get_or s 0 0) ≡ true
fraction_digit s h = and_left _ _ h

-- a number with a fraction or an exponent is found to be a fault
left_out_number_front : (b : Bool) (text : List ℕ) → LeftOutNumber text → at_front b text ≡ found.Fault 10 0
left_out_number_front b text h =
    let digit = fraction_digit text h.fraction in
    let same = number_same h.token h.number h.rest text h.text_is h.fits digit in
    front_digit b text digit ∙ small_front text true (omega (arith, same, h.small)) h.fraction

-- ---- a byte that begins no token

-- a letter alone spells a token
lone_letter : (c : ℕ) (b : Bool) → is_listed keywords (c ∷ []) ≡ b → is_letter c ≡ true → (t : Token) × IsSpelling t (c ∷ [])
lone_letter c true e h = (token_at Keyword nowhere (c ∷ []) 0 suffix.None, (refl, refl, refl, e))
lone_letter c false e h = (token_at Name nowhere (c ∷ []) 0 suffix.None, (refl, refl, refl, and_both _ _ h refl, e))

-- a test that cannot be true is false
false_of : (b : Bool) → (b ≡ true → ⊥) → b ≡ false
false_of false h = refl
false_of true h = absurd (h refl)

-- a token of this kind, text and number
abbrev of_kind : TokenKind → List ℕ → ℕ → Token
of_kind k text n = record { kind = k; place = nowhere; text = text; number = n; suffix = suffix.None }

-- a digit alone spells a token
lone_digit : (c : ℕ) → is_ascii_digit c ≡ true → IsSpelling (of_kind Number (c ∷ []) (digits_value 10 (c ∷ []))) (c ∷ [])
lone_digit c h = (
  refl,
  record {
    base = Decimal;
    digits = c ∷ [];
    spelled = refl;
    some = omega arith;
    each = and_both _ _ (decimal c h)
        refl;
    value_is = refl;
  },
)

-- a double quote begins a token
empty_string : (c : ℕ) → eqb c 34 ≡ true → IsSpelling (of_kind Str [] 0) (c ∷ 34 ∷ [])
empty_string c h = (
  refl,
  refl,
  inl (record {
    parts = [];
    each = tt;
    spelled_by = ap (λ q. q ∷ 34 ∷ []) (byte_is c 34 h);
    decoded_is = refl;
  }),
)

-- a backtick begins a token
empty_raw : (c : ℕ) → eqb c 96 ≡ true → IsSpelling (of_kind Str [] 0) (c ∷ 96 ∷ [])
empty_raw c h = (refl, refl, inr (record { spelled_by = ap (λ q. q ∷ 96 ∷ []) (byte_is c 96 h); each = refl }))

-- a single quote begins a token
feed_rune : (c : ℕ) → eqb c 39 ≡ true → IsSpelling (of_kind RuneLit (c ∷ 92 ∷ 110 ∷ 39 ∷ []) 10) (c ∷ 92 ∷ 110 ∷ 39 ∷ [])
feed_rune c h = (
  refl,
  refl,
  record {
    content = 92 ∷ 110 ∷ [];
    one = inr (inl (110, refl, refl));
    spelled_by = ap
        (λ q. q ∷ 92 ∷ 110 ∷ 39 ∷ []) (byte_is c 39 h);
  },
)

-- where no token begins no mark is found
no_mark : (c : ℕ) (rest : List ℕ) (n : ℕ) → ((t : Token) (s : List ℕ) → IsSpelling t (c ∷ s) → ⊥) → longest marks (c ∷ rest) ≡ n → n ≡ 0
no_mark c rest zero h e = refl
no_mark c rest (suc n) h e =
    let some : 0 < longest marks (c ∷ rest) = omega (arith, e) in
    let listed : is_listed marks (take (suc n) (c ∷ rest)) ≡ true =
    subst (λ q. is_listed marks (take q (c ∷ rest)) ≡ true) e (longest_listed marks (c ∷ rest) some) in
    absurd (h (of_kind Mark (c ∷ take n rest) 0) (take n rest) (refl, refl, refl, listed))

-- where no mark is found the byte is a fault
mark_none : (s : List ℕ) (n : ℕ) → longest marks s ≡ n → n ≡ 0 → mark_front s ≡ found.Fault 4 0
mark_none s n e z = ap (λ q. cond (eqb q 0) (found.Fault 4 0) (found.Token Mark q 0 suffix.None)) (e ∙ z)

-- a byte that begins no token is found to be a fault
bad_byte_front : (b : Bool) (text : List ℕ) → BadByte text → at_front b text ≡ found.Fault 4 0
bad_byte_front b text h =
    let c = h.first in
    let letter = false_of (is_letter c) (λ l. let w = lone_letter c _ refl l in h.none w.0 [] w.1) in
    let digit = false_of (is_ascii_digit c) (λ l. h.none (of_kind Number (c ∷ []) (digits_value 10 (c ∷ []))) [] (lone_digit c l)) in
    let quote = false_of (eqb c 34) (λ l. h.none (of_kind Str [] 0) (34 ∷ []) (empty_string c l)) in
    let tick = false_of (eqb c 96) (λ l. h.none (of_kind Str [] 0) (96 ∷ []) (empty_raw c l)) in
    let rune = false_of (eqb c 39) (λ l. h.none (of_kind RuneLit (c ∷ 92 ∷ 110 ∷ 39 ∷ []) 10) (92 ∷ 110 ∷ 39 ∷ []) (feed_rune c l)) in
    ap (at_front b) h.text_is ∙ front_other b c h.rest (letter, digit, quote, tick, rune, h.not_at) ∙ mark_none (c ∷ h.rest) _ refl
    (no_mark c h.rest _ h.none refl)

-- ---- every fault

-- a break is what is found
pub break_front : (b : Bool) (text : List ℕ) (n o : ℕ) → Break b text n o → at_front b text ≡ found.Fault n o
break_front b text n o h = ⊎_elim
    (λ a. bad_byte_front b text a.2 ∙ fault a.0 a.1)
    (⊎_elim
    (λ a. ⊎_elim (λ e. bad_escape_front b text o e) (λ e. bad_rune_front b text o e) a.1 ∙ ap (λ q. found.Fault q o) (sym a.0))
    (⊎_elim
    (λ a. unclosed_front b text a.2 ∙ fault a.0 a.1)
    (⊎_elim
    (λ a. great_number_front b text a.2 ∙ fault a.0 a.1)
    (λ a. ⊎_elim (λ w. left_out_front b text w)
    (⊎_elim (λ w. left_out_number_front b text w) (λ w. ap (at_front b) w.1 ∙ front_at_sign b w.0)) a.2 ∙ fault a.0 a.1))))
    h
  where
    fault : {k : ℕ} → n ≡ k → o ≡ 0 → found.Fault k 0 ≡ found.Fault n o
    fault {k} e f = rw (e, f) refl
