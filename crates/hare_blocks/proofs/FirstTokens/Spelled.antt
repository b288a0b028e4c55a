-- Texts that are blanks and tokens: their first token, and what stands behind it.
use Rattle.std.proofs.Common.{◌≡◌, ℕ, ◌+◌, ◌<◌, List, [], ◌∷◌, ◌++◌, Some, None, true, false, cond, length, take, refl, sym, ap, ◌∙◌, subst, arith, one-add, codes, append_assoc, append-nil, ◌&&◌, not}
use Rattle.std.proofs.Math.Seq.{drop-length, drop-append_seam}
use Rattle.std.specs.List.{prefix_len, list_all}
use Rattle.std.specs.Char.{is_ascii_digit}
use Rattle.std.specs.Str.{all_ascii_digits}
use Rattle.std.proofs.lemmas.Option.{some_pair_parts, none-some}
use Rattle.std.proofs.lemmas.List.{take-append-drop, length-append, length-drop}
use Rattle.std.proofs.lemmas.Grind.{common_steps}
use Rattle.std.proofs.lemmas.Bool.Decides.{nat_tests}
use Rattle.hare_blocks.specs.declared.token.Token.{Token}
use Rattle.hare_blocks.specs.declared.token.Token.TheVariants.{Use, Export, Function, Void, U8, Let, If, Else, For, True, Semicolon, OpenParen, CloseParen, OpenBrace, CloseBrace, Assign, Colon, PathSeparator, Plus, Minus, Star, Less, LessEqual, Greater, GreaterEqual, Equal, Differ, Number, Name, Text}
use Rattle.hare_tree.specs.Words.{is_blank, is_letter, is_word_byte, is_word, is_listed, keywords, is_left_out}
use Rattle.hare_blocks.specs.Tokens.{IsSpelling, Spells, AllBlank, is_name}
use Rattle.hare_blocks.specs.Lexing.{token_at, unblanked}
use Rattle.hare_blocks.proofs.FirstTokens.Scanned.{and_left, run_len}
use Rattle.hare_blocks.proofs.FirstTokens.Lexed.{token_found, token_only}

-- a list of no elements
nothing : (s : List ℕ) → length s ≡ 0 → s ≡ []
nothing [] n = refl
nothing (c ∷ s) n = absurd (omega arith)

-- ---- blanks

-- the bytes up to the first that is no blank are blanks
blank_front : (s : List ℕ) → AllBlank (take (prefix_len is_blank s) s)
blank_front [] = tt
blank_front (c ∷ s) = elim (is_blank c) as (λ b. is_blank c ≡ b → AllBlank (take (cond b (1 + prefix_len is_blank s) 0) (c ∷ s)))
    [ true ↦ λ e. rw one-add (e, blank_front s) | false ↦ λ e. tt ] refl

-- all blanks pass
blank_len : (s : List ℕ) → AllBlank s → prefix_len is_blank s ≡ length s
blank_len [] h = refl
blank_len (c ∷ s) h =
    let more = blank_len s h.1 in
    rw (h.0, more) (one-add (length s))

-- behind all blanks nothing stands
all_blank : (s : List ℕ) → AllBlank s → unblanked s ≡ []
all_blank s h = rw (blank_len s h) (drop-length s)

-- where nothing stands behind the blanks, all are blanks
no_blank : (s : List ℕ) → unblanked s ≡ [] → AllBlank s
no_blank s h =
    let whole : take (prefix_len is_blank s) s ≡ s =
    sym (append-nil _) ∙ ap (λ x. take (prefix_len is_blank s) s ++ x) (sym h) ∙ take-append-drop _ s in
    subst AllBlank whole (blank_front s)

-- what begins with no blank stands behind blanks
behind_blanks : (blanks rest : List ℕ) → AllBlank blanks → prefix_len is_blank rest ≡ 0 → unblanked (blanks ++ rest) ≡ rest
behind_blanks blanks rest h stop = rw (run_len is_blank blanks rest (blank_len blanks h) stop) (drop-append_seam blanks rest)

-- ---- a spelling has a first byte, and that is no blank

-- the bytes begin with one that is no blank
record IsShown (s : List ℕ) : Type 0 where
  first : ℕ
  others : List ℕ
  is : s ≡ first ∷ others
  shown : is_blank first ≡ false

-- a digit is no blank
digit_shown : (d : ℕ) → is_ascii_digit d ≡ true → is_blank d ≡ false
digit_shown d h = grind (arith, nat_tests, common_steps)

-- a number begins with a digit
number_shown : (ds rest : List ℕ) → all_ascii_digits ds ≡ true → 0 < length ds → IsShown (ds ++ rest)
number_shown [] rest h n = absurd (omega arith)
number_shown (d ∷ ds) rest h n = record { first = d; others = ds ++ rest; is = refl; shown = digit_shown d (and_left _ _ h) }

-- a letter is no blank
letter_shown : (c : ℕ) → is_letter c ≡ true → is_blank c ≡ false
letter_shown c h = grind (arith, nat_tests, common_steps)

-- a name begins with a letter
name_shown : (w : List ℕ) → is_name w ≡ true → IsShown w
name_shown [] h = absurd (cc)
name_shown (c ∷ w) h =
    let word : (is_letter c && list_all is_word_byte w) ≡ true =
    and_left (is_word (c ∷ w)) (not (is_listed keywords (c ∷ w)) && not (is_left_out false (c ∷ w))) h in
    record { first = c; others = w; is = refl; shown = letter_shown c (and_left (is_letter c) (list_all is_word_byte w) word) }

-- each token's spelling
token_shown : (t : Token) (s : List ℕ) → IsSpelling t s → IsShown s
token_shown (Number n) s e = rw e.1 (number_shown e.0 (codes "z") e.2 e.3)
token_shown (Name name) s e = rw e.0 (name_shown name e.1)
token_shown (Text text) s e = record { first = 34; others = text ++ 34 ∷ []; is = e.0; shown = refl }
token_shown Use s e = record { first = 117; others = codes "se"; is = e; shown = refl }
token_shown Export s e = record { first = 101; others = codes "xport"; is = e; shown = refl }
token_shown Function s e = record { first = 102; others = codes "n"; is = e; shown = refl }
token_shown Void s e = record { first = 118; others = codes "oid"; is = e; shown = refl }
token_shown U8 s e = record { first = 117; others = codes "8"; is = e; shown = refl }
token_shown Let s e = record { first = 108; others = codes "et"; is = e; shown = refl }
token_shown If s e = record { first = 105; others = codes "f"; is = e; shown = refl }
token_shown Else s e = record { first = 101; others = codes "lse"; is = e; shown = refl }
token_shown For s e = record { first = 102; others = codes "or"; is = e; shown = refl }
token_shown True s e = record { first = 116; others = codes "rue"; is = e; shown = refl }
token_shown Semicolon s e = record { first = 59; others = []; is = e; shown = refl }
token_shown OpenParen s e = record { first = 40; others = []; is = e; shown = refl }
token_shown CloseParen s e = record { first = 41; others = []; is = e; shown = refl }
token_shown OpenBrace s e = record { first = 123; others = []; is = e; shown = refl }
token_shown CloseBrace s e = record { first = 125; others = []; is = e; shown = refl }
token_shown Assign s e = record { first = 61; others = []; is = e; shown = refl }
token_shown Colon s e = record { first = 58; others = []; is = e; shown = refl }
token_shown Plus s e = record { first = 43; others = []; is = e; shown = refl }
token_shown Minus s e = record { first = 45; others = []; is = e; shown = refl }
token_shown Star s e = record { first = 42; others = []; is = e; shown = refl }
token_shown Less s e = record { first = 60; others = []; is = e; shown = refl }
token_shown Greater s e = record { first = 62; others = []; is = e; shown = refl }
token_shown PathSeparator s e = record { first = 58; others = 58 ∷ []; is = e; shown = refl }
token_shown Equal s e = record { first = 61; others = 61 ∷ []; is = e; shown = refl }
token_shown Differ s e = record { first = 33; others = 61 ∷ []; is = e; shown = refl }
token_shown LessEqual s e = record { first = 60; others = 61 ∷ []; is = e; shown = refl }
token_shown GreaterEqual s e = record { first = 62; others = 61 ∷ []; is = e; shown = refl }

-- no blank stands in front of a spelling
shows : (s rest : List ℕ) → IsShown s → prefix_len is_blank (s ++ rest) ≡ 0
shows s rest h = rw (h.is, h.shown) refl

-- a spelling is not empty
shown_length : (s : List ℕ) → IsShown s → 0 < length s
shown_length s h = rw h.is (omega arith)

-- ---- the first token of a text

-- what stands behind the blanks begins with the first token
begins : (t : Token) (ts : List Token) (text : List ℕ) → Spells (t ∷ ts) text → (rest : List ℕ) ×
    (token_at (unblanked text) ≡ Some (t, rest)) × Spells ts rest
begins t ts text h =
    let front : unblanked text ≡ h.1 ++ h.2 =
    ap unblanked h.6 ∙ behind_blanks h.0 (h.1 ++ h.2) h.3 (shows h.1 h.2 (token_shown t h.1 h.4)) in
    (h.2, token_only (unblanked text) t h.2 (record { spelling = h.1; spelled = h.4; longest = h.5; joined = front }), h.7)

-- blanks are spelled by no token alone
pub spells_end : (ts : List Token) (text : List ℕ) → Spells ts text → length (unblanked text) ≡ 0 → ts ≡ []
unfolding token_at
spells_end [] text h n = refl
spells_end (t ∷ ts) text h n =
    let b = begins t ts text h in
    absurd (none-some (t, b.0) (ap token_at (sym (nothing (unblanked text) n)) ∙ b.1))

-- blanks spell no token
pub spells_blanks : (text : List ℕ) → length (unblanked text) ≡ 0 → Spells [] text
spells_blanks text n = no_blank text (nothing (unblanked text) n)

-- where no token is found behind the blanks, no tokens spell the text
pub spells_none : (ts : List Token) (text : List ℕ) → Spells ts text → 0 < length (unblanked text) → token_at (unblanked text) ≡ None → ⊥
spells_none [] text h n e =
    let k = ap length (all_blank text h) in
    omega arith
spells_none (t ∷ ts) text h n e = let b = begins t ts text h in let k = sym e ∙ b.1 in cc

-- the token that is found is the first
pub spells_more : (us : List Token) (text : List ℕ) (t : Token) (rest : List ℕ) → Spells us text → 0 < length (unblanked text) →
    token_at (unblanked text) ≡ Some (t, rest) → (ts : List Token) × (us ≡ t ∷ ts) × Spells ts rest
spells_more [] text t rest h n e =
    let k = ap length (all_blank text h) in
    absurd (omega arith)
spells_more (u ∷ us) text t rest h n e =
    let b = begins u us text h in
    let parts = some_pair_parts t u rest b.0 (sym e ∙ b.1) in
    (us, rw parts.0 refl, rw parts.1 b.2)

-- the token that is found stands in front of those that spell the rest
pub spells_first : (ts : List Token) (text : List ℕ) (t : Token) (rest : List ℕ) → token_at (unblanked text) ≡ Some (t, rest) →
    Spells ts rest → Spells (t ∷ ts) text
spells_first ts text t rest e h =
    let b = token_found (unblanked text) (t, rest) e in
    let n = prefix_len is_blank text in
    let joined = sym (take-append-drop n text) ∙ ap (λ x. take n text ++ x) b.joined in
    (take n text, b.spelling, rest, blank_front text, b.spelled, b.longest, joined, h)

-- the rest behind the token is shorter than the text
pub spells_shorter : (text : List ℕ) (t : Token) (rest : List ℕ) → token_at (unblanked text) ≡ Some (t, rest) → length rest < length text
spells_shorter text t rest e =
    let b = token_found (unblanked text) (t, rest) e in
    let joined = ap length b.joined in
    let some = shown_length b.spelling (token_shown t b.spelling b.spelled) in
    omega (arith, joined, some, length-append b.spelling rest, length-drop (prefix_len is_blank text) text)

-- all tokens are those so far, with the next one pushed, and the others
pub all_pushed : (ts items us pushed others : List Token) (t : Token) → ts ≡ items ++ us → us ≡ t ∷ others → pushed ≡ items ++ t ∷ [] →
    ts ≡ pushed ++ others
all_pushed ts items us pushed others t h more push = rw (h, more, push, append_assoc) refl
