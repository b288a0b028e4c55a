-- In front of what a token stands: the texts that it does not go on with.
use Rattle.std.proofs.Common.{◌≡◌, ℕ, suc, ◌+◌, ◌-◌, ◌<◌, ◌≤◌, ◌^◌, List, [], ◌∷◌, ◌++◌, ◌⊎◌, inl, inr, Some, Bool, true, false, cond, ◌&&◌, ◌||◌, not, eqb, leb, get_or, length, take, drop, refl, sym, ap, ◌∙◌, subst, arith, append_assoc, length-append, append-nil}
use Rattle.std.proofs.Math.Logic.{⊎_elim}
use Rattle.std.proofs.Math.Seq.{take-append_seam, get_or-append_seam}
use Rattle.std.specs.Prelude.{bytes_eq}
use Rattle.std.specs.List.{list_all, prefix_len, AllByRecursion}
use Rattle.std.specs.Char.{is_ascii_digit, is_digit}
use Rattle.std.proofs.lemmas.Bool.{eqb-true}
use Rattle.std.proofs.lemmas.Bool.Decides.{nat_tests}
use Rattle.std.proofs.lemmas.Grind.{common_steps}
use Rattle.std.proofs.lemmas.List.{take-append-le, get_or_append_left}
use Rattle.std.proofs.lemmas.Slice.Eq.{bytes_eq-Decides}
use Rattle.hare_tree.specs.declared.token.TokenKind.{TokenKind}
use Rattle.hare_tree.specs.declared.token.TokenKind.TheVariants.{Name, Keyword, Number, Str, RuneLit, Mark, End}
use Rattle.hare_tree.specs.declared.token.Suffix.{Suffix}
use Rattle.hare_tree.specs.declared.token.Suffix.TheVariants as suffix
use Rattle.hare_tree.specs.declared.token.Token.{Token}
use Rattle.hare_tree.specs.Words.{is_blank, is_letter, is_word_byte, is_word, is_listed, is_left_out, marks, Base, Decimal, Hexadecimal, Octal, Binary, radix, base_mark, suffix_word, begins_fraction, goes_on_as_fraction}
use Rattle.hare_tree.specs.Spelling.{IsNumber, IsSpellingOf, IsSpelling}
use Rattle.hare_tree.specs.Tokens.{Stands, no_gap}
use Rattle.hare_lex.proofs.Fronts.Lists.{and_left, and_right, and_both, listed_case}
use Rattle.hare_lex.proofs.Fronts.Firsts.{is_first, is_other, keyword_is_word, first_of_kind}
use Rattle.hare_lex.proofs.Literals.Quotes.{closing_holds}
use Rattle.hare_lex.proofs.Literals.Runes.{one_holds}
use Rattle.hare_lex.proofs.Sound.Literals.{lit_longest, rune_kind, rune_is, quote_kind, raw_kind}
use Rattle.hare_lex.proofs.Sound.Marks.{no_other_kind, mark_listed}
use Rattle.hare_lex.proofs.Fronts.Standing.{first_same, no_fraction}
use Rattle.hare_lines.specs.Gaps.{lengthened, are_digits}
use Rattle.hare_lines.proofs.LayoutLaws.Grown.{digits_run}
use Rattle.hare_again.proofs.PartsOfLayouts.Strings.{string_closes, string_of}

-- What a token is spelled by, without a fault of its own, wherever it stands.
pub record IsToken (behind_path : Bool) (t : Token) (s : List ℕ) : Type 0 where
  pub spells : IsSpelling t s
  pub kept_word : is_left_out behind_path s ≡ false
  pub small : t.number < 2 ^ 127
  pub fresh : no_gap s ≡ true

-- The text behind the bytes of a token does not go on with it: neither as a word or a number, nor as a longer mark or a comment, nor as a
-- fraction.
pub record IsClear (s rest : List ℕ) : Type 0 where
  pub word : is_word_byte (get_or s 0 0) ≡ true → is_word_byte (get_or rest 0 0) ≡ false
  pub mark : is_listed (lengthened (get_or rest 0 0)) s ≡ false
  pub slash : (eqb (get_or s 0 0) 47 && eqb (get_or rest 0 0) 47) ≡ false
  pub fraction : are_digits s ≡ true → (eqb (get_or rest 0 0) 46 && is_ascii_digit (get_or rest 1 0)) ≡ false

true-false : {A : Type 0} → true ≡ false → A
true-false h = cc

false-true : {A : Type 0} → false ≡ true → A
false-true h = cc

-- ---- words and numbers

letter-in-word : (c : ℕ) → is_letter c ≡ true → is_word_byte c ≡ true
letter-in-word c h = rw h refl

digit-in-word : (c : ℕ) → is_ascii_digit c ≡ true → is_word_byte c ≡ true
digit-in-word c h = or-right (is_letter c) (is_ascii_digit c) h
  where
    or-right : (a b : Bool) → b ≡ true → (a || b) ≡ true
    or-right true b h = refl
    or-right false b h = h

word-bytes : (w : List ℕ) → is_word w ≡ true → list_all is_word_byte w ≡ true
word-bytes [] h = refl
word-bytes (c ∷ w) h = and_both _ _ (letter-in-word c (and_left _ _ h)) (and_right _ _ h)

digit-of-base : (c r : ℕ) → r ≤ 16 → is_digit c r ≡ true → is_word_byte c ≡ true
digit-of-base c r m h = grind (arith, nat_tests, common_steps)

digits-in-word : (r : ℕ) (ds : List ℕ) → r ≤ 16 → list_all (λ c. is_digit c r) ds ≡ true → list_all is_word_byte ds ≡ true
digits-in-word r [] m h = refl
digits-in-word r (d ∷ ds) m h = and_both _ _ (digit-of-base d r m (and_left _ _ h)) (digits-in-word r ds m (and_right _ _ h))

all-append : (p : ℕ → Bool) (a b : List ℕ) → list_all p a ≡ true → list_all p b ≡ true → list_all p (a ++ b) ≡ true
all-append p [] b h k = k
all-append p (c ∷ a) b h k = and_both _ _ (and_left _ _ h) (all-append p a b (and_right (p c) _ h) k)

suffix-in-word : (x : Suffix) → list_all is_word_byte (suffix_word x) ≡ true
suffix-in-word suffix.None = refl
suffix-in-word suffix.I8 = refl
suffix-in-word suffix.I16 = refl
suffix-in-word suffix.I32 = refl
suffix-in-word suffix.I64 = refl
suffix-in-word suffix.U8 = refl
suffix-in-word suffix.U16 = refl
suffix-in-word suffix.U32 = refl
suffix-in-word suffix.U64 = refl
suffix-in-word suffix.I = refl
suffix-in-word suffix.U = refl
suffix-in-word suffix.Z = refl

mark-in-word : (b : Base) → list_all is_word_byte (base_mark b) ≡ true
mark-in-word Decimal = refl
mark-in-word Hexadecimal = refl
mark-in-word Octal = refl
mark-in-word Binary = refl

radix-small : (b : Base) → radix b ≤ 16
radix-small Decimal = omega arith
radix-small Hexadecimal = omega arith
radix-small Octal = omega arith
radix-small Binary = omega arith

number-bytes : (v : ℕ) (x : Suffix) (s : List ℕ) → IsNumber v x s → list_all is_word_byte s ≡ true
number-bytes v x s n =
    subst (λ l. list_all is_word_byte l ≡ true) (sym n.spelled)
    (all-append is_word_byte (base_mark n.base) (n.digits ++ suffix_word x) (mark-in-word n.base)
    (all-append is_word_byte n.digits (suffix_word x) (digits-in-word (radix n.base) n.digits (radix-small n.base) n.each)
    (suffix-in-word x)))

-- what begins with a word's byte is a word or a number, and all its bytes are such
quote-no-word : (c : ℕ) → (eqb c 34 || eqb c 96) ≡ true → is_word_byte c ≡ true → ⊥
quote-no-word c h k = grind (arith, nat_tests, common_steps)

rune-no-word : (c : ℕ) → eqb c 39 ≡ true → is_word_byte c ≡ true → ⊥
rune-no-word c h k = grind (arith, nat_tests, common_steps)

other-by : (a b c d e f : Bool) → not (a || b || c || d || e || f) ≡ true → (a || b) ≡ true → ⊥
other-by true b c d e f h k = false-true h
other-by false true c d e f h k = false-true h
other-by false false c d e f h k = false-true k

pub other-no-word : (c : ℕ) → is_other c ≡ true → is_word_byte c ≡ true → ⊥
other-no-word c h k = other-by (is_letter c) (is_ascii_digit c) (eqb c 34) (eqb c 96) (eqb c 39) (eqb c 64) h k

all-in-word : (k : TokenKind) (text : List ℕ) (n : ℕ) (x : Suffix) (w : List ℕ) → IsSpellingOf k text n x w
    → is_first k (get_or w 0 0) ≡ true → is_word_byte (get_or w 0 0) ≡ true → list_all is_word_byte w ≡ true
all-in-word Name text n x w h f i = word-bytes w h.3
all-in-word Keyword text n x w h f i = word-bytes w (keyword_is_word w h.3)
all-in-word Number text n x w h f i = number-bytes n x w h.1
all-in-word Str text n x w h f i = absurd (quote-no-word (get_or w 0 0) f i)
all-in-word RuneLit text n x w h f i = absurd (rune-no-word (get_or w 0 0) f i)
all-in-word Mark text n x w h f i = absurd (other-no-word (get_or w 0 0) f i)
all-in-word End text n x w h f i = absurd h

nil-cons : {A : Type 0} (c : ℕ) (w : List ℕ) → [] ≡ c ∷ w → A
nil-cons c w e = cc

cons-first : (c d : ℕ) (a b : List ℕ) → c ∷ a ≡ d ∷ b → c ≡ d
cons-first c d a b e = cc

cons-rest : (c d : ℕ) (a b : List ℕ) → c ∷ a ≡ d ∷ b → a ≡ b
cons-rest c d a b e = cc

-- bytes that pass go no further than one that does not
run-ends : (p : ℕ → Bool) (s rest w more : List ℕ) → s ++ rest ≡ w ++ more → list_all p w ≡ true → p (get_or rest 0 0) ≡ false
    → length w ≤ length s
run-ends p s rest [] more e h k = omega arith
run-ends p [] [] (d ∷ w) more e h k = nil-cons d (w ++ more) e
run-ends p [] (c ∷ rest) (d ∷ w) more e h k =
    true-false (sym (and_left (p d) _ h) ∙ sym (ap p (cons-first c d rest (w ++ more) e)) ∙ k)
run-ends p (c ∷ s) rest (d ∷ w) more e h k =
    let r = run-ends p s rest w more (cons-rest c d (s ++ rest) (w ++ more) e) (and_right (p d) _ h) k in
    omega (arith, r)

-- ---- marks

-- the second goes on with the first, and its next byte makes a longer mark of it
follows : List ℕ → List ℕ → Bool
follows m w = cond (leb (suc (length m)) (length w) && bytes_eq (take (length m) w) m) (is_listed (lengthened (get_or w (length m) 0)) m)
    true

follow-all : (ms : List (List ℕ)) (ws : List (List ℕ)) → list_all (λ m. list_all (λ w. follows m w) ws) ms ≡ true
    → AllByRecursion (λ m. AllByRecursion (λ w. follows m w ≡ true) ws) ms
follow-all [] ws h = tt
follow-all (m ∷ ms) ws h = (one ws (and_left _ _ h), follow-all ms ws (and_right (list_all (λ w. follows m w) ws) _ h))
  where
    one : (vs : List (List ℕ)) → list_all (λ w. follows m w) vs ≡ true → AllByRecursion (λ w. follows m w ≡ true) vs
    one [] h = tt
    one (v ∷ vs) h = (and_left _ _ h, one vs (and_right (follows m v) _ h))

marks-follow : list_all (λ m. list_all (λ w. follows m w) marks) marks ≡ true
unfolding follows
marks-follow = refl

mark-follows : (m w : List ℕ) → is_listed marks m ≡ true → is_listed marks w ≡ true → follows m w ≡ true
mark-follows m w h k =
    listed_case (λ v. follows m v ≡ true) marks w
    (listed_case (λ n. AllByRecursion (λ v. follows n v ≡ true) marks) marks m (follow-all marks marks marks-follow) h) k

less-or-more : (a b : ℕ) → (a ≤ b) ⊎ (b < a)
less-or-more a b = by (leb a b) refl
  where
    by : (x : Bool) → leb a b ≡ x → (a ≤ b) ⊎ (b < a)
    by true e = inl (grind (arith, nat_tests))
    by false e = inr (grind (arith, nat_tests))

same-bytes : (s : List ℕ) → bytes_eq s s ≡ true
same-bytes s = (bytes_eq-Decides s s).1 refl

leb-of : (a b : ℕ) → a < b → leb (suc a) b ≡ true
leb-of a b h = grind (arith, nat_tests)

mark-ends : (s rest w more : List ℕ) → is_listed marks s ≡ true → is_listed marks w ≡ true → s ++ rest ≡ w ++ more
    → is_listed (lengthened (get_or rest 0 0)) s ≡ false → length w ≤ length s
unfolding follows
mark-ends s rest w more h k e z = ⊎_elim (λ l. l) longer (less-or-more (length w) (length s))
  where
    seam : (r : List ℕ) → s ++ r ≡ w ++ more → length s < length w → get_or w (length s) 0 ≡ get_or r 0 0
    seam [] e l = let n = ap length e in absurd (omega (arith, n, l, length-append w more, length-append {A = ℕ} s []))
    seam (c ∷ r) e l = sym (get_or_append_left w more 0 (length s) l) ∙ ap (λ q. get_or q (length s) 0) (sym e) ∙ get_or-append_seam s c r 0

    longer : length s < length w → length w ≤ length s
    longer l =
        let front : take (length s) w ≡ s = sym (take-append-le (length s) w more (omega (arith, l))) ∙ ap (take (length s)) (sym e)
        ∙ take-append_seam s rest in
        let test : (leb (suc (length s)) (length w) && bytes_eq (take (length s) w) s) ≡ true =
        and_both _ _ (leb-of (length s) (length w) l)
        (ap (λ q. bytes_eq q s) front ∙ same-bytes s) in
        let is : is_listed (lengthened (get_or w (length s) 0)) s ≡ true =
        ap (λ b. cond b (is_listed (lengthened (get_or w (length s) 0)) s) true) (sym test) ∙ mark-follows s w h k in
        true-false (sym is ∙ ap (λ c. is_listed (lengthened c) s) (seam rest e l) ∙ z)

-- ---- what fits

first-is : (s rest w more : List ℕ) → s ++ rest ≡ w ++ more → 0 < length s → 0 < length w → get_or w 0 0 ≡ get_or s 0 0
first-is [] rest w more e l k = absurd (omega (arith, l))
first-is (c ∷ s) rest w more e l k = first_same (c ∷ (s ++ rest)) w more e k

other-parts : (a b c d e f : Bool) → not (a || b || c || d || e || f) ≡ true
    → (a ≡ false) × (b ≡ false) × (c ≡ false) × (d ≡ false) × (e ≡ false) × (f ≡ false)
other-parts true b c d e f h = false-true h
other-parts false true c d e f h = false-true h
other-parts false false true d e f h = false-true h
other-parts false false false true e f h = false-true h
other-parts false false false false true f h = false-true h
other-parts false false false false false true h = false-true h
other-parts false false false false false false h = (refl, refl, refl, refl, refl, refl)

some-is : (n m : ℕ) → Some n ≡ Some m → n ≡ m
some-is n m e = cc

string-kind : (k : TokenKind) (c : ℕ) → (eqb c 34 || eqb c 96) ≡ true → is_first k c ≡ true → k ≡ Str
string-kind k c h f = by (eqb c 34) refl
  where
    by : (b : Bool) → eqb c 34 ≡ b → k ≡ Str
    by true e = quote_kind k (subst (λ q. is_first k q ≡ true) (grind (arith, nat_tests)) f)
    by false e = raw_kind k (subst (λ q. is_first k q ≡ true) (back e h) f)
      where
        back : eqb c 34 ≡ false → (eqb c 34 || eqb c 96) ≡ true → c ≡ 96
        back e h = let r : eqb c 96 ≡ true = ap (λ b. b || eqb c 96) (sym e) ∙ h in grind (arith, nat_tests)

string-ends : (t u : Token) (s rest w more : List ℕ) → t.kind ≡ Str → u.kind ≡ Str → IsSpelling t s → IsSpelling u w → s ++ rest ≡ w ++ more
    → length w ≤ length s
string-ends t u s rest w more a b h k e =
    let x = string_closes s (s ++ rest) (string_of t (s ++ rest) s rest a refl h) in
    let y = string_closes w (s ++ rest) (string_of u (s ++ rest) w more b e k) in
    let same = some-is (length s - 2) (length w - 2) (sym x.closes_at ∙ y.closes_at) in
    omega (arith, same, x.long, y.long)

behind-quote : (q : ℕ) (s content rest : List ℕ) → s ≡ q ∷ (content ++ q ∷ []) → s ++ rest ≡ q ∷ (content ++ q ∷ rest)
behind-quote q s content rest e = ap (λ l. l ++ rest) e ∙ ap (λ l. q ∷ l) (append_assoc content (q ∷ []) rest)

rune-ends : (n m : ℕ) (t u : TokenKind) (text text' : List ℕ) (x y : Suffix) (s rest w more : List ℕ) → t ≡ RuneLit → u ≡ RuneLit
    → IsSpellingOf t text n x s → IsSpellingOf u text' m y w → s ++ rest ≡ w ++ more → length w ≤ length s
rune-ends n m t u text text' x y s rest w more a b h k e =
    let p = rune_is t text n x s a h in
    let r = rune_is u text' m y w b k in
    let behind = p.content ++ 39 ∷ rest in
    let whole : 39 ∷ behind ≡ s ++ rest = sym (behind-quote 39 s p.content rest p.spelled_by) in
    let found = closing_holds 39 false 0 p.content rest (one_holds p.content n p.one) in
    let one = lit_longest 39 behind p.content s rest (0 + length p.content) found whole p.spelled_by (one_holds p.content n p.one) in
    let two = lit_longest 39 behind r.content w more (0 + length p.content) found (whole ∙ e) r.spelled_by (one_holds r.content m r.one) in
    omega (arith, one, two)

-- no token at the front is longer than one of this kind
fits-by : (k : TokenKind) (t u : Token) (s rest w more : List ℕ) → t.kind ≡ k → IsSpellingOf k t.text t.number t.suffix s → IsSpelling t s
    → is_first k (get_or s 0 0) ≡ true → IsSpelling u w → is_first u.kind (get_or s 0 0) ≡ true → get_or w 0 0 ≡ get_or s 0 0 →
    IsClear s rest
    → s ++ rest ≡ w ++ more → length w ≤ length s
fits-by Name t u s rest w more i h a f b g o c e =
    let l = letter-in-word (get_or s 0 0) f in
    run-ends is_word_byte s rest w more e
    (all-in-word u.kind u.text u.number u.suffix w b (subst (λ q. is_first u.kind q ≡ true) (sym o) g) (ap is_word_byte o ∙ l)) (c.word l)
fits-by Keyword t u s rest w more i h a f b g o c e =
    let l = letter-in-word (get_or s 0 0) f in
    run-ends is_word_byte s rest w more e
    (all-in-word u.kind u.text u.number u.suffix w b (subst (λ q. is_first u.kind q ≡ true) (sym o) g) (ap is_word_byte o ∙ l)) (c.word l)
fits-by Number t u s rest w more i h a f b g o c e =
    let l = digit-in-word (get_or s 0 0) f in
    run-ends is_word_byte s rest w more e
    (all-in-word u.kind u.text u.number u.suffix w b (subst (λ q. is_first u.kind q ≡ true) (sym o) g) (ap is_word_byte o ∙ l)) (c.word l)
fits-by Str t u s rest w more i h a f b g o c e = string-ends t u s rest w more i (string-kind u.kind (get_or s 0 0) f g) a b e
fits-by RuneLit t u s rest w more i h a f b g o c e =
    rune-ends t.number u.number t.kind u.kind t.text u.text t.suffix u.suffix s rest w more i
    (rune_kind u.kind (subst (λ q. is_first u.kind q ≡ true) (grind (arith, nat_tests)) g)) a b e
fits-by Mark t u s rest w more i h a f b g o c e =
    let x = get_or s 0 0 in
    let p = other-parts (is_letter x) (is_ascii_digit x) (eqb x 34) (eqb x 96) (eqb x 39) (eqb x 64) f in
    mark-ends s rest w more h.3 (mark_listed u.kind u.text u.number u.suffix w (no_other_kind u.kind x p g) b) e c.mark
fits-by End t u s rest w more i h a f b g o c e = absurd h

-- ---- no fraction

-- a letter that begins a suffix, or the mark of a base, goes on as no fraction
no-letter : (c : ℕ) → is_word_byte c ≡ false → (eqb c 101 || eqb c 69) ≡ false
no-letter c h = grind (arith, nat_tests, common_steps)

no-digit : (c : ℕ) → is_word_byte c ≡ false → is_ascii_digit c ≡ false
no-digit c h = by (is_letter c) (is_ascii_digit c) h
  where
    by : (a b : Bool) → (a || b) ≡ false → b ≡ false
    by true b h = true-false h
    by false b h = h

ends-plain : (a b c d : Bool) → (a && b) ≡ false → c ≡ false → ((a && b) || (c && d)) ≡ false
ends-plain a b true d h k = true-false k
ends-plain a b false d h k = rw h refl

goes-nowhere : (r : List ℕ) → (eqb (get_or r 0 0) 46 && is_ascii_digit (get_or r 1 0)) ≡ false → is_word_byte (get_or r 0 0) ≡ false
    → goes_on_as_fraction r ≡ false
goes-nowhere r h k =
    ends-plain (eqb (get_or r 0 0) 46) (is_ascii_digit (get_or r 1 0)) (eqb (get_or r 0 0) 101 || eqb (get_or r 0 0) 69) _ h
    (no-letter (get_or r 0 0) k)

all-decimal : (ds : List ℕ) → list_all (λ c. is_digit c 10) ds ≡ true → list_all is_ascii_digit ds ≡ true
all-decimal [] h = refl
all-decimal (d ∷ ds) h = and_both _ _ (decimal-of d (and_left _ _ h)) (all-decimal ds (and_right _ _ h))
  where
    decimal-of : (c : ℕ) → is_digit c 10 ≡ true → is_ascii_digit c ≡ true
    decimal-of c h = grind (arith, nat_tests, common_steps)

run-of-all : (s : List ℕ) → list_all is_ascii_digit s ≡ true → drop (prefix_len is_ascii_digit (s ++ [])) (s ++ []) ≡ []
run-of-all [] h = refl
run-of-all (d ∷ s) h =
    let first : is_ascii_digit d ≡ true = and_left _ _ h in
    let one : 1 + prefix_len is_ascii_digit (s ++ []) ≡ suc (prefix_len is_ascii_digit (s ++ [])) = omega arith in
    ap (λ p. drop (cond p (1 + prefix_len is_ascii_digit (s ++ [])) 0) (d ∷ (s ++ []))) first
    ∙ ap (λ n. drop n (d ∷ (s ++ []))) one ∙ run-of-all s (and_right (is_ascii_digit d) _ h)

-- behind digits
behind-digits : (s rest : List ℕ) → list_all is_ascii_digit s ≡ true → is_word_byte (get_or rest 0 0) ≡ false
    → drop (prefix_len is_ascii_digit (s ++ rest)) (s ++ rest) ≡ rest
behind-digits s [] h k = run-of-all s h
behind-digits s (c ∷ rest) h k = digits_run s c rest h (no-digit c k)

and-false : (a b : Bool) → b ≡ false → (a && b) ≡ false
and-false true b h = h
and-false false b h = refl

-- digits, and a suffix or none
decimals-end : (ds rest : List ℕ) (x : Suffix) → list_all is_ascii_digit ds ≡ true → 0 < length ds → IsClear (ds ++ suffix_word x) rest
    → goes_on_as_fraction (drop (prefix_len is_ascii_digit (ds ++ (suffix_word x ++ rest))) (ds ++ (suffix_word x ++ rest))) ≡ false
decimals-end ds rest suffix.None h l c =
    let s : ds ++ [] ≡ ds = append-nil ds in
    let digits : are_digits (ds ++ []) ≡ true = subst (λ q. are_digits q ≡ true) (sym s) (and_both _ _ (some-long (length ds) l) h) in
    let word : is_word_byte (get_or rest 0 0) ≡ false =
    c.word (subst (λ q. is_word_byte (get_or q 0 0) ≡ true) (sym s) (first-word ds h l)) in
    ap goes_on_as_fraction (behind-digits ds rest h word) ∙ goes-nowhere rest (c.fraction digits) word
  where
    some-long : (n : ℕ) → 0 < n → not (eqb n 0) ≡ true
    some-long n l = by (eqb n 0) refl
      where
        by : (b : Bool) → eqb n 0 ≡ b → not b ≡ true
        by true e = let z = eqb-true n 0 e in absurd (omega (arith, l, z))
        by false e = refl

    first-word : (ds : List ℕ) → list_all is_ascii_digit ds ≡ true → 0 < length ds → is_word_byte (get_or ds 0 0) ≡ true
    first-word [] h l = absurd (omega (arith, l))
    first-word (d ∷ ds) h l = digit-in-word d (and_left _ _ h)
decimals-end ds rest suffix.I8 h l c = ap goes_on_as_fraction (digits_run ds 105 _ h refl)
decimals-end ds rest suffix.I16 h l c = ap goes_on_as_fraction (digits_run ds 105 _ h refl)
decimals-end ds rest suffix.I32 h l c = ap goes_on_as_fraction (digits_run ds 105 _ h refl)
decimals-end ds rest suffix.I64 h l c = ap goes_on_as_fraction (digits_run ds 105 _ h refl)
decimals-end ds rest suffix.U8 h l c = ap goes_on_as_fraction (digits_run ds 117 _ h refl)
decimals-end ds rest suffix.U16 h l c = ap goes_on_as_fraction (digits_run ds 117 _ h refl)
decimals-end ds rest suffix.U32 h l c = ap goes_on_as_fraction (digits_run ds 117 _ h refl)
decimals-end ds rest suffix.U64 h l c = ap goes_on_as_fraction (digits_run ds 117 _ h refl)
decimals-end ds rest suffix.I h l c = ap goes_on_as_fraction (digits_run ds 105 _ h refl)
decimals-end ds rest suffix.U h l c = ap goes_on_as_fraction (digits_run ds 117 _ h refl)
decimals-end ds rest suffix.Z h l c = ap goes_on_as_fraction (digits_run ds 122 _ h refl)

number-by : (b : Base) (ds : List ℕ) (x : Suffix) (rest : List ℕ) → list_all (λ c. is_digit c (radix b)) ds ≡ true → 0 < length ds
    → IsClear (base_mark b ++ (ds ++ suffix_word x)) rest → begins_fraction ((base_mark b ++ (ds ++ suffix_word x)) ++ rest) ≡ false
number-by Decimal ds x rest h l c =
    subst (λ q. begins_fraction q ≡ false) (sym (append_assoc ds (suffix_word x) rest))
    (and-false _ _ (decimals-end ds rest x (all-decimal ds h) l c))
number-by Hexadecimal ds x rest h l c = refl
number-by Octal ds x rest h l c = refl
number-by Binary ds x rest h l c = refl

number-ends : (v : ℕ) (x : Suffix) (s rest : List ℕ) → IsNumber v x s → IsClear s rest → begins_fraction (s ++ rest) ≡ false
number-ends v x s rest n c =
    subst (λ q. begins_fraction (q ++ rest) ≡ false) (sym n.spelled)
    (number-by n.base n.digits x rest n.each n.some (subst (λ q. IsClear q rest) n.spelled c))

letter-no-digit : (c : ℕ) → is_letter c ≡ true → is_ascii_digit c ≡ false
letter-no-digit c h = grind (arith, nat_tests, common_steps)

quote-no-digit : (c : ℕ) → (eqb c 34 || eqb c 96) ≡ true → is_ascii_digit c ≡ false
quote-no-digit c h = grind (arith, nat_tests, common_steps)

rune-no-digit : (c : ℕ) → eqb c 39 ≡ true → is_ascii_digit c ≡ false
rune-no-digit c h = grind (arith, nat_tests, common_steps)

front-first : (s rest : List ℕ) → 0 < length s → get_or (s ++ rest) 0 0 ≡ get_or s 0 0
front-first [] rest l = absurd (omega (arith, l))
front-first (c ∷ s) rest l = refl

whole-by : (k : TokenKind) (text : List ℕ) (n : ℕ) (x : Suffix) (s rest : List ℕ) → IsSpellingOf k text n x s → 0 < length s
    → is_first k (get_or s 0 0) ≡ true → IsClear s rest → begins_fraction (s ++ rest) ≡ false
whole-by Name text n x s rest h l f c = no_fraction (s ++ rest)
    (ap is_ascii_digit (front-first s rest l) ∙ letter-no-digit (get_or s 0 0) f)
whole-by Keyword text n x s rest h l f c = no_fraction (s ++ rest)
    (ap is_ascii_digit (front-first s rest l) ∙ letter-no-digit (get_or s 0 0) f)
whole-by Number text n x s rest h l f c = number-ends n x s rest h.1 c
whole-by Str text n x s rest h l f c = no_fraction (s ++ rest) (ap is_ascii_digit (front-first s rest l) ∙ quote-no-digit (get_or s 0 0) f)
whole-by RuneLit text n x s rest h l f c = no_fraction (s ++ rest)
    (ap is_ascii_digit (front-first s rest l) ∙ rune-no-digit (get_or s 0 0) f)
whole-by Mark text n x s rest h l f c =
    let y = get_or s 0 0 in
    let p = other-parts (is_letter y) (is_ascii_digit y) (eqb y 34) (eqb y 96) (eqb y 39) (eqb y 64) f in
    no_fraction (s ++ rest) (ap is_ascii_digit (front-first s rest l) ∙ p.1)
whole-by End text n x s rest h l f c = absurd h

-- ---- what stands

pub token-stands : (b : Bool) (t : Token) (s rest : List ℕ) → IsToken b t s → IsClear s rest → Stands b t s rest
token-stands b t s rest i c =
    let f = first_of_kind t.kind t.text t.number t.suffix s i.spells in
    record {
      fits = record {
        spells = i.spells;
        longest = λ u w more e h.
            let g = first_of_kind u.kind u.text u.number u.suffix w h in
            let same = first-is s rest w more e f.0 g.0 in
            fits-by t.kind t u s rest w more refl i.spells i.spells f.1 h (subst (λ q. is_first u.kind q ≡ true) same g.1) same c e;
      };
      kept_word = i.kept_word;
      small = i.small;
      whole = whole-by t.kind t.text t.number t.suffix s rest i.spells f.0 f.1 c;
    }

-- neither a blank nor a comment begins there
not-either : (a b : Bool) → a ≡ false → b ≡ false → not (a || b) ≡ true
not-either a b h k = rw (h, k) refl

first-not : (a b : Bool) → not (a || b) ≡ true → a ≡ false
first-not true b h = false-true h
first-not false b h = refl

pub token-fresh : (b : Bool) (t : Token) (s rest : List ℕ) → IsToken b t s → IsClear s rest → no_gap (s ++ rest) ≡ true
token-fresh b t [] rest i k = let l = (first_of_kind t.kind t.text t.number t.suffix [] i.spells).0 in absurd (omega (arith, l))
token-fresh b t (c ∷ []) rest i k =
    not-either (is_blank c) (eqb c 47 && eqb (get_or rest 0 0) 47) (first-not (is_blank c) (eqb c 47 && eqb 0 47) i.fresh) k.slash
token-fresh b t (c ∷ d ∷ s) rest i k = i.fresh
