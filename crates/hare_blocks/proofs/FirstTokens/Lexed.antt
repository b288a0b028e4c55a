-- The first token of a text, as the lexer finds it, is the one with which the text begins.
use Rattle.std.proofs.Common.{◌≡◌, ℕ, ◌+◌, ◌<◌, ◌^◌, List, [], ◌∷◌, ◌++◌, Option, Some, None, Bool, true, false, cond, eqb, bytes_eq, length, take, drop, get_or, refl, sym, ap, ◌∙◌, subst, arith, one-add, codes, append_assoc, ◌&&◌, ◌||◌, not}
use Rattle.std.proofs.Math.Seq.{take-append_seam, drop-append_seam}
use Rattle.std.specs.List.{prefix_len, list_all}
use Rattle.std.specs.Char.{is_ascii_digit}
use Rattle.std.specs.Str.{all_ascii_digits}
use Rattle.std.specs.Str.Parse.{digits_value}
use Rattle.std.proofs.lemmas.List.{take-append-drop}
use Rattle.std.proofs.lemmas.Option.{option_and_then_some, same_Some}
use Rattle.std.proofs.lemmas.Slice.Eq.{bytes_eq-Decides}
use Rattle.std.proofs.lemmas.Grind.{common_steps}
use Rattle.std.proofs.lemmas.Bool.Decides.{nat_tests, Decides-eqb}
use Rattle.hare_tree.specs.Words.{is_letter, is_word_byte, is_word, is_listed, keywords, is_left_out}
use Rattle.hare_blocks.proofs.FirstTokens.Scanned.{and_left, and_right, run_len, digits_in_front, number_at-append, number_of_is}
use Rattle.hare_blocks.specs.declared.token.Token.{Token}
use Rattle.hare_blocks.specs.declared.token.Token.TheVariants.{Use, Export, Function, Void, U8, Let, If, Else, For, True, Semicolon, OpenParen, CloseParen, OpenBrace, CloseBrace, Assign, Colon, PathSeparator, Plus, Minus, Star, Less, LessEqual, Greater, GreaterEqual, Equal, Differ, Number, Name, Text}
use Rattle.hare_blocks.specs.Tokens.{IsSpelling, IsLongest, goes_on, is_name, is_plain}
use Rattle.hare_blocks.specs.Lexing.{Begins, number_of, number_at, behind_byte, number_token_at, keyword, name, either, word_token, word_behind, word_token_at, text_behind, text_token_at, long_mark, mark, short_mark_at, longer, mark_at, token_at}

-- ---- a choice that answers

-- a choice answers by its first arm or by its second
choice : {A P : Type 0} (b : Bool) (x y : Option A) (r : A) → (b ≡ true → x ≡ Some r → P) → (b ≡ false → y ≡ Some r → P) →
    cond b x y ≡ Some r → P
choice true x y r f g h = f refl h
choice false x y r f g h = g refl h

-- neither test passes
or_left : (a b : Bool) → (a || b) ≡ false → a ≡ false
or_left true b h = absurd (cc)
or_left false b h = refl

-- ---- numbers: what is found

-- the digits of a number that is found: some, and below 2 ^ 64
number_of_parts : (ds : List ℕ) (n : ℕ) → number_of ds ≡ Some n → (0 < length ds) × (digits_value 10 ds ≡ n) × (n < 2 ^ 64)
number_of_parts ds n h = grind (arith, nat_tests)

-- what stands in front of the rest behind a number is its digits
record IsNumeral (s : List ℕ) (n : ℕ) (rest : List ℕ) : Type 0 where
  digits : List ℕ
  joined : s ≡ digits ++ rest
  all : all_ascii_digits digits ≡ true
  some : 0 < length digits
  is : digits_value 10 digits ≡ n
  fits : n < 2 ^ 64

-- a number that is found has a numeral in front
numeral_at : (s : List ℕ) (m : ℕ × List ℕ) → number_at s ≡ Some m → IsNumeral s m.0 m.1
unfolding number_at
numeral_at s m h = option_and_then_some _ _ m h (λ n e k.
    let parts = number_of_parts _ n e in
    let same = same_Some _ m k in
    subst (λ (x : ℕ × List ℕ). IsNumeral s x.0 x.1) same
    (record {
      digits = take (prefix_len is_ascii_digit s) s;
      joined = sym (take-append-drop _ s);
      all = digits_in_front s;
      some =
          parts.0;
      is = parts.1;
      fits = parts.2;
    }))

-- the byte that is asked for stands in front
behind_byte_is : (b : ℕ) (s rest : List ℕ) → behind_byte b s ≡ Some rest → s ≡ b ∷ rest
behind_byte_is b [] rest h = absurd (cc)
behind_byte_is b (c ∷ s) rest h = choice (eqb c b) (Some s) None rest (λ e k. rw ((Decides-eqb c b).0 e, same_Some s rest k) refl)
    (λ e k. absurd (cc)) h

-- the text begins with a number that is found
number_found : (s : List ℕ) (m : Token × List ℕ) → number_token_at s ≡ Some m → Begins s m.0 m.1
unfolding number_token_at
number_found s m h = option_and_then_some _ _ m h (λ n e k. option_and_then_some _ _ m k (λ rest f g.
    let numeral = numeral_at s n e in
    let suffix = behind_byte_is 122 n.1 rest f in
    let joined = numeral.joined ∙ ap (λ x. numeral.digits ++ x) suffix ∙ sym (append_assoc numeral.digits (122 ∷ []) rest) in
    subst (λ (x : Token × List ℕ). Begins s x.0 x.1) (same_Some _ m g)
    (record {
      spelling = numeral.digits ++ 122 ∷ [];
      spelled =
          (numeral.digits, refl, numeral.all, numeral.some, numeral.is, numeral.fits);
      longest = refl;
      joined = joined;
    })))

-- ---- words: what is found

-- behind the elements that pass stands one that does not, or the end
stops : (p : ℕ → Bool) (s : List ℕ) → p 0 ≡ false → p (get_or (drop (prefix_len p s) s) 0 0) ≡ false
stops p [] h = h
stops p (c ∷ s) h = elim (p c) as (λ b. p c ≡ b → p (get_or (drop (cond b (1 + prefix_len p s) 0) (c ∷ s)) 0 0) ≡ false)
    [ true ↦ λ e. rw one-add (stops p s h) | false ↦ λ e. e ] refl

-- the word is the token's spelling, and the token goes on where a word does
record IsWord (t : Token) (word : List ℕ) : Type 0 where
  spelled : IsSpelling t word
  goes : (c : ℕ) → goes_on t c ≡ is_word_byte c
  listed : is_listed keywords word ≡ true

-- the word is this one, or one of the others
word_case : (w word : List ℕ) (t u : Token) (others : Option Token) → IsWord t word → (others ≡ Some u → IsWord u w) →
    cond (bytes_eq w word) (Some t) others ≡ Some u → IsWord u w
word_case w word t u others is rest h = choice (bytes_eq w word) (Some t) others u
    (λ e k. rw ((bytes_eq-Decides w word).0 e, ← same_Some t u k) is) (λ e k. rest k) h

-- each keyword
keyword_is : (w : List ℕ) (u : Token) → keyword w ≡ Some u → IsWord u w
unfolding keyword
keyword_is w u h =
    word_case w (codes "use") Use u _ (record { spelled = refl; goes = λ c. refl; listed = refl }) (
    word_case w (codes "export") Export u _ (record { spelled = refl; goes = λ c. refl; listed = refl }) (
    word_case w (codes "fn") Function u _ (record { spelled = refl; goes = λ c. refl; listed = refl }) (
    word_case w (codes "void") Void u _ (record { spelled = refl; goes = λ c. refl; listed = refl }) (
    word_case w (codes "u8") U8 u _ (record { spelled = refl; goes = λ c. refl; listed = refl }) (
    word_case w (codes "let") Let u _ (record { spelled = refl; goes = λ c. refl; listed = refl }) (
    word_case w (codes "if") If u _ (record { spelled = refl; goes = λ c. refl; listed = refl }) (
    word_case w (codes "else") Else u _ (record { spelled = refl; goes = λ c. refl; listed = refl }) (
    word_case w (codes "for") For u _ (record { spelled = refl; goes = λ c. refl; listed = refl }) (
    word_case w (codes "true") True u None (record { spelled = refl; goes = λ c. refl; listed = refl }) (λ k. absurd (cc))))))))))) h

-- the token is spelled by the word, and goes on where a word does
record IsWordToken (t : Token) (word : List ℕ) : Type 0 where
  spelled : IsSpelling t word
  goes : (c : ℕ) → goes_on t c ≡ is_word_byte c

-- a name
name_is : (w : List ℕ) (u : Token) → name w ≡ Some u → IsWordToken u w
unfolding name
name_is w u h = choice (is_name w) (Some (Name w)) None u
    (λ e k. subst (λ t. IsWordToken t w) (same_Some (Name w) u k) (record { spelled = (refl, e); goes = λ c. refl })) (λ e k. absurd (cc)) h

-- a keyword or a name
word_is : (w : List ℕ) (u : Token) → word_token w ≡ Some u → IsWordToken u w
unfolding word_token
word_is w u h = by (keyword w) refl h
  where
    by : (o : Option Token) → keyword w ≡ o → either o (name w) ≡ Some u → IsWordToken u w
    by None e k = name_is w u k
    by (Some t) e k = let is = keyword_is w u (e ∙ k) in record { spelled = is.spelled; goes = is.goes }

-- the text begins with a word that is found
word_found : (s : List ℕ) (m : Token × List ℕ) → word_token_at s ≡ Some m → Begins s m.0 m.1
unfolding word_token_at
word_found s m h = option_and_then_some _ _ m h (λ t e k.
    let word = word_is _ t e in
    subst (λ (x : Token × List ℕ). Begins s x.0 x.1) (same_Some _ m k)
    (record {
      spelling = take (prefix_len is_word_byte s) s;
      spelled = word.spelled;
      longest = word.goes _ ∙ stops is_word_byte s refl;
      joined = sym (take-append-drop _ s);
    }))

-- ---- strings: what is found

-- the elements up to the first that does not pass do pass
front_passes : (p : ℕ → Bool) (s : List ℕ) → list_all p (take (prefix_len p s) s) ≡ true
front_passes p [] = refl
front_passes p (c ∷ s) = by (p c) refl (front_passes p s)
  where
    by : (b : Bool) → p c ≡ b → list_all p (take (prefix_len p s) s) ≡ true →
        list_all p (take (cond b (1 + prefix_len p s) 0) (c ∷ s)) ≡ true
    by true e h = rw one-add (rw e h)
    by false e h = refl

-- the text behind a quote begins with a string that is found
text_found : (s : List ℕ) (m : Token × List ℕ) → text_token_at s ≡ Some m → Begins (34 ∷ s) m.0 m.1
unfolding text_token_at
text_found s m h = option_and_then_some _ _ m h (λ rest e k.
    let n = prefix_len is_plain s in
    let quote = behind_byte_is 34 (drop n s) rest e in
    let joined : 34 ∷ s ≡ (34 ∷ (take n s ++ 34 ∷ [])) ++ rest =
    ap (λ x. 34 ∷ x) (sym (take-append-drop n s) ∙ ap (λ x. take n s ++ x) quote ∙ sym (append_assoc (take n s) (34 ∷ []) rest)) in
    subst (λ (x : Token × List ℕ). Begins (34 ∷ s) x.0 x.1) (same_Some _ m k)
    (record { spelling = 34 ∷ (take n s ++ 34 ∷ []); spelled = (refl, front_passes is_plain s); longest = refl; joined = joined }))

-- ---- marks: what is found

-- the byte is this mark, or one of the others
mark_case : (c d : ℕ) (t u : Token) (others : Option Token) → IsSpelling t (d ∷ []) → (others ≡ Some u → IsSpelling u (c ∷ [])) →
    cond (eqb c d) (Some t) others ≡ Some u → IsSpelling u (c ∷ [])
mark_case c d t u others is rest h = choice (eqb c d) (Some t) others u (λ e k. rw ((Decides-eqb c d).0 e, ← same_Some t u k) is)
    (λ e k. rest k) h

-- each mark of one byte
mark_is : (c : ℕ) (u : Token) → mark c ≡ Some u → IsSpelling u (c ∷ [])
unfolding mark
mark_is c u h =
    mark_case c 59 Semicolon u _ refl (
    mark_case c 40 OpenParen u _ refl (
    mark_case c 41 CloseParen u _ refl (
    mark_case c 123 OpenBrace u _ refl (
    mark_case c 125 CloseBrace u _ refl (
    mark_case c 61 Assign u _ refl (
    mark_case c 58 Colon u _ refl (
    mark_case c 43 Plus u _ refl (
    mark_case c 45 Minus u _ refl (
    mark_case c 42 Star u _ refl (
    mark_case c 60 Less u _ refl (
    mark_case c 62 Greater u None refl (λ k. absurd (cc))))))))))))) h

-- a mark that no longer token begins with
record IsLong (t : Token) (s : List ℕ) : Type 0 where
  spelled : IsSpelling t s
  ends : (x : ℕ) → goes_on t x ≡ false

-- the bytes are this mark, or one of the others
long_case : (c d x y : ℕ) (t u : Token) (others : Option Token) → IsLong t (x ∷ y ∷ []) → (others ≡ Some u → IsLong u (c ∷ d ∷ [])) →
    cond (eqb c x && eqb d y) (Some t) others ≡ Some u → IsLong u (c ∷ d ∷ [])
long_case c d x y t u others is rest h = choice (eqb c x && eqb d y) (Some t) others u
    (λ e k. rw (
      (Decides-eqb c x).0 (and_left (eqb c x) (eqb d y) e),
      (Decides-eqb d y).0 (and_right (eqb c x) (eqb d y) e),
      ← same_Some t u
          k,
    ) is) (λ e k. rest k) h

-- each mark of two bytes
long_mark_is : (c d : ℕ) (u : Token) → long_mark c d ≡ Some u → IsLong u (c ∷ d ∷ [])
unfolding long_mark
long_mark_is c d u h =
    long_case c d 58 58 PathSeparator u _ (record { spelled = refl; ends = λ x. refl }) (
    long_case c d 61 61 Equal u _ (record { spelled = refl; ends = λ x. refl }) (
    long_case c d 33 61 Differ u _ (record { spelled = refl; ends = λ x. refl }) (
    long_case c d 60 61 LessEqual u _ (record { spelled = refl; ends = λ x. refl }) (
    long_case c d 62 61 GreaterEqual u None (record { spelled = refl; ends = λ x. refl }) (λ k. absurd (cc)))))) h

-- the text begins with a mark of one byte that is found
short_found : (c : ℕ) (rest : List ℕ) (m : Token × List ℕ) → short_mark_at c rest ≡ Some m → Begins (c ∷ rest) m.0 m.1
unfolding short_mark_at
short_found c rest m h = option_and_then_some _ _ m h
    (λ t e g. choice (goes_on t (get_or rest 0 0)) None (Some (t, rest)) m (λ f k. absurd (cc))
    (λ f k. subst (λ (x : Token × List ℕ). Begins (c ∷ rest) x.0 x.1) (same_Some _ m k)
    (record { spelling = c ∷ []; spelled = mark_is c t e; longest = f; joined = refl })) g)

-- the text begins with a mark that is found
mark_found : (c : ℕ) (rest : List ℕ) (m : Token × List ℕ) → mark_at c rest ≡ Some m → Begins (c ∷ rest) m.0 m.1
unfolding mark_at
mark_found c [] m h = short_found c [] m h
mark_found c (d ∷ rest) m h = by (long_mark c d) refl h
  where
    by : (o : Option Token) → long_mark c d ≡ o → longer o c d rest ≡ Some m → Begins (c ∷ d ∷ rest) m.0 m.1
    by None e k = short_found c (d ∷ rest) m k
    by (Some t) e k =
        let is = long_mark_is c d t e in
        subst (λ (x : Token × List ℕ). Begins (c ∷ d ∷ rest) x.0 x.1) (same_Some _ m k)
        (record { spelling = c ∷ d ∷ []; spelled = is.spelled; longest = is.ends (get_or rest 0 0); joined = refl })

-- the text begins with the token that is found
pub token_found : (s : List ℕ) (m : Token × List ℕ) → token_at s ≡ Some m → Begins s m.0 m.1
unfolding token_at
token_found [] m h = absurd (cc)
token_found (c ∷ s) m h =
    choice (is_ascii_digit c) (number_token_at (c ∷ s)) _ m (λ e k. number_found (c ∷ s) m k) (λ e k.
    choice (is_letter c) (word_token_at (c ∷ s)) _ m (λ f g. word_found (c ∷ s) m g) (λ f g.
    choice (eqb c 34) (text_token_at s) (mark_at c s) m (λ q l. rw ((Decides-eqb c 34).0 q) (text_found s m l)) (λ q l. mark_found c s m l)
    g) k) h

-- ---- the token with which a text begins is found

-- no word goes on in front of a byte of none
word_stops : (rest : List ℕ) → is_word_byte (get_or rest 0 0) ≡ false → prefix_len is_word_byte rest ≡ 0
word_stops [] h = refl
word_stops (c ∷ rest) h = rw h refl

-- a word in front is found
word_first : (w rest : List ℕ) (t : Token) → prefix_len is_word_byte w ≡ length w → is_word_byte (get_or rest 0 0) ≡ false →
    word_token w ≡ Some t → word_token_at (w ++ rest) ≡ Some (t, rest)
unfolding word_token_at
word_first w rest t all stop e = ap (λ k. word_behind k (w ++ rest)) (run_len is_word_byte w rest all (word_stops rest stop)) ∙ rw
    (take-append_seam w rest, drop-append_seam w rest, e) refl

-- all of the elements pass
pub all_pass : (p : ℕ → Bool) (s : List ℕ) → list_all p s ≡ true → prefix_len p s ≡ length s
all_pass p [] h = refl
all_pass p (c ∷ s) h =
    let here : p c ≡ true = and_left _ _ h in
    let more = all_pass p s (and_right _ _ h) in
    rw (here, more) (one-add (length s))

-- a name is no keyword
name_no_keyword : (w : List ℕ) → is_name w ≡ true → keyword w ≡ None
name_no_keyword w h = by (keyword w) refl
  where
    by : (o : Option Token) → keyword w ≡ o → o ≡ None
    by None e = refl
    by (Some t) e =
        let is = keyword_is w t e in
        let others = and_right (is_word w) (not (is_listed keywords w) && not (is_left_out false w)) h in
        let free : not (is_listed keywords w) ≡ true = and_left (not (is_listed keywords w)) (not (is_left_out false w)) others in
        let listed = ap not is.listed in
        absurd cc

-- a letter is no digit
pub letter_no_digit : (c : ℕ) → is_letter c ≡ true → is_ascii_digit c ≡ false
letter_no_digit c h = grind (arith, nat_tests, common_steps)

letter_in_word : (c : ℕ) → is_letter c ≡ true → is_word_byte c ≡ true
letter_in_word c h = rw h refl

-- the token of a name
name_token : (w : List ℕ) → is_name w ≡ true → word_token w ≡ Some (Name w)
unfolding word_token name
name_token w h = rw (name_no_keyword w h, h) refl

-- a name in front is found
name_first : (w rest : List ℕ) → is_name w ≡ true → is_word_byte (get_or rest 0 0) ≡ false → token_at (w ++ rest) ≡ Some (Name w, rest)
unfolding token_at
name_first [] rest h stop = absurd (cc)
name_first (c ∷ w) rest h stop =
    let word : (is_letter c && list_all is_word_byte w) ≡ true =
    and_left (is_word (c ∷ w)) (not (is_listed keywords (c ∷ w)) && not (is_left_out false (c ∷ w))) h in
    let letter : is_letter c ≡ true = and_left (is_letter c) (list_all is_word_byte w) word in
    let others : list_all is_word_byte w ≡ true = and_right (is_letter c) (list_all is_word_byte w) word in
    let all : list_all is_word_byte (c ∷ w) ≡ true = rw (letter_in_word c letter, others) refl in
    rw (letter_no_digit c letter, letter) (word_first (c ∷ w) rest (Name (c ∷ w)) (all_pass is_word_byte (c ∷ w) all) stop
    (name_token (c ∷ w) h))

-- a string behind its quote is found
text_first : (text rest : List ℕ) → list_all is_plain text ≡ true → text_token_at (text ++ 34 ∷ rest) ≡ Some (Text text, rest)
unfolding text_token_at
text_first text rest h = ap (λ k. text_behind k (text ++ 34 ∷ rest)) (run_len is_plain text (34 ∷ rest) (all_pass is_plain text h) refl) ∙
    rw (take-append_seam text (34 ∷ rest), drop-append_seam text (34 ∷ rest)) refl

-- a number in front is found
number_first : (ds rest : List ℕ) → all_ascii_digits ds ≡ true → 0 < length ds → digits_value 10 ds < 2 ^ 64 →
    token_at (ds ++ 122 ∷ rest) ≡ Some (Number (digits_value 10 ds), rest)
unfolding token_at number_token_at
number_first [] rest h n v = absurd (omega arith)
number_first (d ∷ ds) rest h n v =
    let digit : is_ascii_digit d ≡ true = and_left _ _ h in
    let number = number_at-append (d ∷ ds) (122 ∷ rest) _ h refl (number_of_is (d ∷ ds) n v) in
    rw (digit, number) refl

-- a mark of one byte is found, where no mark of two begins with it there
short_first : (t : Token) (c : ℕ) (rest : List ℕ) → mark c ≡ Some t → goes_on t (get_or rest 0 0) ≡ false →
    ((d : ℕ) → goes_on t d ≡ false → long_mark c d ≡ None) → mark_at c rest ≡ Some (t, rest)
unfolding mark_at short_mark_at
short_first t c [] e l alone = rw (e, l) refl
short_first t c (d ∷ rest) e l alone = rw (alone d l, e, l) refl

-- each token in front is found
token_first : (t : Token) (s rest : List ℕ) → IsSpelling t s → IsLongest t rest → token_at (s ++ rest) ≡ Some (t, rest)
unfolding token_at word_token keyword mark_at mark long_mark
token_first Use s rest e l = rw e (word_first (codes "use") rest Use refl l refl)
token_first Export s rest e l = rw e (word_first (codes "export") rest Export refl l refl)
token_first Function s rest e l = rw e (word_first (codes "fn") rest Function refl l refl)
token_first Void s rest e l = rw e (word_first (codes "void") rest Void refl l refl)
token_first U8 s rest e l = rw e (word_first (codes "u8") rest U8 refl l refl)
token_first Let s rest e l = rw e (word_first (codes "let") rest Let refl l refl)
token_first If s rest e l = rw e (word_first (codes "if") rest If refl l refl)
token_first Else s rest e l = rw e (word_first (codes "else") rest Else refl l refl)
token_first For s rest e l = rw e (word_first (codes "for") rest For refl l refl)
token_first True s rest e l = rw e (word_first (codes "true") rest True refl l refl)
token_first Semicolon s rest e l = rw e (short_first Semicolon 59 rest refl l (λ d h. refl))
token_first OpenParen s rest e l = rw e (short_first OpenParen 40 rest refl l (λ d h. refl))
token_first CloseParen s rest e l = rw e (short_first CloseParen 41 rest refl l (λ d h. refl))
token_first OpenBrace s rest e l = rw e (short_first OpenBrace 123 rest refl l (λ d h. refl))
token_first CloseBrace s rest e l = rw e (short_first CloseBrace 125 rest refl l (λ d h. refl))
token_first Assign s rest e l = rw e (short_first Assign 61 rest refl l (λ d h. rw (or_left (eqb d 61) (eqb d 62) h) refl))
token_first Colon s rest e l = rw e (short_first Colon 58 rest refl l (λ d h. rw h refl))
token_first Plus s rest e l = rw e (short_first Plus 43 rest refl l (λ d h. refl))
token_first Minus s rest e l = rw e (short_first Minus 45 rest refl l (λ d h. refl))
token_first Star s rest e l = rw e (short_first Star 42 rest refl l (λ d h. refl))
token_first Less s rest e l = rw e (short_first Less 60 rest refl l (λ d h. rw (or_left (eqb d 61) (eqb d 60) h) refl))
token_first Greater s rest e l = rw e (short_first Greater 62 rest refl l (λ d h. rw (or_left (eqb d 61) (eqb d 62) h) refl))
token_first PathSeparator s rest e l = rw e refl
token_first Equal s rest e l = rw e refl
token_first Differ s rest e l = rw e refl
token_first LessEqual s rest e l = rw e refl
token_first GreaterEqual s rest e l = rw e refl
token_first (Number n) s rest e l = rw (e.1, append_assoc e.0 (122 ∷ []) rest, ← e.4) (number_first e.0 rest e.2 e.3 (rw e.4 e.5))
token_first (Name w) s rest e l = rw e.0 (name_first w rest e.1 l)
token_first (Text text) s rest e l = rw (e.0, append_assoc text (34 ∷ []) rest) (text_first text rest e.1)

-- the token with which the text begins is the one that is found
pub token_only : (s : List ℕ) (t : Token) (rest : List ℕ) → Begins s t rest → token_at s ≡ Some (t, rest)
token_only s t rest b = ap token_at b.joined ∙ token_first t b.spelling rest b.spelled b.longest
