-- The string or rune that is found at the front of a text stands there.
use Rattle.std.proofs.Common.{◌≡◌, ℕ, suc, ◌+◌, ◌-◌, ◌<◌, ◌^◌, List, [], ◌∷◌, ◌++◌, Option, Some, None, Bool, true, false, not, eqb, length, take, refl, sym, ap, ◌∙◌, arith, subst, inl, inr, ◌⊎◌, append_assoc, length-append, append-nil}
use Rattle.std.proofs.Math.Logic.{⊎_elim}
use Rattle.std.proofs.Math.Seq.{take-append_seam}
use Rattle.std.specs.List.{list_all, AllByRecursion}
use Rattle.std.specs.Char.{is_ascii_digit}
use Rattle.hare_tree.specs.declared.token.TokenKind.{TokenKind}
use Rattle.hare_tree.specs.declared.token.TokenKind.TheVariants.{Name, Keyword, Number, Str, RuneLit, Mark, End}
use Rattle.hare_tree.specs.declared.token.Suffix.{Suffix}
use Rattle.hare_tree.specs.declared.token.Suffix.TheVariants as suffix
use Rattle.hare_tree.specs.Words.{is_letter}
use Rattle.hare_tree.specs.Spelling.{IsSpellingOf, IsQuoted, IsRaw, IsRune, IsPart, spelled}
use Rattle.hare_tree.specs.Tokens.{Break, holds, is_quote}
use Rattle.hare_lex.specs.declared.front.Found.{Found}
use Rattle.hare_lex.specs.declared.front.Found.TheVariants as found
use Rattle.hare_lex.specs.Lexing.{text_of, string_text, inner, unescaped, bad_escape, closing, one, string_end, rune_end, longest}
use Rattle.hare_lex.proofs.Fronts.Firsts.{is_first}
use Rattle.hare_lex.proofs.Literals.Quotes.{closing_found, closing_holds, closing_none, raw_holds, holds_raw}
use Rattle.hare_lex.proofs.Literals.Strings.{good_parts, bad_parts, parts_hold}
use Rattle.hare_lex.proofs.Literals.Escapes.{no_escape}
use Rattle.hare_lex.proofs.Literals.Runes.{one_holds, one_stands, one_some, one_small}
use Rattle.hare_lex.specs.Fronts.{Standing, Sound}
use Rattle.hare_lex.proofs.Fronts.Standing.{not_left_out, no_fraction, standing, fits_by, nothing_small}

-- ---- literals

-- the content of a literal is what stands before its closing quote
pub lit_take : (q : ℕ) (content rest : List ℕ) (s : List ℕ) → s ≡ content ++ q ∷ rest → take (length content) s ≡ content
lit_take q content rest s e = ap (take (length content)) e ∙ take-append_seam content (q ∷ rest)

-- a literal and the rest make up the text
pub lit_split : (q : ℕ) (s content rest : List ℕ) → s ≡ content ++ q ∷ rest → q ∷ s ≡ (q ∷ (content ++ q ∷ [])) ++ rest
lit_split q s content rest e = ap (λ l. q ∷ l) (e ∙ sym (append_assoc content (q ∷ []) rest))

-- a literal has two bytes more than its content
lit_len : (q : ℕ) (content : List ℕ) → length (q ∷ (content ++ q ∷ [])) ≡ length content + 2
lit_len q content = omega (arith, length-append content (q ∷ []))

-- a literal of this quote at the front ends at the quote that is found
pub lit_longest : (q : ℕ) (s c v more : List ℕ) (n : ℕ) → closing q false 0 s ≡ Some n → q ∷ s ≡ v ++ more → v ≡ q ∷ (c ++ q ∷ []) →
    holds q false c ≡ true → length v ≡ n + 2
lit_longest q s c v more n f e k h =
    let whole : q ∷ s ≡ q ∷ ((c ++ q ∷ []) ++ more) = e ∙ ap (λ l. l ++ more) k in
    let tail : s ≡ c ++ q ∷ more = lit_tail s ((c ++ q ∷ []) ++ more) q whole ∙ append_assoc c (q ∷ []) more in
    let found : closing q false 0 s ≡ Some (0 + length c) = ap (closing q false 0) tail ∙ closing_holds q false 0 c more h in
    let same : n ≡ 0 + length c = some_same n (0 + length c) (sym f ∙ found) in
    omega (arith, same, ap length k, lit_len q c)
  where
    lit_tail : (a b : List ℕ) (q : ℕ) → q ∷ a ≡ q ∷ b → a ≡ b
    lit_tail a b q e = cc

    some_same : (a b : ℕ) → Some a ≡ Some b → a ≡ b
    some_same a b e = cc

-- between the quotes of a literal stands its content
pub inner_is : (q : ℕ) (content : List ℕ) → inner (q ∷ (content ++ q ∷ [])) ≡ content
inner_is q content =
    let n : suc (length (content ++ q ∷ [])) - 2 ≡ length content = omega (arith, length-append content (q ∷ [])) in
    ap (λ k. take k (content ++ q ∷ [])) n ∙ take-append_seam content (q ∷ [])

-- a literal: its content between two quotes
abbrev pub lit : ℕ → List ℕ → List ℕ
lit q content = q ∷ (content ++ q ∷ [])

-- a literal stands at the front where each token that begins so is as long
lit_stands : (b : Bool) (q : ℕ) (k : TokenKind) (s content rest : List ℕ) (n m : ℕ) (x : Suffix) → is_letter q ≡ false →
    is_ascii_digit q ≡ false → s ≡ content ++ q ∷ rest → n ≡ length content → m < 2 ^ 127 →
    IsSpellingOf k (text_of k (lit q content)) m x (lit q content) →
    ((j : TokenKind) (text : List ℕ) (i : ℕ) (y : Suffix) (v more : List ℕ) → q ∷ s ≡ v ++ more → IsSpellingOf j text i y v →
    is_first j q ≡ true → length v ≡ n + 2) → Standing b (q ∷ s) k (n + 2) m x
lit_stands b q k s content rest n m x l d e len small spells longest =
    standing b k (q ∷ s) (lit q content) rest m x (n + 2) (lit_split q s content rest e) (omega (arith, lit_len q content, len))
    (λ p. fits_by k p (q ∷ s) (lit q content) rest m x (lit_split q s content rest e) spells
    (λ j text i y v more g h f. let same = longest j text i y v more g h f in omega (arith, same, lit_len q content, len)))
    (not_left_out b (lit q content) l) small (no_fraction (q ∷ s) d)

-- a quote without its closing one is a fault
unclosed : (b : Bool) (q : ℕ) (s : List ℕ) → is_quote q ≡ true → closing q false 0 s ≡ None → Break b (q ∷ s) 6 0
unclosed b q s h f = inr (inr (inl (
  refl,
  refl,
  record { quote = q; behind = s; text_is = refl; quotes = h; open_on = λ content rest e k. closing_none q s content rest f e k },
)))

-- ---- strings

-- what begins with a double quote is a string
pub quote_kind : (k : TokenKind) → is_first k 34 ≡ true → k ≡ Str
quote_kind Str f = refl
quote_kind Name f = absurd (cc)
quote_kind Keyword f = absurd (cc)
quote_kind Number f = absurd (cc)
quote_kind RuneLit f = absurd (cc)
quote_kind Mark f = absurd (cc)
quote_kind End f = absurd (cc)

-- what begins with a backtick is a string
pub raw_kind : (k : TokenKind) → is_first k 96 ≡ true → k ≡ Str
raw_kind Str f = refl
raw_kind Name f = absurd (cc)
raw_kind Keyword f = absurd (cc)
raw_kind Number f = absurd (cc)
raw_kind RuneLit f = absurd (cc)
raw_kind Mark f = absurd (cc)
raw_kind End f = absurd (cc)

-- the spelling of a string is quoted or raw
pub str_is : (j : TokenKind) (text : List ℕ) (m : ℕ) (y : Suffix) (v : List ℕ) → j ≡ Str → IsSpellingOf j text m y v →
    IsQuoted text v ⊎ IsRaw text v
str_is Str text m y v j h = h.2
str_is Name text m y v j h = absurd (cc)
str_is Keyword text m y v j h = absurd (cc)
str_is Number text m y v j h = absurd (cc)
str_is RuneLit text m y v j h = absurd (cc)
str_is Mark text m y v j h = absurd (cc)
str_is End text m y v j h = absurd h

-- a text has one first byte
pub other_first : (a b : ℕ) (s v more t : List ℕ) → a ∷ s ≡ v ++ more → v ≡ b ∷ t → a ≡ b
other_first a b s v more t e k = let whole : a ∷ s ≡ b ∷ (t ++ more) = e ∙ ap (λ l. l ++ more) k in cc

-- no part of a string closes it
pub quoted_holds : (ps : List (List ℕ × List ℕ)) → AllByRecursion IsPart ps → holds 34 false (spelled ps) ≡ true
quoted_holds ps h = ap (holds 34 false) (sym (append-nil (spelled ps))) ∙ parts_hold ps [] h

-- a string at a double quote ends at the quote that is found
string_longest : (s text v more : List ℕ) (n : ℕ) → closing 34 false 0 s ≡ Some n → 34 ∷ s ≡ v ++ more → IsQuoted text v ⊎ IsRaw text v →
    length v ≡ n + 2
string_longest s text v more n f e h = ⊎_elim
    (λ a. lit_longest 34 s (spelled a.parts) v more n f e a.spelled_by (quoted_holds a.parts a.each))
    (λ a. let no : 34 ≡ 96 = other_first 34 96 s v more (text ++ 96 ∷ []) e a.spelled_by in absurd (omega (arith, no)))
    h

-- a string at a backtick ends at the backtick that is found
raw_longest : (s text v more : List ℕ) (n : ℕ) → closing 96 false 0 s ≡ Some n → 96 ∷ s ≡ v ++ more → IsQuoted text v ⊎ IsRaw text v →
    length v ≡ n + 2
raw_longest s text v more n f e h = ⊎_elim
    (λ a. let no : 96 ≡ 34 = other_first 96 34 s v more (spelled a.parts ++ 34 ∷ []) e a.spelled_by in absurd (omega (arith, no)))
    (λ a. lit_longest 96 s text v more n f e a.spelled_by (raw_holds text a.each))
    h

-- a quoted string decodes to its content with each escape replaced
pub string_text_is : (content : List ℕ) → string_text (lit 34 content) ≡ unescaped 0 content
string_text_is content = ap (unescaped 0) (inner_is 34 content)

-- a raw string decodes to its content
pub raw_text_is : (content : List ℕ) → string_text (lit 96 content) ≡ content
raw_text_is content = inner_is 96 content

-- a closed string stands at the front, or its first wrong escape is a fault
string_at : (b : Bool) (s content rest : List ℕ) (n : ℕ) (o : Option ℕ) → closing 34 false 0 s ≡ Some n → s ≡ content ++ 34 ∷ rest →
    n ≡ length content → holds 34 false content ≡ true → bad_escape 0 content ≡ o → Sound b (34 ∷ s) (string_end n o)
string_at b s content rest n None f e len inside bad =
    let parts = good_parts 0 content bad inside in
    lit_stands b 34 Str s content rest n 0 suffix.None refl refl e len nothing_small (
      refl,
      refl,
      inl (record {
        parts = parts.parts;
        each = parts.each;
        spelled_by = ap (λ l. 34 ∷ (l ++ 34 ∷ [])) parts.spelled_by;
        decoded_is = string_text_is content ∙ parts.decoded_is;
      }),
    )
    (λ j text i y v more g h k. string_longest s text v more n f g (str_is j text i y v (quote_kind j k) h))
string_at b s content rest n (Some left) f e len inside bad =
    let parts = bad_parts 0 content left bad inside in
    let total = ap length parts.split ∙ length-append (spelled parts.parts) (92 ∷ parts.bad) in
    let offset : 1 + (n - left) ≡ 1 + length (spelled parts.parts) = omega (arith, len, total, parts.left_is) in
    inr (inl (
      refl,
      inl (record {
        parts = parts.parts;
        content = content;
        rest = rest;
        bad = parts.bad;
        text_is = ap (λ l. 34 ∷ l) e;
        closes = inside;
        content_is = parts.split;
        good = parts.each;
        none = λ g more v h k. no_escape parts.bad g more v parts.none h k;
        offset_is = offset;
      }),
    ))

-- what is found at a double quote is right
pub string_sound : (b : Bool) (s : List ℕ) (o : Option ℕ) → closing 34 false 0 s ≡ o →
    Sound b (34 ∷ s) (elim o as (λ _. Found) [ None ↦ found.Fault 6 0 | Some len ↦ string_end len (bad_escape 0 (take len s)) ])
string_sound b s None f = unclosed b 34 s refl f
string_sound b s (Some n) f =
    let c = closing_found 34 false 0 s n f in
    let len : n ≡ length c.content = omega (arith, c.len) in
    let same : take n s ≡ c.content = ap (λ k. take k s) len ∙ lit_take 34 c.content c.rest s c.split in
    subst (λ (l : List ℕ). Sound b (34 ∷ s) (string_end n (bad_escape 0 l))) (sym same)
    (string_at b s c.content c.rest n _ f c.split len c.inside refl)

-- what is found at a backtick is right
pub raw_sound : (b : Bool) (s : List ℕ) (o : Option ℕ) → closing 96 false 0 s ≡ o →
    Sound b (96 ∷ s) (elim o as (λ _. Found) [ None ↦ found.Fault 6 0 | Some len ↦ found.Token Str (len + 2) 0 suffix.None ])
raw_sound b s None f = unclosed b 96 s refl f
raw_sound b s (Some n) f =
    let c = closing_found 96 false 0 s n f in
    let len : n ≡ length c.content = omega (arith, c.len) in
    let text = raw_text_is c.content in
    lit_stands b 96 Str s c.content c.rest n 0 suffix.None refl refl c.split len nothing_small (
      refl,
      refl,
      inr (record {
        spelled_by = ap (λ l. 96 ∷ (l ++ 96 ∷ [])) (sym text);
        each = ap (list_all (λ q. not (eqb q 96))) text ∙
            holds_raw c.content c.inside;
      }),
    )
    (λ j text i y v more g h k. raw_longest s text v more n f g (str_is j text i y v (raw_kind j k) h))

-- ---- runes

-- what begins with a single quote is a rune
pub rune_kind : (k : TokenKind) → is_first k 39 ≡ true → k ≡ RuneLit
rune_kind RuneLit f = refl
rune_kind Name f = absurd (cc)
rune_kind Keyword f = absurd (cc)
rune_kind Number f = absurd (cc)
rune_kind Str f = absurd (cc)
rune_kind Mark f = absurd (cc)
rune_kind End f = absurd (cc)

-- the spelling of a rune is that of its value
pub rune_is : (j : TokenKind) (text : List ℕ) (m : ℕ) (y : Suffix) (v : List ℕ) → j ≡ RuneLit → IsSpellingOf j text m y v → IsRune m v
rune_is RuneLit text m y v j h = h.2
rune_is Name text m y v j h = absurd (cc)
rune_is Keyword text m y v j h = absurd (cc)
rune_is Number text m y v j h = absurd (cc)
rune_is Str text m y v j h = absurd (cc)
rune_is Mark text m y v j h = absurd (cc)
rune_is End text m y v j h = absurd h

-- a closed rune stands at the front, or is a fault
rune_at : (b : Bool) (s content rest : List ℕ) (n : ℕ) (o : Option ℕ) → closing 39 false 0 s ≡ Some n → s ≡ content ++ 39 ∷ rest →
    n ≡ length content → holds 39 false content ≡ true → one content ≡ o → Sound b (39 ∷ s) (rune_end n content o)
rune_at b s content rest n None f e len inside unread =
    inr (inl (
      refl,
      inr (record {
        content = content;
        rest = rest;
        text_is = ap (λ l. 39 ∷ l) e;
        closes = inside;
        not_one = λ v k. none_some v (sym unread ∙ one_stands content v k);
        offset_is = refl;
      }),
    ))
  where
    none_some : (v : ℕ) → None ≡ Some v → ⊥
    none_some v h = cc
rune_at b s content rest n (Some v) f e len inside read =
    let is = one_some content v read inside in
    lit_stands b 39 RuneLit s content rest n v suffix.None refl refl e len (one_small content v is)
    (refl, refl, record { content = content; one = is; spelled_by = refl })
    (λ j text i y w more g h k. let r = rune_is j text i y w (rune_kind j k) h in lit_longest 39 s r.content w more n f g r.spelled_by
    (one_holds r.content i r.one))

-- what is found at a single quote is right
pub rune_sound : (b : Bool) (s : List ℕ) (o : Option ℕ) → closing 39 false 0 s ≡ o →
    Sound b (39 ∷ s) (elim o as (λ _. Found) [ None ↦ found.Fault 6 0 | Some len ↦ rune_end len (take len s) (one (take len s)) ])
rune_sound b s None f = unclosed b 39 s refl f
rune_sound b s (Some n) f =
    let c = closing_found 39 false 0 s n f in
    let len : n ≡ length c.content = omega (arith, c.len) in
    let same : take n s ≡ c.content = ap (λ k. take k s) len ∙ lit_take 39 c.content c.rest s c.split in
    subst (λ (l : List ℕ). Sound b (39 ∷ s) (rune_end n l (one l))) (sym same)
    (rune_at b s c.content c.rest n _ f c.split len c.inside refl)
