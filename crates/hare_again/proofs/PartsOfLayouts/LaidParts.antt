-- A layout consists of parts, each of whose tokens stands in front of all that is behind it.
use Rattle.std.proofs.Common.{◌≡◌, ℕ, ◌+◌, ◌<◌, List, [], ◌∷◌, ◌++◌, ◌⊎◌, inl, inr, Bool, true, false, ◌&&◌, ◌||◌, not, eqb, get_or, length, take, drop, map, codes, refl, sym, ap, ◌∙◌, subst, arith, append_assoc, if◌then◌else◌}
use Rattle.std.proofs.Math.Logic.{⊎_elim}
use Rattle.std.specs.Prelude.{bytes_eq}
use Rattle.std.specs.List.{list_all}
use Rattle.std.specs.Char.{is_ascii_digit}
use Rattle.hare_tree.specs.declared.token.TokenKind.TheVariants as tk
use Rattle.hare_tree.specs.declared.token.Token.{Token}
use Rattle.hare_tree.specs.declared.form.Sign.TheVariants as si
use Rattle.hare_tree.specs.Spell.{sign_token}
use Rattle.hare_tree.specs.Words.{is_letter, is_word_byte, is_listed, is_not_feed, marks}
use Rattle.hare_tree.specs.Spelling.{IsSpelling, IsSpellingOf}
use Rattle.hare_tree.specs.Tokens.{ends_line, is_path_mark}
use Rattle.hare_lex.proofs.Fronts.Lists.{listed_case}
use Rattle.hare_lex.proofs.Fronts.Firsts.{is_first, is_other, first_of_kind, all_listed}
use Rattle.std.proofs.lemmas.Bool.Decides.{nat_tests}
use Rattle.hare_lex.proofs.Fronts.Standing.{not_left_out, nothing_small}
use Rattle.hare_lex.proofs.Sound.Marks.{mark_listed, no_other_kind}
use Rattle.hare_ways.specs.declared.way.Start.{Start}
use Rattle.hare_ways.specs.declared.way.Start.TheVariants.{Within, Begins, Outdented}
use Rattle.hare_ways.specs.declared.way.Way.{Way}
use Rattle.hare_commas.specs.Commas.{IsPlainMark, asks, comma_tokens}
use Rattle.hare_lines.specs.declared.way.Feeds.{Feeds}
use Rattle.hare_lines.specs.declared.way.Feeds.TheVariants.{Same, Next, Empty}
use Rattle.hare_lines.specs.declared.way.Before.{Before}
use Rattle.hare_lines.specs.declared.way.Before.TheVariants.{Nothing, Opening, Remark, Other}
use Rattle.hare_lines.specs.declared.way.Gap.{Gap}
use Rattle.hare_lines.specs.declared.way.Gap.TheVariants.{First, Join, Blank, Line}
use Rattle.hare_lines.specs.Read.{Seen, is_string, trimmed}
use Rattle.hare_lines.specs.Gaps.{Behind, Placed, placed, next_way, next_is_string, without_comma, lengthened, are_digits, grows, joins, within_line, is_empty, line, comment_gap, comment_tabs, tabs_of, extra_tab, start_gap, before_gap, token_gap, gap_of, is_opening, previous_of, behind_token, behind_comment, behind_comma, behind_piece, behind_added, comma_of, laid}
use Rattle.hare_lines.specs.Layout.{gap_bytes, laid_bytes, read_again}
use Rattle.hare_again.specs.Again.{comma_seen, laid_seen}
use Rattle.hare_again.specs.Reading.{Part, text_of, AreParts, read_of}
use Rattle.hare_again.proofs.LaidAsBefore.Alike.{comma-kept}
use Rattle.hare_again.proofs.PartsOfLayouts.Gaps.{gaps-are-read}
use Rattle.hare_again.proofs.LaidAsBefore.PiecesAgain.{seen_as, way_here}
use Rattle.hare_again.proofs.PartsOfLayouts.Standing.{IsToken, IsClear, token-stands, token-fresh, other-no-word}

true-false : {A : Type 0} → true ≡ false → A
true-false h = cc

false-true : {A : Type 0} → false ≡ true → A
false-true h = cc

-- ---- the parts of a layout

abbrev pub comma_part : Bool → List Part
comma_part true = record { blank = []; body = codes ","; comment = false } ∷ []
comma_part false = []

abbrev pub part_at : Behind → Placed → Part
part_at b p = record { blank = gap_bytes (gap_of b p); body = p.piece.body; comment = p.piece.comment }

abbrev pub parts_laid : Behind → List Placed → List Part
parts_laid b [] = []
parts_laid b (p ∷ ps) =
    comma_part p.way.comma
    ++ part_at (behind_added p.way.comma b) p ∷ parts_laid (behind_piece (behind_added p.way.comma b) p) ps

-- the tokens of pieces, with the commas that are added
abbrev pub tokens_laid : List Placed → List Token → List Token
tokens_laid [] ts = ts
tokens_laid (p ∷ ps) ts =
    comma_tokens p.way.comma ++ (if p.piece.comment then tokens_laid ps ts else take 1 ts ++ tokens_laid ps (drop 1 ts))

-- the pieces behind one, with their ways
abbrev pub placed_behind : Bool → ℕ → List Way → Seen → List Seen → List Placed
placed_behind joined d ws x xs =
    if x.comment then placed joined d (if joined then ws else without_comma ws) xs
    else placed (is_string x && next_is_string xs) (way_here joined d ws).depth (if joined then ws else drop 1 ws) xs

abbrev pub placed_at : Bool → ℕ → List Way → Seen → Placed
placed_at joined d ws x = record { piece = x; way = way_here joined d ws }

-- a laid out text ends its last line
abbrev pub end_of_text : List ℕ
end_of_text = 10 ∷ []

-- ---- what is read of a source

-- a comment, without blanks at its end
abbrev pub IsRemark : List ℕ → Type 0
IsRemark s = (body : List ℕ) × (s ≡ codes "//" ++ body) × (list_all is_not_feed body ≡ true) × (trimmed s ≡ s)

-- where a comma is added in front of the next token, or a blank is left out beside it, it is a mark
abbrev pub FitsNext : Bool → List Way → List Token → Type 0
FitsNext joined ws ts =
    joined ≡ false → asks (next_way ws) ≡ true → (t : Token) (more : List Token) → ts ≡ t ∷ more → IsPlainMark t

-- the ways behind a comment, and behind a token
abbrev pub ways_behind : Bool → Bool → List Way → List Way
ways_behind comment joined ws = if comment then (if joined then ws else without_comma ws) else (if joined then ws else drop 1 ws)

-- pieces with these ways are comments and these tokens
abbrev pub AreRead : Bool → Bool → List Way → List Seen → List Token → Type 0
AreRead b joined ws [] ts = (ts ≡ []) × (joined ≡ false → (next_way ws).comma ≡ false)
AreRead b joined ws (x ∷ xs) ts =
    FitsNext joined ws ts
    × (((x.comment ≡ true) × IsRemark x.body × AreRead b joined (ways_behind true joined ws) xs ts)
    ⊎ ((t : Token) × (more : List Token) × (x.comment ≡ false) × (ts ≡ t ∷ more) × IsToken b t x.body
    × AreRead (is_path_mark t.kind t.text) (is_string x && next_is_string xs) (ways_behind false joined ws) xs more))

-- ---- gaps behind a token

abbrev HasToken : Before → Type 0
HasToken Nothing = ⊥
HasToken Opening = Unit {0}
HasToken Remark = ⊥
HasToken Other = Unit {0}

-- a blank or a line end
abbrev Spaced : Gap → Type 0
Spaced First = ⊥
Spaced Join = ⊥
Spaced Blank = Unit {0}
Spaced (Line e n) = Unit {0}

-- the gap is a blank or a line end, or the piece is joined, and leaves the tokens that they are
abbrev TokenGap : Behind → Way → List ℕ → Gap → Type 0
TokenGap c w body g = Spaced g ⊎ ((g ≡ Join) × ((c.joins || w.joins_before) ≡ true) × (grows c.last c.previous body ≡ false))

line-spaced : (b : Before) (f : Feeds) (n : ℕ) → HasToken b → Spaced (line b f n)
line-spaced Nothing f n h = h
line-spaced Opening f n h = tt
line-spaced Remark f n h = tt
line-spaced Other f n h = tt

comment-spaced : (b : Before) (f : Feeds) (n : ℕ) → HasToken b → Spaced (comment_gap b f n)
comment-spaced Nothing f n h = h
comment-spaced Remark f n h = absurd h
comment-spaced Opening Same n h = tt
comment-spaced Opening Next n h = tt
comment-spaced Opening Empty n h = tt
comment-spaced Other Same n h = tt
comment-spaced Other Next n h = tt
comment-spaced Other Empty n h = tt

joined-parts : (x y : Bool) → (x && not y) ≡ true → (x ≡ true) × (y ≡ false)
joined-parts true true e = false-true e
joined-parts true false e = (refl, refl)
joined-parts false y e = false-true e

within-gap : (c : Behind) (w : Way) (body : List ℕ) (x : Bool) → joins c w body ≡ x → TokenGap c w body (within_line x)
within-gap c w body true e =
    let a = joined-parts (c.joins || w.joins_before) (grows c.last c.previous body) e in
    inr (refl, a.0, a.1)
within-gap c w body false e = inl tt

start-spaced : (c : Behind) (w : Way) (f : Feeds) (body : List ℕ) (s : Start) → HasToken c.before →
    TokenGap c w body (start_gap c w f body s)
start-spaced c w f body Within h = within-gap c w body (joins c w body) refl
start-spaced c w f body Begins h = inl (line-spaced c.before f (tabs_of w) h)
start-spaced c w f body Outdented h = inl (line-spaced c.before f (tabs_of w) h)

before-spaced : (c : Behind) (w : Way) (f : Feeds) (body : List ℕ) (b : Before) → HasToken b → HasToken c.before
    → TokenGap c w body (before_gap c w f body b)
before-spaced c w f body Nothing h k = absurd h
before-spaced c w f body Remark h k = absurd h
before-spaced c w f body Opening h k = start-spaced c w f body w.start k
before-spaced c w f body Other h k = start-spaced c w f body w.start k

-- ---- first bytes

-- a blank, a line end or a comma
abbrev IsMild : ℕ → Type 0
IsMild c = (c ≡ 32) ⊎ ((c ≡ 10) ⊎ (c ≡ 44))

spaced-first : (g : Gap) (s : List ℕ) → Spaced g → IsMild (get_or (gap_bytes g ++ s) 0 0)
spaced-first First s h = absurd h
spaced-first Join s h = absurd h
spaced-first Blank s h = inl refl
spaced-first (Line true n) s h = inr (inl refl)
spaced-first (Line false n) s h = inr (inl refl)

clear-by : (s rest : List ℕ) (c : ℕ) → get_or rest 0 0 ≡ c → is_word_byte c ≡ false → is_listed (lengthened c) s ≡ false → eqb c 47 ≡ false
    → eqb c 46 ≡ false → IsClear s rest
clear-by s rest c e w m n f = record {
  word = λ h. ap is_word_byte e ∙ w;
  mark = ap (λ x. is_listed (lengthened x) s) e ∙ m;
  slash = ap (λ x. eqb (get_or s 0 0) 47 && eqb x 47) e ∙ and-false (eqb (get_or s 0 0) 47) (eqb c 47) n;
  fraction = λ h. ap (λ x. eqb x 46 && is_ascii_digit (get_or rest 1 0)) e ∙ ap (λ x. x && is_ascii_digit (get_or rest 1 0)) f;
}
  where
    and-false : (a b : Bool) → b ≡ false → (a && b) ≡ false
    and-false true b h = h
    and-false false b h = refl

clear-mild : (s rest : List ℕ) → IsMild (get_or rest 0 0) → IsClear s rest
clear-mild s rest (inl e) = clear-by s rest 32 e refl refl refl refl
clear-mild s rest (inr (inl e)) = clear-by s rest 10 e refl refl refl refl
clear-mild s rest (inr (inr e)) = clear-by s rest 44 e refl refl refl refl

mild-no-digit : (c : ℕ) → IsMild c → is_ascii_digit c ≡ false
mild-no-digit c (inl e) = ap is_ascii_digit e
mild-no-digit c (inr (inl e)) = ap is_ascii_digit e
mild-no-digit c (inr (inr e)) = ap is_ascii_digit e

pub token-long : (t : Token) (s : List ℕ) → IsSpelling t s → 0 < length s
token-long t s h = (first_of_kind t.kind t.text t.number t.suffix s h).0

front-first : (s rest : List ℕ) → 0 < length s → get_or (s ++ rest) 0 0 ≡ get_or s 0 0
front-first [] rest l = absurd (omega (arith, l))
front-first (c ∷ s) rest l = refl

-- ---- what comes next, behind a token

-- a blank, a line end or a comma; or a piece that is joined
abbrev Comes : Behind → List ℕ → Type 0
Comes c text =
    IsMild (get_or text 0 0) ⊎ ((z : List ℕ) × (get_or text 0 0 ≡ get_or z 0 0) × (grows c.last c.previous z ≡ false))

laid_text : Behind → Bool → ℕ → List Way → List Seen → List ℕ
laid_text c joined d ws xs = text_of (parts_laid c (placed joined d ws xs)) end_of_text

-- the text from a piece on, in front of which a comma is added or not
comma-comes : (y : Bool) (c : Behind) (text : Behind → List ℕ) (more : Behind → List Part) →
    ((h : Behind) → text_of (more h) end_of_text ≡ text h)
    → (y ≡ false → Comes c (text c)) → Comes c (text_of (comma_part y ++ more (behind_added y c)) end_of_text)
comma-comes true c text more e f = inl (inr (inr refl))
comma-comes false c text more e f = subst (Comes c) (sym (e c)) (f refl)

piece-comes : (c : Behind) (f : Feeds) (o : List ℕ) (k : Bool) (w : Way) (rest : List ℕ) → HasToken c.before → (k ≡ false → 0 < length o)
    → Comes c (gap_bytes (gap_of c (record { piece = seen_as f o k; way = w })) ++ (o ++ rest))
piece-comes c f o true w rest h l = inl (spaced-first _ (o ++ rest) (comment-spaced c.before f (comment_tabs w) h))
piece-comes c f o false w rest h l =
    ⊎_elim
    (λ s. inl (spaced-first (token_gap c w f o) (o ++ rest) s))
    (λ j. inr (o, ap (λ g. get_or (gap_bytes g ++ (o ++ rest)) 0 0) j.0 ∙ front-first o rest (l refl), j.2))
    (before-spaced c w f o c.before h h)

comes : (b joined : Bool) (d : ℕ) (ws : List Way) (xs : List Seen) (ts : List Token) (c : Behind) → AreRead b joined ws xs ts
    → HasToken c.before → Comes c (laid_text c joined d ws xs)
unfolding laid_text
comes b joined d ws [] ts c r h = inl (inr (inl refl))
comes b joined d ws (x ∷ xs) ts c r h =
    let w = way_here joined d ws in
    let p = placed_at joined d ws x in
    let ps = placed_behind joined d ws x xs in
    let more = λ (k : Behind). part_at k p ∷ parts_laid (behind_piece k p) ps in
    let long : x.comment ≡ false → 0 < length x.body =
    λ e. ⊎_elim (λ k. true-false (sym k.0 ∙ e)) (λ k. token-long k.0 x.body k.4.spells) r.1 in
    comma-comes w.comma c (λ k. text_of (more k) end_of_text) more (λ k. refl)
    (λ e. piece-comes c x.feeds x.body x.comment w (text_of (parts_laid (behind_piece c p) ps) end_of_text) h long)

-- a token that is joined, and what comes behind it
record IsJoined (c : Behind) (text : List ℕ) : Type 0 where
  word : List ℕ
  rest : List ℕ
  token : Token
  split : text ≡ word ++ rest
  spells : IsSpelling token word
  asked : (c.joins ≡ true) ⊎ IsPlainMark token
  stays : grows c.last c.previous word ≡ false
  behind : IsMild (get_or rest 0 0) ⊎ ((z : List ℕ) × (get_or rest 0 0 ≡ get_or z 0 0) × (grows word c.last z ≡ false))

abbrev Goes : Behind → List ℕ → Type 0
Goes c text = IsMild (get_or text 0 0) ⊎ IsJoined c text

has-token : (x : Bool) → HasToken (if x then Opening else Other)
has-token true = tt
has-token false = tt

either-true : (x y : Bool) → (x || y) ≡ true → (x ≡ true) ⊎ (y ≡ true)
either-true true y e = inl refl
either-true false y e = inr e

asks-before : (w : Way) → w.joins_before ≡ true → asks w ≡ true
asks-before w e = ap (λ x. w.comma || x || w.joins_behind) e ∙ by w.comma
  where
    by : (x : Bool) → (x || true || w.joins_behind) ≡ true
    by true = refl
    by false = refl

asks-behind : (w : Way) → w.joins_behind ≡ true → asks w ≡ true
asks-behind w e = ap (λ x. w.comma || w.joins_before || x) e ∙ by (w.comma || w.joins_before)
  where
    by : (x : Bool) → (x || true) ≡ true
    by true = refl
    by false = refl

asks-comma : (w : Way) → w.comma ≡ true → asks w ≡ true
asks-comma w e = ap (λ x. x || w.joins_before || w.joins_behind) e

-- the way of the next token asks at a mark
asked-mark : (joined : Bool) (d : ℕ) (ws : List Way) (ts : List Token) (t : Token) (more : List Token) → FitsNext joined ws ts →
    ts ≡ t ∷ more
    → asks (way_here joined d ws) ≡ true → IsPlainMark t
asked-mark true d ws ts t more f e a = false-true a
asked-mark false d ws ts t more f e a = f refl a t more e

joined-goes : (b joined : Bool) (d : ℕ) (ws : List Way) (f : Feeds) (o : List ℕ) (xs : List Seen) (ts : List Token) (c : Behind)
    (t : Token) (more : List Token) → FitsNext joined ws ts → ts ≡ t ∷ more → IsSpelling t o
    → AreRead b (is_string (seen_as f o false) && next_is_string xs) (ways_behind false joined ws) xs more
    → token_gap c (way_here joined d ws) f o ≡ Join → (c.joins || (way_here joined d ws).joins_before) ≡ true
    → grows c.last c.previous o ≡ false
    → IsJoined c (gap_bytes (token_gap c (way_here joined d ws) f o) ++ (o ++ laid_text (behind_token
    (token_gap c (way_here joined d ws) f o) c (way_here joined d ws) o) (is_string (seen_as f o false) && next_is_string xs)
    (way_here joined d ws).depth (ways_behind false joined ws) xs))
unfolding laid_text
joined-goes b joined d ws f o xs ts c t more z e s r g a h =
    let w = way_here joined d ws in
    let next = is_string (seen_as f o false) && next_is_string xs in
    let there = behind_token (token_gap c w f o) c w o in
    let rest = laid_text there next w.depth (ways_behind false joined ws) xs in
    record {
      word = o;
      rest = rest;
      token = t;
      split = ap (λ x. gap_bytes x ++ (o ++ rest)) g;
      spells = s;
      asked = ⊎_elim (λ x. inl x) (λ x. inr (asked-mark joined d ws ts t more z e (asks-before w x)))
          (either-true c.joins w.joins_before a);
      stays = h;
      behind = ⊎_elim (λ m. inl m) (λ n. inr (n.0, n.1, sym (ap (λ x. grows o (previous_of x c.last) n.0) g) ∙ n.2))
          (comes b next w.depth (ways_behind false joined ws) xs more there r (has-token (is_opening o)));
    }

piece-goes : (b joined : Bool) (d : ℕ) (ws : List Way) (f : Feeds) (o : List ℕ) (k : Bool) (xs : List Seen) (ts : List Token) (c : Behind)
    → AreRead b joined ws (seen_as f o k ∷ xs) ts → HasToken c.before
    → Goes c (text_of (part_at c (placed_at joined d ws (seen_as f o k))
    ∷ parts_laid (behind_piece c (placed_at joined d ws (seen_as f o k))) (placed_behind joined d ws (seen_as f o k) xs)) end_of_text)
unfolding laid_text
piece-goes b joined d ws f o true xs ts c r h =
    inl (spaced-first (comment_gap c.before f (comment_tabs (way_here joined d ws))) _
    (comment-spaced c.before f (comment_tabs (way_here joined d ws)) h))
piece-goes b joined d ws f o false xs ts c r h =
    let w = way_here joined d ws in
    ⊎_elim
    (λ k. true-false (sym k.0))
    (λ k. ⊎_elim
    (λ s. inl (spaced-first (token_gap c w f o) _ s))
    (λ j. inr (joined-goes (is_path_mark k.0.kind k.0.text) joined d ws f o xs ts c k.0 k.1 r.0 k.3 k.4.spells k.5 j.0 j.1 j.2))
    (before-spaced c w f o c.before h h))
    r.1

comma-goes : (y : Bool) (c : Behind) (more : Behind → List Part) → (y ≡ false → Goes c (text_of (more c) end_of_text))
    → Goes c (text_of (comma_part y ++ more (behind_added y c)) end_of_text)
comma-goes true c more f = inl (inr (inr refl))
comma-goes false c more f = f refl

goes : (b joined : Bool) (d : ℕ) (ws : List Way) (xs : List Seen) (ts : List Token) (c : Behind) → AreRead b joined ws xs ts
    → HasToken c.before → Goes c (text_of (parts_laid c (placed joined d ws xs)) end_of_text)
goes b joined d ws [] ts c r h = inl (inr (inl refl))
goes b joined d ws (x ∷ xs) ts c r h =
    let w = way_here joined d ws in
    let p = placed_at joined d ws x in
    let ps = placed_behind joined d ws x xs in
    comma-goes w.comma c (λ k. part_at k p ∷ parts_laid (behind_piece k p) ps)
    (λ e. piece-goes b joined d ws x.feeds x.body x.comment xs ts c r h)

-- ---- a token stands in front of what comes

mark-first : (t : Token) (s : List ℕ) → t.kind ≡ tk.Mark → IsSpelling t s → is_other (get_or s 0 0) ≡ true
mark-first t s e h = (first_of_kind tk.Mark t.text t.number t.suffix s (subst (λ k. IsSpellingOf k t.text t.number t.suffix s) e h)).1

mark-text : (t : Token) (s : List ℕ) → t.kind ≡ tk.Mark → IsSpelling t s → t.text ≡ s
mark-text t s e h = (subst (λ k. IsSpellingOf k t.text t.number t.suffix s) e h).0

no-slash : (t : Token) (s : List ℕ) → IsPlainMark t → IsSpelling t s → eqb (get_or s 0 0) 47 ≡ false
no-slash t s m h = ap (λ l. eqb (get_or l 0 0) 47) (sym (mark-text t s m.0 h)) ∙ m.1

not-so : (x : Bool) → (x ≡ true → ⊥) → x ≡ false
not-so true f = absurd (f refl)
not-so false f = refl

mark-no-word : (t : Token) (s : List ℕ) → IsPlainMark t → IsSpelling t s → is_word_byte (get_or s 0 0) ≡ false
mark-no-word t s m h = not-so (is_word_byte (get_or s 0 0)) (λ e. other-no-word (get_or s 0 0) (mark-first t s m.0 h) e)

or-left : (x y : Bool) → (x || y) ≡ false → x ≡ false
or-left true y e = true-false e
or-left false y e = refl

or-right : (x y : Bool) → (x || y) ≡ false → y ≡ false
or-right true y e = true-false e
or-right false y e = e

and-false : (x y : Bool) → y ≡ false → (x && y) ≡ false
and-false true y e = e
and-false false y e = refl

no-digit-behind : (x y z : Bool) → (x && y && z) ≡ false → x ≡ true → y ≡ true → z ≡ false
no-digit-behind true true z e p q = e
no-digit-behind true false z e p q = false-true q
no-digit-behind false y z e p q = false-true p

-- no mark is a `.` with a digit behind it
dotted : List ℕ → Bool
dotted w = not (eqb (get_or w 0 0) 46 && is_ascii_digit (get_or w 1 0))

marks-dotted : list_all dotted marks ≡ true
unfolding dotted
marks-dotted = refl

not-true : (x : Bool) → not x ≡ true → x ≡ false
not-true true e = false-true e
not-true false e = refl

mark-dotted : (w : List ℕ) → is_listed marks w ≡ true → (eqb (get_or w 0 0) 46 && is_ascii_digit (get_or w 1 0)) ≡ false
unfolding dotted
mark-dotted w h =
    not-true (eqb (get_or w 0 0) 46 && is_ascii_digit (get_or w 1 0))
    (listed_case (λ v. dotted v ≡ true) marks w (all_listed dotted marks marks-dotted) h)

dot-kind : (t : Token) (a : ℕ) (w : List ℕ) → eqb a 46 ≡ true → IsSpelling t (a ∷ w) → t.kind ≡ tk.Mark
dot-kind t a w e h =
    let is : a ≡ 46 = grind (arith, nat_tests) in
    no_other_kind t.kind 46 (refl, refl, refl, refl, refl, refl)
    (subst (λ c. is_first t.kind c ≡ true) is (first_of_kind t.kind t.text t.number t.suffix (a ∷ w) h).1)

one-dot : (a : ℕ) (x : Bool) → eqb a 46 ≡ x → (last rest : List ℕ) → are_digits last ≡ true
    → IsMild (get_or rest 0 0) ⊎ ((z : List ℕ) × (get_or rest 0 0 ≡ get_or z 0 0) × (grows (a ∷ []) last z ≡ false))
    → (x && is_ascii_digit (get_or rest 0 0)) ≡ false
one-dot a false e last rest d b = refl
one-dot a true e last rest d b =
    ⊎_elim (λ m. mild-no-digit (get_or rest 0 0) m)
    (λ n. ap is_ascii_digit n.1
    ∙ no-digit-behind (are_digits last) (bytes_eq (a ∷ []) (codes ".")) (is_ascii_digit (get_or n.0 0 0))
    (or-right (is_listed (lengthened (get_or n.0 0 0)) (a ∷ [])) _ n.2) d (one-byte a e))
    b
  where
    one-byte : (a : ℕ) → eqb a 46 ≡ true → bytes_eq (a ∷ []) (codes ".") ≡ true
    one-byte a e = let is : a ≡ 46 = grind (arith, nat_tests) in ap (λ c. bytes_eq (c ∷ []) (codes ".")) is

more-dots : (t : Token) (a e : ℕ) (w : List ℕ) (x : Bool) → eqb a 46 ≡ x → IsSpelling t (a ∷ e ∷ w) → (x && is_ascii_digit e) ≡ false
more-dots t a e w false k h = refl
more-dots t a e w true k h =
    let m = dot-kind t a (e ∷ w) k h in
    let l = mark_listed t.kind t.text t.number t.suffix (a ∷ e ∷ w) m h in
    ap (λ y. y && is_ascii_digit e) (sym k) ∙ mark-dotted (a ∷ e ∷ w) l

dot-behind : (t : Token) (word rest last : List ℕ) → IsSpelling t word → are_digits last ≡ true
    → IsMild (get_or rest 0 0) ⊎ ((z : List ℕ) × (get_or rest 0 0 ≡ get_or z 0 0) × (grows word last z ≡ false))
    → (eqb (get_or (word ++ rest) 0 0) 46 && is_ascii_digit (get_or (word ++ rest) 1 0)) ≡ false
dot-behind t [] rest last h d b = absurd (omega (arith, token-long t [] h))
dot-behind t (a ∷ []) rest last h d b = one-dot a (eqb a 46) refl last rest d b
dot-behind t (a ∷ e ∷ w) rest last h d b = more-dots t a e w (eqb a 46) refl h

clear-joined : (c : Behind) (text : List ℕ) (t : Token) → IsJoined c text → IsSpelling t c.last → (c.joins ≡ true → IsPlainMark t)
    → IsClear c.last text
clear-joined c text t j h f =
    let first : get_or text 0 0 ≡ get_or j.word 0 0 =
    ap (λ l. get_or l 0 0) j.split ∙ front-first j.word j.rest (token-long j.token j.word j.spells) in
    record {
      word = λ e. ⊎_elim
          (λ k. absurd (other-no-word (get_or c.last 0 0) (mark-first t c.last (f k).0 h) e))
          (λ m. ap is_word_byte first ∙ mark-no-word j.token j.word m j.spells)
          j.asked;
      mark = ap (λ x. is_listed (lengthened x) c.last) first ∙ or-left (is_listed (lengthened (get_or j.word 0 0)) c.last) _ j.stays;
      slash = ⊎_elim
          (λ k. ap (λ x. x && eqb (get_or text 0 0) 47) (no-slash t c.last (f k) h))
          (λ m. ap (λ x. eqb (get_or c.last 0 0) 47 && eqb x 47) first
          ∙ and-false (eqb (get_or c.last 0 0) 47) (eqb (get_or j.word 0 0) 47) (no-slash j.token j.word m j.spells))
          j.asked;
      fraction = λ d. ap (λ l. eqb (get_or l 0 0) 46 && is_ascii_digit (get_or l 1 0)) j.split
          ∙ dot-behind j.token j.word j.rest c.last j.spells d j.behind;
    }

clear : (c : Behind) (text : List ℕ) (t : Token) → Goes c text → IsSpelling t c.last → (c.joins ≡ true → IsPlainMark t) →
    IsClear c.last text
clear c text t (inl m) h f = clear-mild c.last text m
clear c text t (inr j) h f = clear-joined c text t j h f

-- ---- the comma

comma_token : Token
comma_token = sign_token 0 si.Comma

comma-clear : (rest : List ℕ) → IsClear (codes ",") rest
comma-clear rest = record {
  word = λ e. false-true e;
  mark = comma-kept (get_or rest 0 0);
  slash = refl;
  fraction = λ e. false-true e;
}

comma-is-token : (b : Bool) → IsToken b comma_token (codes ",")
unfolding comma_token
comma-is-token b = record { spells = (refl, refl, refl, refl); kept_word = refl; small = nothing_small; fresh = refl }

comma-front : (y : Bool) (b : Bool) (c : Behind) (more : Behind → List Part) (ts : List Token)
    → (y ≡ false → AreParts b (more c) end_of_text ts) → (y ≡ true → AreParts false (more behind_comma) end_of_text ts)
    → AreParts b (comma_part y ++ more (behind_added y c)) end_of_text (comma_tokens y ++ ts)
unfolding comma_token
comma-front true b c more ts f g =
    let rest = text_of (more behind_comma) end_of_text in (
      refl,
      inr (
        comma_token,
        ts,
        refl,
        refl,
        token-fresh b comma_token (codes ",") rest (comma-is-token b) (comma-clear rest),
        token-stands b comma_token (codes ",") rest (comma-is-token b) (comma-clear rest),
        g refl,
      ),
    )
comma-front false b c more ts f g = f refl

-- behind a comma a mark is the token that it is
unpath-token : (b : Bool) (t : Token) (s : List ℕ) → IsPlainMark t → IsToken b t s → IsToken false t s
unpath-token b t s m i = record {
  spells = i.spells;
  kept_word = not_left_out false s (or-left (is_letter (get_or s 0 0)) _ (mark-no-word t s m i.spells));
  small = i.small;
  fresh = i.fresh;
}

unpath : (b joined : Bool) (ws : List Way) (xs : List Seen) (ts : List Token)
    → ((t : Token) (more : List Token) → ts ≡ t ∷ more → IsPlainMark t) → AreRead b joined ws xs ts → AreRead false joined ws xs ts
unpath b joined ws [] ts f r = r
unpath b joined ws (x ∷ xs) ts f r = (
  r.0,
  ⊎_elim
      (λ k. inl (k.0, k.1, unpath b joined (ways_behind true joined ws) xs ts f k.2))
      (λ k. inr (k.0, k.1, k.2, k.3, unpath-token b k.0 x.body (f k.0 k.1 k.3) k.4, k.5))
      r.1,
)

-- ---- comments

-- behind a comment a line ends
after-line : (e : Bool) (n : ℕ) (s : List ℕ) → ends_line (gap_bytes (Line e n) ++ s) ≡ true
after-line true n s = refl
after-line false n s = refl

after-piece : (f : Feeds) (o : List ℕ) (k : Bool) (w : Way) (s : List ℕ)
    → ends_line (gap_bytes (gap_of behind_comment (record { piece = seen_as f o k; way = w })) ++ s) ≡ true
after-piece f o true w s = after-line (is_empty f) (comment_tabs w) s
after-piece f o false w s = after-line (is_empty f) (tabs_of w + extra_tab w.start) s

comma-line : (y : Bool) (more : Behind → List Part) → y ≡ false → ends_line (text_of (more behind_comment) end_of_text) ≡ true
    → ends_line (text_of (comma_part y ++ more (behind_added y behind_comment)) end_of_text) ≡ true
comma-line true more e h = true-false e
comma-line false more e h = h

after-remark : (joined : Bool) (d : ℕ) (ws : List Way) (xs : List Seen) → (way_here joined d ws).comma ≡ false
    → ends_line (text_of (parts_laid behind_comment (placed joined d ws xs)) end_of_text) ≡ true
after-remark joined d ws [] e = refl
after-remark joined d ws (x ∷ xs) e =
    let w = way_here joined d ws in
    let p = placed_at joined d ws x in
    let ps = placed_behind joined d ws x xs in
    comma-line w.comma (λ k. part_at k p ∷ parts_laid (behind_piece k p) ps) e
    (after-piece x.feeds x.body x.comment w (x.body ++ text_of (parts_laid (behind_piece behind_comment p) ps) end_of_text))

settled-comma : (joined : Bool) (d : ℕ) (ws : List Way) → (way_here joined d (ways_behind true joined ws)).comma ≡ false
settled-comma true d ws = refl
settled-comma false d [] = refl
settled-comma false d (w ∷ ws) = refl

-- ---- all parts

-- the tokens from a piece on
abbrev tokens_behind : Bool → ℕ → List Way → Seen → List Seen → List Token → List Token
tokens_behind joined d ws x xs ts =
    if x.comment then tokens_laid (placed_behind joined d ws x xs) ts
    else take 1 ts ++ tokens_laid (placed_behind joined d ws x xs) (drop 1 ts)

abbrev PartsAre : List Seen → Type 0
PartsAre xs =
    (b joined : Bool) (d : ℕ) (ws : List Way) (ts : List Token) (c : Behind) → AreRead b joined ws xs ts
    → AreParts b (parts_laid c (placed joined d ws xs)) end_of_text (tokens_laid (placed joined d ws xs) ts)

piece-part : (b joined : Bool) (d : ℕ) (ws : List Way) (f : Feeds) (o : List ℕ) (k : Bool) (xs : List Seen) (ts : List Token) (c : Behind)
    → PartsAre xs → AreRead b joined ws (seen_as f o k ∷ xs) ts
    → AreParts b (part_at c (placed_at joined d ws (seen_as f o k))
    ∷ parts_laid (behind_piece c (placed_at joined d ws (seen_as f o k))) (placed_behind joined d ws (seen_as f o k) xs)) end_of_text
    (tokens_behind joined d ws (seen_as f o k) xs ts)
piece-part b joined d ws f o true xs ts c all r =
    let w = way_here joined d ws in
    let p = placed_at joined d ws (seen_as f o true) in
    let us = ways_behind true joined ws in (
      gaps-are-read.blanks (gap_of c p),
      ⊎_elim
          (λ k. inl (
            refl,
            (k.1.0, k.1.1, k.1.2, after-remark joined d us xs (settled-comma joined d ws)),
            all b joined d us ts behind_comment k.2,
          ))
          (λ k. true-false k.2) r.1,
    )
piece-part b joined d ws f o false xs ts c all r =
    let w = way_here joined d ws in
    let p = placed_at joined d ws (seen_as f o false) in
    let next = is_string (seen_as f o false) && next_is_string xs in
    let us = ways_behind false joined ws in
    let there = behind_piece c p in
    let ps = placed next w.depth us xs in
    let rest = text_of (parts_laid there ps) end_of_text in (
      gaps-are-read.blanks (gap_of c p),
      ⊎_elim
          (λ k. true-false (sym k.0))
          (λ k.
          let path = is_path_mark k.0.kind k.0.text in
          let plain = clear there rest k.0 (goes path next w.depth us xs k.1 there k.5 (has-token (is_opening o))) k.4.spells
          (λ e. asked-mark joined d ws ts k.0 k.1 r.0 k.3 (asks-behind w e)) in
          inr (
            k.0,
            tokens_laid ps k.1,
            refl,
            ap (λ l. take 1 l ++ tokens_laid ps (drop 1 l)) k.3,
            token-fresh b k.0 o rest k.4 plain,
            token-stands b k.0 o rest k.4 plain,
            all path next w.depth us k.1 there k.5,
          )) r.1,
    )

pub parts-are : (xs : List Seen) → PartsAre xs
parts-are [] b joined d ws ts c r = (r.0, refl)
parts-are (x ∷ xs) b joined d ws ts c r =
    let w = way_here joined d ws in
    let p = placed_at joined d ws x in
    let ps = placed_behind joined d ws x xs in
    comma-front w.comma b c (λ k. part_at k p ∷ parts_laid (behind_piece k p) ps) (tokens_behind joined d ws x xs ts)
    (λ e. piece-part b joined d ws x.feeds x.body x.comment xs ts c (parts-are xs) r)
    (λ e. piece-part false joined d ws x.feeds x.body x.comment xs ts behind_comma (parts-are xs)
    (unpath b joined ws (x ∷ xs) ts (λ t more q. asked-mark joined d ws ts t more r.0 q (asks-comma w e)) r))

-- ---- the text of the parts, and what is read of them

comma-text : (y : Bool) (more : List Part) (text : List ℕ) (rest : List (Gap × List ℕ))
    → text_of more end_of_text ≡ laid_bytes rest ++ end_of_text
    → text_of (comma_part y ++ more) end_of_text ≡ laid_bytes (comma_of y ++ rest) ++ end_of_text
comma-text true more text rest e = ap (λ l. codes "," ++ l) e
comma-text false more text rest e = e

pub parts-text : (c : Behind) (ps : List Placed) → text_of (parts_laid c ps) end_of_text ≡ laid_bytes (laid c ps) ++ end_of_text
parts-text c [] = refl
parts-text c (p ∷ ps) =
    let here = behind_added p.way.comma c in
    let g = gap_bytes (gap_of here p) in
    let o = p.piece.body in
    let rest = laid_bytes (laid (behind_piece here p) ps) in
    comma-text p.way.comma (part_at here p ∷ parts_laid (behind_piece here p) ps) [] ((gap_of here p, o) ∷ laid (behind_piece here p) ps)
    (ap (λ l. g ++ (o ++ l)) (parts-text (behind_piece here p) ps)
    ∙ ap (λ l. g ++ l) (sym (append_assoc o rest end_of_text))
    ∙ sym (append_assoc g (o ++ rest) end_of_text)
    ∙ ap (λ l. l ++ end_of_text) (sym (append_assoc g o rest)))

comma-read : (y : Bool) (more : List Part) (rest : List Seen) → map read_of more ≡ rest →
    map read_of (comma_part y ++ more) ≡ comma_seen y ++ rest
comma-read true more rest e = ap (λ l. record { feeds = Same; body = codes ","; comment = false } ∷ l) e
comma-read false more rest e = e

read-body : (k : Bool) (o : List ℕ) → (k ≡ true → trimmed o ≡ o) → (if k then trimmed o else o) ≡ o
read-body true o f = f refl
read-body false o f = refl

pub parts-read : (b joined : Bool) (d : ℕ) (ws : List Way) (xs : List Seen) (ts : List Token) (c : Behind) → AreRead b joined ws xs ts
    → map read_of (parts_laid c (placed joined d ws xs)) ≡ laid_seen c (placed joined d ws xs)
parts-read b joined d ws [] ts c r = refl
parts-read b joined d ws (x ∷ xs) ts c r =
    let w = way_here joined d ws in
    let p = placed_at joined d ws x in
    let ps = placed_behind joined d ws x xs in
    let here = behind_added w.comma c in
    let g = gap_of here p in
    let a = placed joined d (ways_behind true joined ws) xs in
    let e = placed (is_string x && next_is_string xs) w.depth (ways_behind false joined ws) xs in
    let either : Bool → Type 0 =
    λ z. map read_of (parts_laid (behind_piece here p) (if z then a else e)) ≡ laid_seen (behind_piece here p) (if z then a else e) in
    let rest : either x.comment = ⊎_elim
    (λ k. subst either (sym k.0) (parts-read b joined d (ways_behind true joined ws) xs ts (behind_piece here p) k.2))
    (λ k. subst either (sym k.2)
    (parts-read (is_path_mark k.0.kind k.0.text) (is_string x && next_is_string xs) w.depth (ways_behind false joined ws) xs k.1
    (behind_piece here p)
    k.5))
    r.1 in
    let trims : x.comment ≡ true → trimmed x.body ≡ x.body = λ z. ⊎_elim (λ k. k.1.3) (λ k. true-false (sym z ∙ k.2)) r.1 in
    comma-read w.comma (part_at here p ∷ parts_laid (behind_piece here p) ps)
    ((read_again here p).piece ∷ laid_seen (behind_piece here p) ps)
    (λ i. record { feeds = gaps-are-read.feeds g i; body = read-body x.comment x.body trims i; comment = x.comment } ∷ rest i)
