-- The pieces of a source are read as comments and tokens, and the layout has these tokens with the commas that are added.
use Rattle.std.proofs.Common.{◌≡◌, ℕ, List, [], ◌∷◌, ◌++◌, ◌⊎◌, inl, inr, Bool, true, false, ◌&&◌, not, eqb, length, take, drop, map, codes, refl, sym, ap, ◌∙◌, subst, append_assoc, if◌then◌else◌}
use Rattle.std.proofs.Math.Logic.{⊎_elim}
use Rattle.std.specs.Prelude.{◌||◌, slice_range}
use Rattle.std.specs.List.{list_all}
use Rattle.hare_tree.specs.declared.place.Place.{Place}
use Rattle.hare_tree.specs.declared.token.TokenKind.TheVariants as tk
use Rattle.hare_tree.specs.declared.token.Token.{Token}
use Rattle.hare_tree.specs.declared.form.Sign.TheVariants as si
use Rattle.hare_tree.specs.Spell.{sign_token}
use Rattle.hare_tree.specs.Words.{is_blank, is_not_feed}
use Rattle.hare_tree.specs.Tokens.{IsComment, Stands, end_at, is_path_mark, no_gap}
use Rattle.hare_tree.specs.Grammar.{is_proper_string, string_at, joined_to, joined, begins_with_string, unplaced}
use Rattle.hare_lex.proofs.Fronts.Lists.{and_left, and_right, and_both}
use Rattle.hare_pieces.specs.declared.piece.Piece.{Piece}
use Rattle.hare_pieces.specs.Pieces.{ConsistsOf}
use Rattle.hare_ways.specs.declared.way.Way.{Way}
use Rattle.hare_commas.specs.Commas.{IsPlainMark, asks, AreMarks, comma_tokens, tokens_with}
use Rattle.hare_lines.specs.Read.{Seen, seen_from, seen_piece, body_of, before_blanks, trimmed, is_quoted, is_string}
use Rattle.hare_lines.specs.Gaps.{placed, next_way, next_is_string, without_comma}
use Rattle.hare_again.proofs.PartsOfLayouts.Gaps.{gaps-are-read}
use Rattle.hare_again.proofs.LaidAsBefore.PiecesAgain.{way_here}
use Rattle.hare_again.proofs.LaidAsBefore.Sources.{piece-text, rest-text, rest-at, string-is-proper, joined-begins, end-begins}
use Rattle.hare_again.proofs.PartsOfLayouts.Standing.{IsToken}
use Rattle.hare_again.proofs.PartsOfLayouts.LaidParts.{IsRemark, FitsNext, ways_behind, AreRead, tokens_laid}

true-false : {A : Type 0} → true ≡ false → A
true-false h = cc

false-true : {A : Type 0} → false ≡ true → A
false-true h = cc

-- ---- comments

trimmed-all : (p : ℕ → Bool) (s : List ℕ) → list_all p s ≡ true → list_all p (trimmed s) ≡ true
trimmed-all p [] h = refl
trimmed-all p (c ∷ s) h = by (trimmed s) (and_left _ _ h) (trimmed-all p s (and_right (p c) _ h))
  where
    first : (b : Bool) → p c ≡ true → list_all p (if b then [] else c ∷ []) ≡ true
    first true k = refl
    first false k = and_both _ _ k refl

    by : (t : List ℕ) → p c ≡ true → list_all p t ≡ true → list_all p (before_blanks c t) ≡ true
    by [] k m = first (is_blank c) k
    by (d ∷ t) k m = and_both _ _ k m

two-slashes : (body : List ℕ) → trimmed (codes "//" ++ body) ≡ codes "//" ++ trimmed body
two-slashes body = by (trimmed body)
  where
    by : (t : List ℕ) → before_blanks 47 (before_blanks 47 t) ≡ codes "//" ++ t
    by [] = refl
    by (c ∷ t) = refl

remark-of : (s rest : List ℕ) → IsComment s rest → IsRemark (trimmed s)
remark-of s rest k = (
  trimmed k.0,
  ap trimmed k.1 ∙ two-slashes k.0,
  trimmed-all is_not_feed k.0 k.2,
  gaps-are-read.trims s,
)

-- ---- tokens

first-not : (a b : Bool) → not (a || b) ≡ true → a ≡ false
first-not true b h = false-true h
first-not false b h = refl

fresh-alone : (s rest : List ℕ) → no_gap (s ++ rest) ≡ true → no_gap s ≡ true
fresh-alone [] rest g = refl
fresh-alone (c ∷ []) rest g = alone (is_blank c) _ (eqb c 47) g
  where
    alone : (a x b : Bool) → not (a || x) ≡ true → not (a || (b && false)) ≡ true
    alone true x b h = false-true h
    alone false x true h = refl
    alone false x false h = refl
fresh-alone (c ∷ d ∷ s) rest g = g

token-of : (b : Bool) (t : Token) (s rest : List ℕ) → Stands b t s rest → no_gap (s ++ rest) ≡ true → IsToken b t s
token-of b t s rest st g =
    record { spells = st.fits.spells; kept_word = st.kept_word; small = st.small; fresh = fresh-alone s rest g }

-- ---- strings side by side

-- a list from its second token on, where the first is a string that belongs to the one before
abbrev tail_if : Bool → List Token → List Token
tail_if true ts = drop 1 ts
tail_if false ts = ts

joined-tail : (t : Token) (l : List Token) → drop 1 (joined_to t l) ≡ tail_if (is_proper_string t && begins_with_string l) l
joined-tail t [] = by (is_proper_string t)
  where
    by : (x : Bool) → [] ≡ tail_if (x && false) []
    by true = refl
    by false = refl
joined-tail t (u ∷ us) = by (is_proper_string t) (is_proper_string u)
  where
    by : (x y : Bool) → drop 1 (if x then (if y then string_at t.place (t.text ++ u.text) ∷ us else t ∷ u ∷ us) else t ∷ u ∷ us)
        ≡ tail_if (x && y) (u ∷ us)
    by true true = refl
    by true false = refl
    by false y = refl

-- the first token is the same, or it is a string
joined-first : (t : Token) (l : List Token) → (v : Token) × (vs : List Token) × (joined_to t l ≡ v ∷ vs) × ((v ≡ t) ⊎ (v.kind ≡ tk.Str))
joined-first t [] = (t, [], refl, inl refl)
joined-first t (u ∷ us) = by (is_proper_string t) (is_proper_string u)
  where
    by : (x y : Bool) → (v : Token) × (vs : List Token)
        × ((if x then (if y then string_at t.place (t.text ++ u.text) ∷ us else t ∷ u ∷ us) else t ∷ u ∷ us) ≡ v ∷ vs)
        × ((v ≡ t) ⊎ (v.kind ≡ tk.Str))
    by true true = (string_at t.place (t.text ++ u.text), us, refl, inr refl)
    by true false = (t, u ∷ us, refl, inl refl)
    by false y = (t, u ∷ us, refl, inl refl)

-- the tokens with an end behind them, strings side by side as one
abbrev pub with_end : Place → List Token → List Token
with_end p ts = joined (ts ++ end_at p ∷ [])

ended-begins : (p : Place) (ts : List Token) → begins_with_string (with_end p ts) ≡ begins_with_string ts
ended-begins p ts = joined-begins (ts ++ end_at p ∷ []) ∙ end-begins ts p

-- ---- ways

marks-drop : (ws : List Way) (ts : List Token) → AreMarks ws ts → AreMarks (drop 1 ws) (drop 1 ts)
marks-drop [] ts m = tt
marks-drop (w ∷ ws) [] m = by ws
  where
    by : (vs : List Way) → AreMarks vs []
    by [] = tt
    by (v ∷ vs) = tt
marks-drop (w ∷ ws) (t ∷ ts) m = m.1

settled-asks : (w : Way) → (false || w.joins_before || w.joins_behind) ≡ true → asks w ≡ true
settled-asks w e = by w.comma w.joins_before w.joins_behind e
  where
    by : (a b c : Bool) → (false || b || c) ≡ true → (a || b || c) ≡ true
    by true b c e = refl
    by false b c e = e

marks-without : (ws : List Way) (ts : List Token) → AreMarks ws ts → AreMarks (without_comma ws) ts
marks-without [] ts m = tt
marks-without (w ∷ ws) [] m = tt
marks-without (w ∷ ws) (t ∷ ts) m = (λ e. m.0 (settled-asks w e), m.1)

pub marks-unplaced : (ws : List Way) (ts : List Token) → AreMarks ws ts → AreMarks ws (map unplaced ts)
marks-unplaced [] ts m = tt
marks-unplaced (w ∷ ws) [] m = tt
marks-unplaced (w ∷ ws) (t ∷ ts) m = (m.0, marks-unplaced ws ts m.1)

pub marks-placed : (ws : List Way) (ts : List Token) → AreMarks ws (map unplaced ts) → AreMarks ws ts
marks-placed [] ts m = tt
marks-placed (w ∷ ws) [] m = tt
marks-placed (w ∷ ws) (t ∷ ts) m = (m.0, marks-placed ws ts m.1)

string-no-mark : (t : Token) → t.kind ≡ tk.Str → IsPlainMark t → ⊥
string-no-mark t e m = let k : tk.Str ≡ tk.Mark = sym e ∙ m.0 in cc

fits-next : (joined-on : Bool) (ws : List Way) (t : Token) (more : List Token) (p : Place)
    → AreMarks ws (tail_if joined-on (with_end p (t ∷ more))) → FitsNext joined-on ws (t ∷ more)
fits-next true ws t more p m e a u us q = true-false e
fits-next false [] t more p m e a u us q = false-true a
fits-next false (w ∷ ws) t more p m e a u us q =
    let f = joined-first t (with_end p more) in
    let v : IsPlainMark f.0 = (subst (AreMarks (w ∷ ws)) f.2 m).0 a in
    let is : IsPlainMark t = ⊎_elim (λ k. subst IsPlainMark k v) (λ k. absurd (string-no-mark f.0 k v)) f.3 in
    let same : t ≡ u = cc in
    subst IsPlainMark same is

fits-none : (joined-on : Bool) (ws : List Way) → FitsNext joined-on ws []
fits-none joined-on ws e a t more q = cc

end-plain : (p : Place) (ws : List Way) → AreMarks ws (end_at p ∷ []) → (next_way ws).comma ≡ false
end-plain p [] m = refl
end-plain p (w ∷ ws) m = by w.comma refl
  where
    by : (x : Bool) → w.comma ≡ x → x ≡ false
    by false e = refl
    by true e = let k : tk.End ≡ tk.Mark = (m.0 (ap (λ z. z || w.joins_before || w.joins_behind) e)).0 in cc

fits-any : (j : Bool) (ws : List Way) (ts : List Token) (p : Place) → AreMarks ws (tail_if j (with_end p ts)) → FitsNext j ws ts
fits-any j ws [] p m = fits-none j ws
fits-any j ws (t ∷ more) p m = fits-next j ws t more p m

comment-marks : (j : Bool) (ws : List Way) (l : List Token) → AreMarks ws (tail_if j l) → AreMarks (ways_behind true j ws) (tail_if j l)
comment-marks true ws l m = m
comment-marks false ws l m = marks-without ws l m

token-marks : (j : Bool) (ws : List Way) (ts : List Token) (t : Token) (more : List Token) (p : Place) {next : Bool} → ts ≡ t ∷ more
    → (is_proper_string t && begins_with_string (with_end p more)) ≡ next → AreMarks ws (tail_if j (with_end p ts))
    → AreMarks (ways_behind false j ws) (tail_if next (with_end p more))
token-marks j ws ts t more p {next = next} e f m =
    by j (subst (λ l. AreMarks ws (tail_if j (with_end p l))) e m)
  where
    tail : drop 1 (with_end p (t ∷ more)) ≡ tail_if next (with_end p more)
    tail = joined-tail t (with_end p more) ∙ ap (λ y. tail_if y (with_end p more)) f

    by : (y : Bool) → AreMarks ws (tail_if y (with_end p (t ∷ more))) → AreMarks (ways_behind false y ws) (tail_if next (with_end p more))
    by true n = subst (AreMarks ws) tail n
    by false n = subst (AreMarks (drop 1 ws)) tail (marks-drop ws (with_end p (t ∷ more)) n)

-- ---- pieces

-- the next string is a token that is a string
next-quoted : (src before text : List ℕ) (at : ℕ) (b : Bool) (ts : List Token) (ps : List Piece) → src ≡ before ++ text → at ≡ length before
    → ConsistsOf at b text ts ps → next_is_string (seen_from src at ps) ≡ begins_with_string ts
next-quoted src before text at b ts [] e f c = ap begins_with_string (sym c.0)
next-quoted src before text at b ts (x ∷ ps) e f c =
    let rest = rest-text src before c.0 c.1 c.2 text e c.3 in
    let next = rest-at before c.0 c.1 at x.from x.to f c.5 c.6 in
    ⊎_elim
    (λ k. ap (λ z. if z then next_is_string (seen_from src x.to ps) else (not z && is_quoted (body_of src x))) k.0
    ∙ next-quoted src (before ++ (c.0 ++ c.1)) c.2 x.to b ts ps rest next k.2)
    (λ k.
    let body : body_of src x ≡ c.1 = ap (λ y. if y then trimmed (slice_range src x.from x.to) else slice_range src x.from x.to) k.2
    ∙ piece-text src before c.0 c.1 c.2 text at x.from x.to e f c.3 c.5 c.6 in
    ap (λ z. if z then next_is_string (seen_from src x.to ps) else (not z && is_quoted (body_of src x))) k.2
    ∙ ap is_quoted body ∙ string-is-proper k.0 c.1 k.5.fits.spells ∙ ap begins_with_string (sym k.3))
    c.7

pub read-source : (src before text : List ℕ) (at : ℕ) (b joined-on : Bool) (ws : List Way) (ts : List Token) (ps : List Piece) (p : Place)
    → src ≡ before ++ text → at ≡ length before → ConsistsOf at b text ts ps → AreMarks ws (tail_if joined-on (with_end p ts))
    → AreRead b joined-on ws (seen_from src at ps) ts
read-source src before text at b j ws ts [] p e f c m =
    let here = subst (λ l. AreMarks ws (tail_if j (with_end p l))) c.0 m in
    (c.0, λ k. end-plain p ws (subst (λ y. AreMarks ws (tail_if y (end_at p ∷ []))) k here))
read-source src before text at b j ws ts (x ∷ ps) p e f c m =
    let rest = rest-text src before c.0 c.1 c.2 text e c.3 in
    let next = rest-at before c.0 c.1 at x.from x.to f c.5 c.6 in
    let bytes = piece-text src before c.0 c.1 c.2 text at x.from x.to e f c.3 c.5 c.6 in (
      fits-any j ws ts p m,
      ⊎_elim
          (λ k.
          let body : body_of src x ≡ trimmed c.1 =
          ap (λ y. if y then trimmed (slice_range src x.from x.to) else slice_range src x.from x.to) k.0 ∙ ap trimmed bytes in
          inl (
            k.0,
            subst IsRemark (sym body) (remark-of c.1 c.2 k.1),
            read-source src (before ++ (c.0 ++ c.1)) c.2 x.to b j (ways_behind true j ws) ts ps p rest next k.2
                (comment-marks j ws (with_end p ts) m),
          ))
          (λ k.
          let body : body_of src x ≡ c.1 =
          ap (λ y. if y then trimmed (slice_range src x.from x.to) else slice_range src x.from x.to) k.2 ∙ bytes in
          let string : is_string (seen_piece src at x) ≡ is_proper_string k.0 =
          ap (λ y. not y && is_quoted (body_of src x)) k.2 ∙ ap is_quoted body
          ∙ string-is-proper k.0 c.1 k.5.fits.spells in
          let begins = next-quoted src (before ++ (c.0 ++ c.1)) c.2 x.to (is_path_mark k.0.kind k.0.text) k.1 ps rest next k.6 in
          let first = sym string in
          let behind = ended-begins p k.1 ∙ sym begins in
          let flag : (is_proper_string k.0 && begins_with_string (with_end p k.1))
          ≡ (is_string (seen_piece src at x) && next_is_string (seen_from src x.to ps)) = λ i. first i && behind i in
          inr (
            k.0,
            k.1,
            k.2,
            k.3,
            subst (IsToken b k.0) (sym body) (token-of b k.0 c.1 c.2 k.5 k.4),
            read-source src (before ++ (c.0 ++ c.1)) c.2 x.to (is_path_mark k.0.kind k.0.text)
                (is_string (seen_piece src at x) && next_is_string (seen_from src x.to ps)) (ways_behind false j ws) k.1 ps p rest next k.6
                (token-marks j ws ts k.0 k.1 p k.3 flag m),
          )) c.7,
    )

-- ---- the tokens of the layout

-- with the commas that are added; where the first token is a string that belongs to the one before, it has no way of its own
abbrev pub with_ways : Bool → List Way → List Token → List Token
with_ways true ws ts = take 1 ts ++ tokens_with ws (drop 1 ts)
with_ways false ws ts = tokens_with ws ts

none-with : (ws : List Way) → tokens_with ws [] ≡ []
none-with [] = refl
none-with (w ∷ ws) = refl

comma-joined : (y : Bool) (l : List Token) → joined (comma_tokens y ++ l) ≡ comma_tokens y ++ joined l
comma-joined false l = refl
comma-joined true l = by (joined l)
  where
    by : (us : List Token) → joined_to (sign_token 0 si.Comma) us ≡ sign_token 0 si.Comma ∷ us
    by [] = refl
    by (u ∷ us) = refl

-- a string begins what is laid out where it begins the tokens
first-comma : (y : Bool) (u : Token) (l : List Token) → begins_with_string (comma_tokens y ++ u ∷ l) ≡ true → is_proper_string u ≡ true
first-comma true u l e = false-true e
first-comma false u l e = e

not-both : (x y : Bool) → (x ≡ true → y ≡ true) → (y ≡ false) → x ≡ false
not-both true y f e = true-false (sym (f refl) ∙ e)
not-both false y f e = refl

apart : (t : Token) (l : List Token) → (is_proper_string t && begins_with_string l) ≡ false → joined_to t l ≡ t ∷ l
apart t [] e = refl
apart t (u ∷ us) e = by (is_proper_string t) (is_proper_string u) e
  where
    by : (x y : Bool) → (x && y) ≡ false
        → (if x then (if y then string_at t.place (t.text ++ u.text) ∷ us else t ∷ u ∷ us) else t ∷ u ∷ us) ≡ t ∷ u ∷ us
    by true true e = true-false e
    by true false e = refl
    by false y e = refl

still-apart : (ws : List Way) (x : Bool) (l : List Token) → (x && begins_with_string l) ≡ false →
    (x && begins_with_string (tokens_with ws l)) ≡ false
still-apart [] x l e = e
still-apart (w ∷ ws) x [] e = e
still-apart (w ∷ ws) false (u ∷ us) e = refl
still-apart (w ∷ ws) true (u ∷ us) e =
    not-both (begins_with_string (comma_tokens w.comma ++ u ∷ tokens_with ws us)) (is_proper_string u)
    (first-comma w.comma u (tokens_with ws us)) e

-- a token in front
joined-with : (t : Token) (ws : List Way) (l : List Token) (next : Bool) → (is_proper_string t && begins_with_string l) ≡ next
    → joined_to t (with_ways next ws l) ≡ take 1 (joined_to t l) ++ tokens_with ws (drop 1 (joined_to t l))
joined-with t ws l false e =
    apart t (tokens_with ws l) (still-apart ws (is_proper_string t) l e)
    ∙ sym (ap (λ k. take 1 k ++ tokens_with ws (drop 1 k)) (apart t l e))
joined-with t ws [] true e = absurd (no (is_proper_string t) e)
  where
    no : (x : Bool) → (x && false) ≡ true → ⊥
    no true e = cc
    no false e = cc
joined-with t ws (u ∷ us) true e = by (is_proper_string t) (is_proper_string u) e
  where
    by : (x y : Bool) → (x && y) ≡ true
        → (if x then (if y then string_at t.place (t.text ++ u.text) ∷ tokens_with ws us else t ∷ u ∷ tokens_with ws us)
        else t ∷ u ∷ tokens_with ws us)
        ≡ take 1 (if x then (if y then string_at t.place (t.text ++ u.text) ∷ us else t ∷ u ∷ us) else t ∷ u ∷ us)
        ++ tokens_with ws (drop 1 (if x then (if y then string_at t.place (t.text ++ u.text) ∷ us else t ∷ u ∷ us) else t ∷ u ∷ us))
    by true true e = refl
    by true false e = false-true e
    by false y e = false-true e

-- the ways in front of a token that is not joined
front-way : (d : ℕ) (ws : List Way) (t : Token) (l : List Token)
    → comma_tokens (way_here false d ws).comma ++ (take 1 (joined_to t l) ++ tokens_with (drop 1 ws) (drop 1 (joined_to t l)))
    ≡ tokens_with ws (joined_to t l)
front-way d ws t l = by ws (joined-first t l)
  where
    by : (vs : List Way) → (v : Token) × (us : List Token) × (joined_to t l ≡ v ∷ us) × ((v ≡ t) ⊎ (v.kind ≡ tk.Str))
        → comma_tokens (way_here false d vs).comma ++ (take 1 (joined_to t l) ++ tokens_with (drop 1 vs) (drop 1 (joined_to t l)))
        ≡ tokens_with vs (joined_to t l)
    by [] f = ap (λ k. take 1 k ++ drop 1 k) f.2 ∙ sym f.2
    by (w ∷ vs) f =
        ap (λ k. comma_tokens w.comma ++ (take 1 k ++ tokens_with vs (drop 1 k))) f.2 ∙ sym (ap (tokens_with (w ∷ vs)) f.2)

token-with : (j : Bool) (d : ℕ) (ws : List Way) (t : Token) (l : List Token) (next : Bool)
    → (is_proper_string t && begins_with_string l) ≡ next
    → comma_tokens (way_here j d ws).comma ++ joined_to t (with_ways next (ways_behind false j ws) l) ≡ with_ways j ws (joined_to t l)
token-with true d ws t l next e = joined-with t ws l next e
token-with false d ws t l next e =
    ap (λ k. comma_tokens (way_here false d ws).comma ++ k) (joined-with t (drop 1 ws) l next e) ∙ front-way d ws t l

-- a comma in front of a comment, whose token is still to come
comment-with : (j : Bool) (d : ℕ) (ws : List Way) (l : List Token) → ((u : Token) × (us : List Token) × (l ≡ u ∷ us))
    → comma_tokens (way_here j d ws).comma ++ with_ways j (ways_behind true j ws) l ≡ with_ways j ws l
comment-with true d ws l f = refl
comment-with false d [] l f = refl
comment-with false d (w ∷ ws) l f =
    ap (λ k. comma_tokens w.comma ++ tokens_with (without_comma (w ∷ ws)) k) f.2 ∙ sym (ap (tokens_with (w ∷ ws)) f.2)

with_end-some : (p : Place) (ts : List Token) → (u : Token) × (us : List Token) × (with_end p ts ≡ u ∷ us)
with_end-some p [] = (end_at p, [], refl)
with_end-some p (t ∷ ts) = let f = joined-first t (with_end p ts) in (f.0, f.1, f.2)

string-read : (b : Bool) (x : Seen) (t : Token) → x.comment ≡ false → IsToken b t x.body → is_string x ≡ is_proper_string t
string-read b x t e i = ap (λ y. not y && is_quoted x.body) e ∙ string-is-proper t x.body i.spells

next-read : (b j : Bool) (ws : List Way) (xs : List Seen) (ts : List Token) → AreRead b j ws xs ts →
    next_is_string xs ≡ begins_with_string ts
next-read b j ws [] ts r = ap begins_with_string (sym r.0)
next-read b j ws (x ∷ xs) ts r =
    ⊎_elim
    (λ k. ap (λ z. if z then next_is_string xs else is_string x) k.0 ∙ next-read b j (ways_behind true j ws) xs ts k.2)
    (λ k. ap (λ z. if z then next_is_string xs else is_string x) k.2 ∙ string-read b x k.0 k.2 k.4 ∙ ap begins_with_string (sym k.3))
    r.1

last-with : (j : Bool) (d : ℕ) (ws : List Way) (p : Place) → (j ≡ false → (next_way ws).comma ≡ false)
    → end_at p ∷ [] ≡ with_ways j ws (end_at p ∷ [])
last-with true d ws p f = ap (λ l. end_at p ∷ l) (sym (none-with ws))
last-with false d [] p f = refl
last-with false d (w ∷ ws) p f =
    ap (λ l. end_at p ∷ l) (sym (none-with ws)) ∙ ap (λ y. comma_tokens y ++ end_at p ∷ tokens_with ws []) (sym (f refl))

pub laid-tokens : (b j : Bool) (d : ℕ) (ws : List Way) (xs : List Seen) (ts : List Token) (p : Place) → AreRead b j ws xs ts
    → with_end p (tokens_laid (placed j d ws xs) ts) ≡ with_ways j ws (with_end p ts)
laid-tokens b j d ws [] ts p r =
    ap (with_end p) r.0 ∙ last-with j d ws p r.1 ∙ ap (λ l. with_ways j ws (with_end p l)) (sym r.0)
laid-tokens b j d ws (x ∷ xs) ts p r =
    let w = way_here j d ws in
    let e = end_at p ∷ [] in
    let us = ways_behind true j ws in
    let vs = ways_behind false j ws in
    let next = is_string x && next_is_string xs in
    let a = placed j d us xs in
    let c = placed next w.depth vs xs in
    let either : Bool → List Token = λ z. if z then tokens_laid (if z then a else c) ts else take 1 ts ++ tokens_laid (if z then a else c)
    (drop 1 ts) in
    ap joined (append_assoc (comma_tokens w.comma) (either x.comment) e)
    ∙ comma-joined w.comma (either x.comment ++ e)
    ∙ ⊎_elim
    (λ k. ap (λ z. comma_tokens w.comma ++ joined (either z ++ e)) k.0
    ∙ ap (λ l. comma_tokens w.comma ++ l) (laid-tokens b j d us xs ts p k.2)
    ∙ comment-with j d ws (with_end p ts) (with_end-some p ts))
    (λ k.
    let flag : (is_proper_string k.0 && begins_with_string (with_end p k.1)) ≡ next =
    (λ i. sym (string-read b x k.0 k.2 k.4) i
    && (ended-begins p k.1 ∙ sym (next-read (is_path_mark k.0.kind k.0.text) next vs xs k.1 k.5)) i) in
    ap (λ z. comma_tokens w.comma ++ joined (either z ++ e)) k.2
    ∙ ap (λ l. comma_tokens w.comma ++ joined ((take 1 l ++ tokens_laid c (drop 1 l)) ++ e)) k.3
    ∙ ap (λ l. comma_tokens w.comma ++ joined_to k.0 l) (laid-tokens (is_path_mark k.0.kind k.0.text) next w.depth vs xs k.1 p k.5)
    ∙ token-with j d ws k.0 (with_end p k.1) next flag
    ∙ ap (λ l. with_ways j ws (with_end p l)) (sym k.3))
    r.1
