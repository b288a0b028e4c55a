-- How far the lexer has come.
use Rattle.std.proofs.Common.{◌≡◌, ℕ, ◌+◌, ◌≤◌, List, [], ◌∷◌, ◌++◌, reverse, Bool, true, false, cond, ◌&&◌, eqb, length, get_or, take, refl, sym, ap, ◌∙◌, arith, subst, inl, inr, append_assoc, append-nil, length-append, count_by}
use Rattle.std.specs.List.{list_all}
use Rattle.std.proofs.lemmas.List.{reverse-append, length-reverse}
use Rattle.std.proofs.lemmas.List.Sums.{sum_by-append, count_by-le-length}
use Rattle.std.proofs.lemmas.Bool.Decides.{nat_tests}
use Rattle.hare_tree.specs.declared.place.Place.{Place}
use Rattle.hare_tree.specs.declared.token.Token.{Token}
use Rattle.hare_tree.specs.Words.{is_blank, is_not_feed}
use Rattle.hare_tree.specs.Tokens.{Reads, place_at, Gap, ends_line, Stands, is_path_mark, Break, IsTokens, end_at}
use Rattle.std.specs.Str.{IsUtf8}
use Rattle.hare_lex.specs.declared.stop.LexStop.{LexStop}
use Rattle.hare_lex.specs.declared.stop.LexStop.TheVariants as stop
use Rattle.hare_lex.specs.Stops.{Stops, Stopped}
use Rattle.hare_lex.specs.Lexing.{skipped, step, advanced}
use Rattle.hare_lex.proofs.Fronts.Lists.{and_left, and_right, run_within}

-- These tokens have been read, up to the place, and with the tokens of the rest they are the tokens of the file.
pub record Reached (file : ℕ) (src : List ℕ) (tokens : List Token) (place : Place) (behind_path : Bool) (rest : List ℕ) : Type 0 where
  pub before : List ℕ
  pub split : src ≡ before ++ rest
  pub place_is : place ≡ place_at file before
  pub goes_on : (ts : List Token) (left : List ℕ) (at_path : Bool) → Reads file before behind_path ts rest left at_path →
      Reads file [] false (tokens ++ ts) src left at_path

-- ---- places

abbrev place : ℕ → ℕ → ℕ → Place
place f l c = record { file = f; line = l; column = c }

feeds_more : (before : List ℕ) (c n : ℕ) (t : Bool) → eqb c 10 ≡ t → n ≡ count_by (λ q. eqb q 10) before + cond t 1 0 →
    count_by (λ q. eqb q 10) (before ++ c ∷ []) ≡ n
feeds_more before c n t e h = sum_by-append (λ q. cond (eqb q 10) 1 0) before (c ∷ []) ∙ rw e (omega (arith, h))

step_is : (file : ℕ) (before : List ℕ) (c : ℕ) (t : Bool) → eqb c 10 ≡ t → place_at file (before ++ c ∷ []) ≡ step (place_at file before) c
step_is file before c true e =
    let back = reverse-append before (c ∷ []) in
    let lines = feeds_more before c (count_by (λ q. eqb q 10) before + 1) true e refl in
    rw (lines, back, e) (ap (λ (n : ℕ). place file n 1) (omega arith))
step_is file before c false e =
    let back = reverse-append before (c ∷ []) in
    let lines = feeds_more before c (count_by (λ q. eqb q 10) before) false e (omega arith) in
    rw (lines, back, e) (ap (λ (n : ℕ). place file (1 + count_by (λ q. eqb q 10) before) n) (omega arith))

-- the place behind more bytes
pub place_more : (file : ℕ) (before s : List ℕ) → place_at file (before ++ s) ≡ advanced (place_at file before) s
place_more file before [] = ap (place_at file) (append-nil before)
place_more file before (c ∷ s) =
    ap (place_at file) (sym (append_assoc before (c ∷ []) s)) ∙ place_more file (before ++ c ∷ []) s ∙ ap (λ p. advanced p s)
    (step_is file before c _ refl)

-- a place of the file and what stands behind it
pub record At (file : ℕ) (src : List ℕ) (p : Place) (rest : List ℕ) : Type 0 where
  pub before : List ℕ
  pub split : src ≡ before ++ rest
  pub place_is : p ≡ place_at file before

pub reached_at : (file : ℕ) (src : List ℕ) (tokens : List Token) (p : Place) (b : Bool) (rest : List ℕ) → Reached file src tokens p b rest →
    At file src p rest
reached_at file src tokens p b rest r = record { before = r.before; split = r.split; place_is = r.place_is }

pub at_more : (file : ℕ) (src : List ℕ) (p q : Place) (a rest s : List ℕ) → At file src p s → s ≡ a ++ rest → q ≡ advanced p a →
    At file src q rest
at_more file src p q a rest s r e k = record {
  before = r.before ++ a;
  split = r.split ∙ ap (λ l. r.before ++ l) e ∙ sym (append_assoc r.before a rest);
  place_is = k ∙ ap (λ z. advanced z a) r.place_is ∙ sym (place_more file r.before a);
}

length-back : (s : List ℕ) → length (reverse s) ≡ length s
length-back s = length-reverse s

place_within : (file : ℕ) (before : List ℕ) → ((place_at file before).line ≤ 1 + length before) ×
    ((place_at file before).column ≤ 1 + length before)
place_within file before = (
  omega (arith, count_by-le-length (λ q. eqb q 10) before),
  omega
      (arith, run_within is_not_feed (reverse before), length-back before),
)

-- a place is within the file
pub at_lines : (file : ℕ) (src : List ℕ) (p : Place) (rest : List ℕ) → At file src p rest → p.line + length rest ≤ 1 + length src
at_lines file src p rest r =
    let n = ap length r.split ∙ length-append r.before rest in
    let l : p.line ≡ (place_at file r.before).line = ap (λ (q : Place). q.line) r.place_is in
    omega (arith, n, l, (place_within file r.before).0)

pub at_columns : (file : ℕ) (src : List ℕ) (p : Place) (rest : List ℕ) → At file src p rest → p.column + length rest ≤ 1 + length src
at_columns file src p rest r =
    let n = ap length r.split ∙ length-append r.before rest in
    let l : p.column ≡ (place_at file r.before).column = ap (λ (q : Place). q.column) r.place_is in
    omega (arith, n, l, (place_within file r.before).1)

-- ---- blanks and comments

-- what a text is from within a comment on
record InComment (s : List ℕ) : Type 0 where
  body : List ℕ
  rest : List ℕ
  split : s ≡ body ++ rest
  each : list_all is_not_feed body ≡ true
  ends : ends_line rest ≡ true
  parts : List (List ℕ)
  gap : Gap parts rest (skipped true s)

abbrev GapOf : Bool → List ℕ → Type 0
GapOf false s = (parts : List (List ℕ)) × Gap parts s (skipped false s)
GapOf true s = InComment s

same_byte : (c k : ℕ) → eqb c k ≡ true → c ≡ k
same_byte c k h = grind (arith, nat_tests)

comment_step : (c : ℕ) (s : List ℕ) (t : Bool) → eqb c 10 ≡ t → GapOf false s → InComment s → InComment (c ∷ s)
comment_step c s true e g r =
    let blank : is_blank c ≡ true = ap is_blank (same_byte c 10 e) in
    record {
      body = [];
      rest = c ∷ s;
      split = refl;
      each = refl;
      ends = e;
      parts = (c ∷ []) ∷ g.0;
      gap =
          (s, refl, inl (c, refl, blank), rw e g.1);
    }
comment_step c s false e g r =
    record {
      body = c ∷ r.body;
      rest = r.rest;
      split = ap (λ l. c ∷ l) r.split;
      each = rw e r.each;
      ends = r.ends;
      parts = r.parts;
      gap = rw
          e r.gap;
    }

comment_open : (c : ℕ) (s : List ℕ) (body rest : List ℕ) (parts : List (List ℕ)) (left : List ℕ) →
    (eqb c 47 && eqb (get_or s 0 0) 47) ≡ true → s ≡ body ++ rest → list_all is_not_feed body ≡ true → ends_line rest ≡ true →
    Gap parts rest left → Gap ((c ∷ body) ∷ parts) (c ∷ s) left
comment_open c s [] [] parts left e k h z g =
    let none : eqb 0 47 ≡ true = subst (λ (l : List ℕ). eqb (get_or l 0 0) 47 ≡ true) k (and_right _ _ e) in absurd (cc)
comment_open c s [] (d ∷ rest) parts left e k h z g =
    let slash : eqb d 47 ≡ true = subst (λ (l : List ℕ). eqb (get_or l 0 0) 47 ≡ true) k (and_right _ _ e) in
    let feed : eqb 47 10 ≡ true = subst (λ q. eqb q 10 ≡ true) (same_byte d 47 slash) z in absurd (cc)
comment_open c s (d ∷ body) rest parts left e k h z g =
    let one = same_byte c 47 (and_left _ _ e) in
    let slash : eqb d 47 ≡ true = subst (λ (l : List ℕ). eqb (get_or l 0 0) 47 ≡ true) k (and_right _ _ e) in
    let two = same_byte d 47 slash in
    (rest, ap (λ l. c ∷ l) k, inr (body, ap (λ q. q ∷ d ∷ body) one ∙ ap (λ q. 47 ∷ q ∷ body) two, and_right _ _ h, z), g)

gap_step : (c : ℕ) (s : List ℕ) (t b : Bool) → (eqb c 47 && eqb (get_or s 0 0) 47) ≡ t → is_blank c ≡ b → GapOf false s → InComment s →
    (parts : List (List ℕ)) × Gap parts (c ∷ s) (cond t (skipped true s) (cond b (skipped false s) (c ∷ s)))
gap_step c s true b e f g r = (
  (c ∷ r.body) ∷ r.parts,
  comment_open c s r.body r.rest r.parts (skipped true s) e r.split r.each r.ends
      r.gap,
)
gap_step c s false true e f g r = ((c ∷ []) ∷ g.0, (s, refl, inl (c, refl, f), g.1))
gap_step c s false false e f g r = ([], (refl, rw (f, e) refl))

gap_of : (b : Bool) (s : List ℕ) → GapOf b s
gap_of false [] = ([], (refl, refl))
gap_of true [] = record { body = []; rest = []; split = refl; each = refl; ends = refl; parts = []; gap = (refl, refl) }
gap_of true (c ∷ s) = comment_step c s (eqb c 10) refl (gap_of false s) (gap_of true s)
gap_of false (c ∷ s) = gap_step c s _ _ refl refl (gap_of false s) (gap_of true s)

-- what is skipped is a gap
pub gap_skipped : (s : List ℕ) → (parts : List (List ℕ)) × Gap parts s (skipped false s)
gap_skipped s = gap_of false s

-- ---- one more token

-- behind a gap and a token that stands
pub reached_more : (file : ℕ) (src : List ℕ) (tokens : List Token) (p at q : Place) (b : Bool) (rest blank text word more : List ℕ)
    (parts : List (List ℕ)) (t : Token) → Reached file src tokens p b rest → Gap parts rest text → rest ≡ blank ++ text →
    at ≡ advanced p blank → t.place ≡ at → text ≡ word ++ more → Stands b t word more → q ≡ advanced at word →
    Reached file src (tokens ++ t ∷ []) q (is_path_mark t.kind t.text) more
reached_more file src tokens p at q b rest blank text word more parts t r g e a k w st z =
    let here : t.place ≡ place_at file (r.before ++ blank) =
    k ∙ a ∙ ap (λ y. advanced y blank) r.place_is ∙ sym (place_more file r.before blank) in
    let gap : Gap parts rest (word ++ more) = subst (Gap parts rest) w g in
    let joined : rest ≡ blank ++ (word ++ more) = e ∙ ap (λ l. blank ++ l) w in
    record {
      before = r.before ++ (blank ++ word);
      split = r.split ∙ ap (λ l. r.before ++ l) (joined ∙ sym (append_assoc blank word more)) ∙ sym
          (append_assoc r.before (blank ++ word) more);
      place_is = z ∙ ap (λ y. advanced y word) (sym k ∙ here) ∙ sym (place_more file (r.before ++ blank) word) ∙ ap (place_at file)
          (append_assoc r.before blank word);
      goes_on = λ ts left at_path h.
          subst (λ l. Reads file [] false l src left at_path) (sym (append_assoc tokens (t ∷ []) ts))
          (r.goes_on (t ∷ ts) left at_path (parts, word, more, blank, gap, joined, here, st, h));
    }

-- the end of the file
pub all_read : (file : ℕ) (src : List ℕ) (tokens new : List Token) (p at : Place) (b : Bool) (rest blank text : List ℕ)
    (parts : List (List ℕ)) → Reached file src tokens p b rest → Gap parts rest text → rest ≡ blank ++ text → length text ≡ 0 →
    at ≡ advanced p blank → IsUtf8 src → new ≡ tokens ++ end_at at ∷ [] → IsTokens file src new
all_read file src tokens new p at b rest blank [] parts r g e l a u k =
    let whole : src ≡ r.before ++ blank = r.split ∙ ap (λ w. r.before ++ w) (e ∙ append-nil blank) in
    let here : at ≡ place_at file src = a ∙ ap (λ y. advanced y blank) r.place_is ∙ sym (place_more file r.before blank) ∙ ap
    (place_at file) (sym whole) in
    record {
      utf8 = u;
      spelled_by = tokens;
      at_path = b;
      reads = subst (λ (w : List Token). Reads file [] false w src [] b) (append-nil tokens) (r.goes_on [] [] b (parts, g, refl));
      tokens_are = k ∙ ap (λ y. tokens ++ end_at y ∷ []) here;
    }
all_read file src tokens new p at b rest blank (c ∷ text) parts r g e l a u k = absurd (omega arith)

-- the first break: where the lexer stood, the gap that it passed, the break behind it, and what the lexer stops with
pub record IsBroken (file : ℕ) (src : List ℕ) (tokens : List Token) (p at q : Place) (b : Bool) (rest blank text : List ℕ)
    (parts : List (List ℕ)) (number offset : ℕ) (stop : LexStop) : Type 0 where
  pub reached : Reached file src tokens p b rest
  pub gap : Gap parts rest text
  pub passed : rest ≡ blank ++ text
  pub begins_at : at ≡ advanced p blank
  pub utf8 : IsUtf8 src
  pub breaks : Break b text number offset
  pub breaks_at : q ≡ advanced at (take offset text)
  pub stopped : Stopped tokens number q stop

pub broken_at : (file : ℕ) (src : List ℕ) (tokens : List Token) (p at q : Place) (b : Bool) (rest blank text : List ℕ)
    (parts : List (List ℕ)) (number offset : ℕ) (stop : LexStop) →
    IsBroken file src tokens p at q b rest blank text parts number offset stop → Stops file src stop
broken_at file src tokens p at q b rest blank text parts number offset stop.Memory c = tt
broken_at file src tokens p at q b rest blank text parts number offset (stop.Fault fault kept) c =
    let r = c.reached in
    let whole : src ≡ (r.before ++ blank) ++ text = r.split ∙ ap (λ w. r.before ++ w) c.passed ∙ sym (append_assoc r.before blank text) in
    let here : at ≡ place_at file (r.before ++ blank) =
    c.begins_at ∙ ap (λ y. advanced y blank) r.place_is ∙ sym (place_more file r.before blank) in
    let there : q ≡ place_at file ((r.before ++ blank) ++ take offset text) =
    c.breaks_at ∙ ap (λ y. advanced y (take offset text)) here ∙ sym (place_more file (r.before ++ blank) (take offset text)) in
    inr (record {
      utf8 = c.utf8;
      spelled_by = tokens;
      at_path = b;
      before = r.before ++ blank;
      left = text;
      number = number;
      offset = offset;
      text_is = whole;
      reads = subst (λ (w : List Token). Reads file [] false w src text b) (append-nil tokens)
          (r.goes_on [] text b (parts, c.gap, refl));
      breaks = c.breaks;
      fault_is = c.stopped.0 ∙ ap (λ y. record { number = number; place = y }) there;
      kept_are = c.stopped.1 ∙ ap (λ y. tokens ++ end_at y ∷ []) there;
    })
