-- The tokens of a file stand in their order, and are few.
use Rattle.std.proofs.Common.{◌≡◌, ℕ, ◌+◌, ◌<◌, ◌≤◌, List, [], ◌∷◌, ◌++◌, Bool, true, false, length, take, refl, sym, ap, ◌∙◌, subst, arith, append_assoc, length-append, Result, Ok, Err, IfOk}
use Rattle.std.specs.Prelude.{◌||◌, ◌==◌, nat_lt, All, if◌then◌else◌}
use Rattle.std.proofs.Math.Logic.{⊎_elim}
use Rattle.std.proofs.lemmas.Bool.{lt-ltb, eq-eqb}
use Rattle.std.proofs.lemmas.List.{append_cancel_right}
use Rattle.std.proofs.lemmas.List.Elements.{All-cons}
use Rattle.std.proofs.lemmas.List.Kept.{AllPairs-cons}
use Rattle.std.proofs.lemmas.List.Sums.{sum_by-append, sum_by-cons}
use Rattle.hare_tree.specs.declared.place.Place.{Place}
use Rattle.hare_tree.specs.declared.place.Fault.{Fault}
use Rattle.hare_tree.specs.declared.token.Token.{Token}
use Rattle.hare_tree.specs.Tokens.{Gap, Reads, IsTokens, NotUtf8, Broken, IsFirstBreak, is_path_mark, place_at, end_at}
use Rattle.hare_tree.specs.Grammar.{is_string}
use Rattle.hare_tree.specs.Size.{string_bytes_in}
use Rattle.hare_lex.specs.declared.stop.LexStop.{LexStop}
use Rattle.hare_lex.specs.Lexing.{step, advanced}
use Rattle.hare_lex.specs.Order.{is_before, AreOfFile, Ascend, AreInOrder, TokensAreInOrder, KeptAreInOrder}
use Rattle.hare_lex.specs.Sizes.{AreFew, TokensAreFew, KeptAreFew}
use Rattle.hare_lex.proofs.Fronts.Firsts.{first_of_kind}
use Rattle.hare_lex.proofs.Turns.Progress.{place_more}
use Rattle.hare_lex.proofs.Order.Shorter.{no_longer}

-- ---- places

-- in the same file, on a later line or there in a later column
data Further (p q : Place) : Type 0 where
  line : p.file ≡ q.file → p.line < q.line → Further p q
  column : p.file ≡ q.file → p.line ≡ q.line → p.column < q.column → Further p q

or_true : (b : Bool) → (b || true) ≡ true
or_true true = refl
or_true false = refl

or_two : (a b : Bool) → (a || (b || true)) ≡ true
or_two a b = rw or_true (or_true a)

further_before : (p q : Place) → Further p q → is_before p q ≡ true
further_before p q (line f l) = rw (f, eq-eqb q.file q.file refl, lt-ltb _ _ l) (or_true (nat_lt q.file q.file))
further_before p q (column f l c) = rw (f, l, eq-eqb q.file q.file refl, eq-eqb q.line q.line refl, lt-ltb _ _ c)
    (or_two (nat_lt q.file q.file) (nat_lt q.line q.line))

further_still : (p q r : Place) → Further p q → Further q r → Further p r
further_still p q r (line f l) (line g m) = line (f ∙ g) (omega (arith, l, m))
further_still p q r (line f l) (column g m c) = line (f ∙ g) (omega (arith, l, m))
further_still p q r (column f l b) (line g m) = line (f ∙ g) (omega (arith, l, m))
further_still p q r (column f l b) (column g m c) = column (f ∙ g) (l ∙ m) (omega (arith, b, c))

step_further : (p : Place) (c : ℕ) → Further p (step p c)
step_further p c = by (c == 10)
  where
    by : (b : Bool) → Further p (if b then record { file = p.file; line = p.line + 1; column = 1 } else
        record { file = p.file; line = p.line; column = p.column + 1 })
    by true = line refl (omega arith)
    by false = column refl refl (omega arith)

advanced_further : (p : Place) (s : List ℕ) → 0 < length s → Further p (advanced p s)
advanced_further p [] h = absurd (omega (arith, h))
advanced_further p (c ∷ []) h = step_further p c
advanced_further p (c ∷ d ∷ s) h = further_still p (step p c) (advanced (step p c) (d ∷ s)) (step_further p c)
    (advanced_further (step p c) (d ∷ s) (omega arith))

-- the place behind some bytes is before the one behind more
place_before : (file : ℕ) (a b : List ℕ) → 0 < length b → is_before (place_at file a) (place_at file (a ++ b)) ≡ true
place_before file a b h =
    let f = further_before (place_at file a) (advanced (place_at file a) b) (advanced_further (place_at file a) b h) in
    subst (λ q. is_before (place_at file a) q ≡ true) (sym (place_more file a b)) f

-- ---- what is read

-- what stands in front of a token
gap_bytes : (ps : List (List ℕ)) (text left : List ℕ) → Gap ps text left → (gap : List ℕ) × (text ≡ gap ++ left)
gap_bytes [] text left g = ([], g.0)
gap_bytes (p ∷ ps) text left g =
    let r = gap_bytes ps g.0 left g.3 in
    (p ++ r.0, g.1 ∙ ap (λ s. p ++ s) r.1 ∙ sym (append_assoc p r.0 left))

-- the bytes of the strings of tokens
abbrev bytes : Token → ℕ
bytes t = if is_string t.kind then length t.text else 0

string_most : (t : Token) (n : ℕ) → length t.text ≤ n → bytes t ≤ n
string_most t n h = by (is_string t.kind)
  where
    by : (b : Bool) → (if b then length t.text else 0) ≤ n
    by true = h
    by false = omega arith

-- a token stands behind these bytes of the file
abbrev Behind : ℕ → List ℕ → Token → Type 0
Behind file before t = is_before (place_at file before) t.place ≡ true

-- What is known of the tokens that stand behind these bytes of the file, with End so many bytes behind them: the text is what is read and
-- what is left, each token stands behind what stands in front of it, and they are few.
record Facts (file : ℕ) (before : List ℕ) (ts : List Token) (text left more : List ℕ) : Type 0 where
  read : List ℕ
  text_is : text ≡ read ++ left
  of_file : AreOfFile file (ts ++ end_at (place_at file (before ++ (read ++ more))) ∷ [])
  behind : (a b : List ℕ) → before ≡ a ++ b → 0 < length b →
      All (Behind file a) (ts ++ end_at (place_at file (before ++ (read ++ more))) ∷ [])
  ascend : Ascend (ts ++ end_at (place_at file (before ++ (read ++ more))) ∷ [])
  few : length ts + length left ≤ length text
  strings : string_bytes_in ts + length left ≤ length text

of_file_cons : (file : ℕ) (t : Token) (ts : List Token) → t.place.file ≡ file → AreOfFile file ts → AreOfFile file (t ∷ ts)
of_file_cons file t ts p h = rw (p, eq-eqb file file refl) h

ascend_nil : Ascend []
ascend_nil i j d h k = absurd (omega (arith, k))

all_nil : (P : Token → Type 0) → All P []
all_nil P i d h = absurd (omega (arith, h))

-- a place further on in the file
end_before : (file : ℕ) (a c x before : List ℕ) → before ≡ a ++ c → 0 < length c →
    is_before (place_at file a) (place_at file (before ++ x)) ≡ true
end_before file a c x before e h =
    let w : before ++ x ≡ a ++ (c ++ x) = ap (λ y. y ++ x) e ∙ append_assoc a c x in
    subst (λ y. is_before (place_at file a) (place_at file y) ≡ true) (sym w)
    (place_before file a (c ++ x) (omega (arith, h, length-append c x)))

no_tokens : (file : ℕ) (before gap left text more : List ℕ) → text ≡ gap ++ left → Facts file before [] text left more
no_tokens file before gap left text more e =
    let x = gap ++ more in
    let last = end_at (place_at file (before ++ x)) in
    let n = ap length e in
    record {
      read = gap;
      text_is = e;
      of_file = of_file_cons file last [] refl refl;
      behind = λ a c d h. All-cons (Behind file a) last [] (end_before file a c x before d h) (all_nil (Behind file a));
      ascend = AllPairs-cons (λ t u. is_before t.place u.place ≡ true) last [] (all_nil (λ u. is_before last.place u.place ≡ true))
          ascend_nil;
      few = omega (arith, n, length-append gap left);
      strings = omega (arith, n, length-append gap left);
    }

-- one token in front of others
one_more : (file : ℕ) (before blank s rest left text more : List ℕ) (t : Token) (ts : List Token) → text ≡ blank ++ (s ++ rest) →
    t.place ≡ place_at file (before ++ blank) → 0 < length s → length t.text ≤ length s →
    Facts file (before ++ (blank ++ s)) ts rest left more → Facts file before (t ∷ ts) text left more
one_more file before blank s rest left text more t ts e p h x f =
    let read = blank ++ (s ++ f.read) in
    let y : (before ++ (blank ++ s)) ++ (f.read ++ more) ≡ before ++ (read ++ more) = whole before blank s f.read more in
    let others = λ (w : List ℕ). ts ++ end_at (place_at file w) ∷ [] in
    let here : t.place.file ≡ file = ap (λ q. q.file) p in
    let n = ap length e in
    let l = length-append blank (s ++ rest) in
    let m = length-append s rest in
    record {
      read = read;
      text_is = e ∙ ap (λ z. blank ++ (s ++ z)) f.text_is ∙ ap (λ z. blank ++ z) (sym (append_assoc s f.read left)) ∙ sym
          (append_assoc blank (s ++ f.read) left);
      of_file = of_file_cons file t _ here (subst (λ w. AreOfFile file (others w)) y f.of_file);
      behind = λ a c d k. All-cons (Behind file a) t (others (before ++ (read ++ more)))
          (subst (λ q. is_before (place_at file a) q ≡ true) (sym p) (end_before file a c blank before d k))
          (subst (λ w. All (Behind file a) (others w)) y
          (f.behind a (c ++ (blank ++ s)) (ap (λ z. z ++ (blank ++ s)) d ∙ append_assoc a c (blank ++ s))
          (omega (arith, k, length-append c (blank ++ s)))));
      ascend = AllPairs-cons (λ u v. is_before u.place v.place ≡ true) t (others (before ++ (read ++ more)))
          (subst (λ q. All (λ u. is_before q u.place ≡ true) (others (before ++ (read ++ more)))) (sym p)
          (subst (λ w. All (Behind file (before ++ blank)) (others w)) y
          (f.behind (before ++ blank) s (sym (append_assoc before blank s)) h)))
          (subst (λ w. Ascend (others w)) y f.ascend);
      few = omega (arith, n, l, m, h, f.few);
      strings = omega (arith, n, l, m, string_most t (length s) x, sum_by-cons bytes t ts, f.strings);
    }
  where
    whole : (b c d r m : List ℕ) → (b ++ (c ++ d)) ++ (r ++ m) ≡ b ++ ((c ++ (d ++ r)) ++ m)
    whole b c d r m =
        append_assoc b (c ++ d) (r ++ m)
        ∙ ap (λ z. b ++ z) (append_assoc c d (r ++ m) ∙ ap (λ z. c ++ z) (sym (append_assoc d r m)) ∙ sym (append_assoc c (d ++ r) m))

facts : (file : ℕ) (before : List ℕ) (b : Bool) (ts : List Token) (text left more : List ℕ) (p : Bool) →
    Reads file before b ts text left p → Facts file before ts text left more
facts file before b [] text left more p r = let g = gap_bytes r.0 text left r.1 in no_tokens file before g.0 left text more g.1
facts file before b (t ∷ ts) text left more p r =
    let blank = r.3 in
    let spells = r.7.fits.spells in
    one_more file before blank r.1 r.2 left text more t ts r.5 r.6 (first_of_kind t.kind t.text t.number t.suffix r.1 spells).0
    (no_longer t.kind t.text t.number t.suffix r.1 spells)
    (facts file (before ++ (blank ++ r.1)) (is_path_mark t.kind t.text) ts r.2 left more p r.8)

-- ---- files

-- what is known of the tokens that a file has, or has before its break
record Known (file : ℕ) (text : List ℕ) (ts : List Token) : Type 0 where
  order : AreInOrder file ts
  few : AreFew text ts

known : (file : ℕ) (text left more : List ℕ) (ts all : List Token) → (f : Facts file [] ts text left more) →
    all ≡ ts ++ end_at (place_at file (f.read ++ more)) ∷ [] → Known file text all
known file text left more ts all f e =
    let end = end_at (place_at file (f.read ++ more)) in
    record {
      order = rw e (record { of_file = f.of_file; ascend = f.ascend });
      few = rw e (record {
        tokens = omega (arith, length-append ts (end ∷ []), f.few);
        strings = omega (arith, sum_by-append bytes ts (end ∷ []), f.strings);
      });
    }

tokens_known : (file : ℕ) (text : List ℕ) (ts : List Token) → IsTokens file text ts → Known file text ts
tokens_known file text ts h =
    let f = facts file [] false h.spelled_by text [] [] h.at_path h.reads in
    let r : text ≡ f.read ++ [] = f.text_is in
    known file text [] [] h.spelled_by ts f (h.tokens_are ∙ ap (λ w. h.spelled_by ++ end_at (place_at file w) ∷ []) r)

broken_known : (file : ℕ) (text : List ℕ) (fault : Fault) (kept : List Token) → Broken file text fault kept → Known file text kept
broken_known file text fault kept h =
    let more = take h.offset h.left in
    let f = facts file [] false h.spelled_by text h.left more h.at_path h.reads in
    let r : h.before ≡ f.read = append_cancel_right h.before f.read h.left (sym h.text_is ∙ f.text_is) in
    known file text h.left more h.spelled_by kept f (h.kept_are ∙ ap (λ w. h.spelled_by ++ end_at (place_at file (w ++ more)) ∷ []) r)

none_known : (file : ℕ) (text : List ℕ) (fault : Fault) (kept : List Token) → NotUtf8 file text fault kept → Known file text kept
none_known file text fault kept h =
    let end = end_at (place_at file (take h.valid text)) in
    record {
      order = rw (h.kept_are) (record {
        of_file = of_file_cons file end [] refl refl;
        ascend = AllPairs-cons
            (λ t u. is_before t.place u.place ≡ true) end [] (all_nil (λ u. is_before end.place u.place ≡ true)) ascend_nil;
      });
      few = rw (h.kept_are) (record { tokens = omega arith; strings = omega arith });
    }

break_known : (file : ℕ) (text : List ℕ) (fault : Fault) (kept : List Token) → IsFirstBreak file text fault kept → Known file text kept
break_known file text fault kept h = ⊎_elim (none_known file text fault kept) (broken_known file text fault kept) h

pub tokens_are_in_order : TokensAreInOrder
tokens_are_in_order file text ts h = (tokens_known file text ts h).order

pub kept_are_in_order : KeptAreInOrder
kept_are_in_order file text fault kept h = (break_known file text fault kept h).order

pub tokens_are_few : TokensAreFew
tokens_are_few file text ts h = (tokens_known file text ts h).few

pub kept_are_few : KeptAreFew
kept_are_few file text fault kept h = (break_known file text fault kept h).few

-- what a call gives
pub found_in_order : (file : ℕ) (text : List ℕ) (result : Result (List Token) LexStop) → IfOk result (λ ts. IsTokens file text ts) →
    IfOk result (λ ts. AreInOrder file ts)
found_in_order file text (Ok ts) h = tokens_are_in_order file text ts h
found_in_order file text (Err e) h = tt
