-- A file has one list of tokens, or one first break with its kept tokens.
use Rattle.std.proofs.Common.{◌≡◌, ℕ, List, [], ◌∷◌, ◌++◌, Bool, false, Result, Ok, Err, IfOk, IfErr, length, take, drop, refl, sym, ap, ◌∙◌, arith, subst, inl, inr, ◌⊎◌, length-append}
use Rattle.std.proofs.Math.Logic.{⊎_elim}
use Rattle.std.proofs.Math.Seq.{drop-append_seam}
use Rattle.std.proofs.lemmas.Str.{utf8_valid_len-IsValidUpTo}
use Rattle.hare_tree.specs.declared.place.Place.{Place}
use Rattle.hare_tree.specs.declared.place.Fault.{Fault}
use Rattle.hare_tree.specs.declared.token.Token.{Token}
use Rattle.hare_tree.specs.Tokens.{Reads, Stands, Break, IsTokens, NotUtf8, Broken, IsFirstBreak, is_path_mark, place_at, end_at}
use Rattle.hare_tree.specs.Spelling.{IsSpelling}
use Rattle.hare_lex.specs.declared.stop.LexStop.{LexStop}
use Rattle.hare_lex.specs.declared.stop.LexStop.TheVariants as stop
use Rattle.hare_lex.specs.Stops.{Stops, GivesTokens, GivesFault}
use Rattle.hare_lex.proofs.Fronts.Lists.{same_front}
use Rattle.hare_lex.proofs.Fronts.Firsts.{first_of_kind}
use Rattle.hare_lex.proofs.Turns.Gaps.{gap_is}
use Rattle.hare_lex.proofs.Whole.Same.{alike}
use Rattle.hare_lex.proofs.Whole.Tokens.{fits_same, break_stands, break_once}

-- nothing is left, or a break
abbrev pub Final : Bool → List ℕ → Type 0
Final b left = (left ≡ []) ⊎ ((n : ℕ) × (o : ℕ) × Break b left n o)

no_more : (b : Bool) (t : Token) (s rest left : List ℕ) → Final b left → left ≡ s ++ rest → Stands b t s rest → ⊥
no_more b t s rest left f e st = ⊎_elim
    (λ z.
    let some = (first_of_kind t.kind t.text t.number t.suffix s st.fits.spells).0 in
    let none = ap length (sym z ∙ e) ∙ length-append s rest in
    absurd (omega (arith, some, none)))
    (λ k. break_stands b t s rest left k.0 k.1 e st k.2)
    f

-- what two readings of one text have in common
pub record Ends (ts us : List Token) (left left' : List ℕ) (p p' : Bool) : Type 0 where
  pub tokens : ts ≡ us
  pub left_is : left ≡ left'
  pub path : p ≡ p'

-- what stands in front of the same rest is the same
pub same_before : (a b c d : List ℕ) → a ++ c ≡ b ++ d → c ≡ d → a ≡ b
same_before a b c d e k =
    let n = ap length e in
    let m = ap length k in
    same_front a b c d e (omega (arith, n, m, length-append a c, length-append b d))

same_token : (t u : Token) → t.kind ≡ u.kind → t.place ≡ u.place → t.text ≡ u.text → t.number ≡ u.number → t.suffix ≡ u.suffix → t ≡ u
same_token t u a b c d e = λ i. record { kind = a i; place = b i; text = c i; number = d i; suffix = e i }

-- one token at the same place
pub record OneToken (t u : Token) (s s' rest rest' : List ℕ) : Type 0 where
  pub token : t ≡ u
  pub spelling : s ≡ s'
  pub behind : rest ≡ rest'

pub one_token : (b : Bool) (t u : Token) (s s' rest rest' : List ℕ) → Stands b t s rest → Stands b u s' rest' → s ++ rest ≡ s' ++ rest' →
    t.place ≡ u.place → OneToken t u s s' rest rest'
one_token b t u s s' rest rest' st su e p =
    let same = fits_same t u s rest s' rest' st.fits su.fits e in
    let like = alike t.kind u.kind t.text u.text t.number u.number t.suffix u.suffix s st.fits.spells
    (subst (λ l. IsSpelling u l) (sym same) su.fits.spells) in
    let behind : rest ≡ rest' = sym (drop-append_seam s rest) ∙ ap (drop (length s)) e ∙ ap (λ n. drop n (s' ++ rest')) (ap length same) ∙
    drop-append_seam s' rest' in
    record { token = same_token t u like.kind p like.text_is like.number like.suffix_is; spelling = same; behind = behind }

-- one reading
pub reads_once : (file : ℕ) (ts us : List Token) (before : List ℕ) (b : Bool) (text left left' : List ℕ) (p p' : Bool) →
    Reads file before b ts text left p → Reads file before b us text left' p' → Final p left → Final p' left' → Ends ts us left left' p p'
reads_once file [] [] before b text left left' p p' r q f g =
    record { tokens = refl; left_is = sym (gap_is r.0 text left r.1) ∙ gap_is q.0 text left' q.1; path = r.2 ∙ sym q.2 }
reads_once file [] (u ∷ us) before b text left left' p p' r q f g =
    let e = sym (gap_is r.0 text left r.1) ∙ gap_is q.0 text (q.1 ++ q.2) q.4 in
    absurd (no_more b u q.1 q.2 left (subst (λ c. Final c left) r.2 f) e q.7)
reads_once file (t ∷ ts) [] before b text left left' p p' r q f g =
    let e = sym (gap_is q.0 text left' q.1) ∙ gap_is r.0 text (r.1 ++ r.2) r.4 in
    absurd (no_more b t r.1 r.2 left' (subst (λ c. Final c left') q.2 g) e r.7)
reads_once file (t ∷ ts) (u ∷ us) before b text left left' p p' r q f g =
    let e : r.1 ++ r.2 ≡ q.1 ++ q.2 = sym (gap_is r.0 text (r.1 ++ r.2) r.4) ∙ gap_is q.0 text (q.1 ++ q.2) q.4 in
    let blank : r.3 ≡ q.3 = same_before r.3 q.3 (r.1 ++ r.2) (q.1 ++ q.2) (sym r.5 ∙ q.5) e in
    let place = r.6 ∙ ap (λ l. place_at file (before ++ l)) blank ∙ sym q.6 in
    let one = one_token b t u r.1 q.1 r.2 q.2 r.7 q.7 e place in
    let path = ap (λ (k : Token). is_path_mark k.kind k.text) one.token in
    let next : Reads file (before ++ (r.3 ++ r.1)) (is_path_mark t.kind t.text) us r.2 left' p' =
    subst (λ c. Reads file (before ++ (r.3 ++ r.1)) c us r.2 left' p') (sym path)
    (subst (λ l. Reads file (before ++ (r.3 ++ r.1)) (is_path_mark u.kind u.text) us l left' p') (sym one.behind)
    (subst (λ l. Reads file (before ++ l) (is_path_mark u.kind u.text) us q.2 left' p')
    (ap (λ l. l ++ q.1) (sym blank) ∙ ap (λ l. r.3 ++ l) (sym one.spelling)) q.8)) in
    let more = reads_once file ts us (before ++ (r.3 ++ r.1)) (is_path_mark t.kind t.text) r.2 left left' p p' r.8 next f g in
    record { tokens = ap (λ k. k ∷ ts) one.token ∙ ap (λ l. u ∷ l) more.tokens; left_is = more.left_is; path = more.path }

-- one list of tokens
tokens_once : (file : ℕ) (src : List ℕ) (ts us : List Token) → IsTokens file src ts → IsTokens file src us → ts ≡ us
tokens_once file src ts us h g =
    let e = reads_once file h.spelled_by g.spelled_by [] false src [] [] h.at_path g.at_path h.reads g.reads (inl refl) (inl refl) in
    h.tokens_are ∙ ap (λ l. l ++ end_at (place_at file src) ∷ []) e.tokens ∙ sym g.tokens_are

nil_cons : (c : ℕ) (s : List ℕ) → [] ≡ c ∷ s → ⊥
nil_cons c s e = cc

nil_word : (t : Token) (w rest : List ℕ) → [] ≡ w ++ rest → IsSpelling t w → ⊥
nil_word t w rest e h =
    let some = (first_of_kind t.kind t.text t.number t.suffix w h).0 in
    let none = ap length e ∙ length-append w rest in
    absurd (omega (arith, some, none))

-- no break where nothing is left
empty_break : (b : Bool) (n o : ℕ) → Break b [] n o → ⊥
empty_break b n o h = ⊎_elim
    (λ a. nil_cons a.2.first a.2.rest a.2.text_is)
    (⊎_elim
    (λ a. ⊎_elim (λ e. nil_cons 34 (e.content ++ 34 ∷ e.rest) e.text_is) (λ e. nil_cons 39 (e.content ++ 39 ∷ e.rest) e.text_is) a.1)
    (⊎_elim
    (λ a. nil_cons a.2.quote a.2.behind a.2.text_is)
    (⊎_elim
    (λ a. nil_word a.2.token a.2.number a.2.rest a.2.text_is a.2.fits.spells)
    (λ a. ⊎_elim (λ w. nil_word w.token w.word w.rest w.text_is w.fits.spells)
    (⊎_elim (λ w. nil_word w.token w.number w.rest w.text_is w.fits.spells) (λ w. nil_cons 64 w.0 w.1)) a.2))))
    h

tokens_or_break : (file : ℕ) (src : List ℕ) (ts kept : List Token) (fault : Fault) → IsTokens file src ts →
    IsFirstBreak file src fault kept → ⊥
tokens_or_break file src ts kept fault h g = ⊎_elim
    (λ a. a.not_utf8 h.utf8)
    (λ a.
    let e = reads_once file h.spelled_by a.spelled_by [] false src [] a.left h.at_path a.at_path h.reads a.reads (inl refl)
    (inr (a.number, a.offset, a.breaks)) in
    empty_break a.at_path a.number a.offset (subst (λ l. Break a.at_path l a.number a.offset) (sym e.left_is) a.breaks))
    g

-- one first break, with one list of kept tokens
record OneBreak (f g : Fault) (kept other : List Token) : Type 0 where
  fault : f ≡ g
  tokens : kept ≡ other

utf8_once : (file : ℕ) (src : List ℕ) (f g : Fault) (kept other : List Token) → NotUtf8 file src f kept → NotUtf8 file src g other →
    OneBreak f g kept other
utf8_once file src f g kept other a b =
    let same : a.valid ≡ b.valid = sym (utf8_valid_len-IsValidUpTo src a.valid a.valid_up_to) ∙ utf8_valid_len-IsValidUpTo src b.valid
    b.valid_up_to in
    record {
      fault = a.fault_is ∙ ap (λ n. record { number = 3; place = place_at file (take n src) }) same ∙ sym b.fault_is;
      tokens = a.kept_are ∙ ap (λ n. end_at (place_at file (take n src)) ∷ []) same ∙ sym b.kept_are;
    }

abbrev fault_of : ℕ → Place → Fault
fault_of n p = record { number = n; place = p }

broken_once : (file : ℕ) (src : List ℕ) (f g : Fault) (kept other : List Token) → Broken file src f kept → Broken file src g other →
    OneBreak f g kept other
broken_once file src f g kept other a b =
    let e = reads_once file a.spelled_by b.spelled_by [] false src a.left b.left a.at_path b.at_path a.reads b.reads
    (inr (a.number, a.offset, a.breaks)) (inr (b.number, b.offset, b.breaks)) in
    let before = same_before a.before b.before a.left b.left (sym a.text_is ∙ b.text_is) e.left_is in
    let moved = subst (λ c. Break c a.left b.number b.offset) (sym e.path)
    (subst (λ l. Break b.at_path l b.number b.offset) (sym e.left_is) b.breaks) in
    let once = break_once a.at_path a.left a.number a.offset b.number b.offset a.breaks moved in
    let place : place_at file (a.before ++ take a.offset a.left) ≡ place_at file (b.before ++ take b.offset b.left) =
    ap (λ l. place_at file (l ++ take a.offset a.left)) before ∙ ap (λ n. place_at file (b.before ++ take n a.left)) once.1 ∙ ap
    (λ l. place_at file (b.before ++ take b.offset l)) e.left_is in
    record {
      fault = a.fault_is ∙ ap (λ n. fault_of n (place_at file (a.before ++ take a.offset a.left))) once.0 ∙ ap (fault_of b.number) place ∙
          sym b.fault_is;
      tokens = a.kept_are ∙ ap (λ l. l ++ end_at (place_at file (a.before ++ take a.offset a.left)) ∷ []) e.tokens ∙ ap
          (λ q. b.spelled_by ++ end_at q ∷ []) place ∙ sym b.kept_are;
    }

break_is : (file : ℕ) (src : List ℕ) (f g : Fault) (kept other : List Token) → IsFirstBreak file src f kept →
    IsFirstBreak file src g other → OneBreak f g kept other
break_is file src f g kept other h k = ⊎_elim
    (λ a. ⊎_elim (λ b. utf8_once file src f g kept other a b) (λ b. absurd (a.not_utf8 b.utf8)) k)
    (λ a. ⊎_elim (λ b. absurd (b.not_utf8 a.utf8)) (λ b. broken_once file src f g kept other a b) k)
    h

-- ---- what the call gives

pub only_tokens : (file : ℕ) (src : List ℕ) (result : Result (List Token) LexStop) → IfOk result (λ ts. IsTokens file src ts) →
    IfErr result (λ e. Stops file src e) → (ts : List Token) → IsTokens file src ts → GivesTokens ts result
only_tokens file src (Ok us) h g ts k = tokens_once file src us ts h k
only_tokens file src (Err stop.Memory) h g ts k = refl
only_tokens file src (Err (stop.Fault fault kept)) h g ts k = absurd (tokens_or_break file src ts kept fault k g)

pub only_break : (file : ℕ) (src : List ℕ) (result : Result (List Token) LexStop) → IfOk result (λ ts. IsTokens file src ts) →
    IfErr result (λ e. Stops file src e) → (fault : Fault) (kept : List Token) → IsFirstBreak file src fault kept →
    GivesFault fault kept result
only_break file src (Ok us) h g fault kept k = tokens_or_break file src us kept fault h k
only_break file src (Err stop.Memory) h g fault kept k = inl refl
only_break file src (Err (stop.Fault other others)) h g fault kept k =
    let one = break_is file src other fault others kept g k in
    inr (ap (λ f. stop.Fault f others) one.fault ∙ ap (stop.Fault fault) one.tokens)
