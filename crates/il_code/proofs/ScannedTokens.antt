-- A text has one list of tokens.
use Rattle.std.proofs.Common.{◌≡◌, ℕ, ◌-◌, ◌%◌, ◌^◌, List, [], ◌∷◌, ◌++◌, Option, None, Some, Bool, true, false, cond, ◌&&◌, refl, sym, ap, ◌∙◌, inl, inr, subst, append_assoc, arith, slice_index, eqb, not}
use Rattle.std.specs.List.{list_all}
use Rattle.std.specs.Str.{all_ascii_digits}
use Rattle.std.specs.Str.Parse.{digits_value}
use Rattle.std.proofs.lemmas.Bool.{and_parts, false≢true}
use Rattle.std.proofs.lemmas.Bool.Decides.{nat_tests}
use Rattle.std.proofs.lemmas.Grind.{common_steps}
use Rattle.std.proofs.lemmas.Option.{none-some, some_pair_parts}
use Rattle.il_code.specs.Tokens.{IlToken, Word, TempName, SymbolName, LabelName, Numeral, Quoted, Mark, LineEnd, is_token, is_digit_byte, is_name_byte, is_identifier, is_mark, is_string_byte, IsPlus, IsMinus, IsWritten, IsLongest, Tokens}

-- ---- runs of bytes

-- the bytes in front that pass, and what stands behind them
abbrev run : (ℕ → Bool) → List ℕ → List ℕ
run p [] = []
run p (c ∷ s) = cond (p c) (c ∷ run p s) []

abbrev past : (ℕ → Bool) → List ℕ → List ℕ
past p [] = []
past p (c ∷ s) = cond (p c) (past p s) (c ∷ s)

run_nothing : (p : ℕ → Bool) (rest : List ℕ) → p (slice_index rest 0) ≡ false → run p rest ≡ []
run_nothing p [] stop = refl
run_nothing p (c ∷ s) stop = rw stop refl

past_nothing : (p : ℕ → Bool) (rest : List ℕ) → p (slice_index rest 0) ≡ false → past p rest ≡ rest
past_nothing p [] stop = refl
past_nothing p (c ∷ s) stop = rw stop refl

run_all : (p : ℕ → Bool) (s rest : List ℕ) → list_all p s ≡ true → p (slice_index rest 0) ≡ false → run p (s ++ rest) ≡ s
run_all p [] rest h stop = run_nothing p rest stop
run_all p (c ∷ s) rest h stop = let k = and_parts (p c) (list_all p s) h in rw (k.0, run_all p s rest k.1 stop) refl

past_all : (p : ℕ → Bool) (s rest : List ℕ) → list_all p s ≡ true → p (slice_index rest 0) ≡ false → past p (s ++ rest) ≡ rest
past_all p [] rest h stop = past_nothing p rest stop
past_all p (c ∷ s) rest h stop = let k = and_parts (p c) (list_all p s) h in rw (k.0) (past_all p s rest k.1 stop)

abbrev tail : List ℕ → List ℕ
tail [] = []
tail (c ∷ s) = s

-- ---- the token in front

-- a name behind its sigil
abbrev name_in : (List ℕ → IlToken) → List ℕ → Option (IlToken × List ℕ)
name_in sigil s = Some (sigil (run is_name_byte s), past is_name_byte s)

-- the token in front, and what stands behind it
abbrev scan : List ℕ → Option (IlToken × List ℕ)
scan [] = None
scan (c ∷ s) =
    cond (is_mark c) (Some (Mark c, s)) (
    cond (is_digit_byte c) (Some (Numeral (digits_value 10 (run is_digit_byte (c ∷ s))), past is_digit_byte (c ∷ s))) (
    cond (is_name_byte c) (name_in Word (c ∷ s)) (
    cond (eqb c 45) (Some (Numeral ((2 ^ 64 - digits_value 10 (run is_digit_byte s)) % 2 ^ 64), past is_digit_byte s)) (
    cond (eqb c 37) (name_in TempName s) (
    cond (eqb c 36) (name_in SymbolName s) (
    cond (eqb c 64) (name_in LabelName s) (
    cond (eqb c 34) (Some (Quoted (run is_string_byte s), tail (past is_string_byte s))) (
    Some (LineEnd, s)))))))))

name_no_mark : (c : ℕ) → is_name_byte c ≡ true → is_mark c ≡ false
name_no_mark c h = grind (arith, nat_tests, common_steps)

digit_no_mark : (c : ℕ) → is_digit_byte c ≡ true → is_mark c ≡ false
digit_no_mark c h = grind (arith, nat_tests, common_steps)

no_digit : (b c : Bool) → (not b && c) ≡ true → b ≡ false
no_digit true c h = absurd (false≢true h)
no_digit false c h = refl

digits_pass : (s : List ℕ) → all_ascii_digits s ≡ true → list_all is_digit_byte s ≡ true
digits_pass [] h = refl
digits_pass (c ∷ s) h = let k = and_parts (is_digit_byte c) (all_ascii_digits s) h in rw (k.0) (digits_pass s k.1)

pick_word : (c : ℕ) (s : List ℕ) → is_digit_byte c ≡ false → is_name_byte c ≡ true → scan (c ∷ s) ≡ name_in Word (c ∷ s)
pick_word c s d n = rw (name_no_mark c n, n, d) refl

pick_number : (c : ℕ) (s : List ℕ) → is_digit_byte c ≡ true →
    scan (c ∷ s) ≡ Some (Numeral (digits_value 10 (run is_digit_byte (c ∷ s))), past is_digit_byte (c ∷ s))
pick_number c s d = rw (digit_no_mark c d, d) refl

scan_name : (sigil : List ℕ → IlToken) (t rest : List ℕ) → list_all is_name_byte t ≡ true → is_name_byte (slice_index rest 0) ≡ false →
    name_in sigil (t ++ rest) ≡ Some (sigil t, rest)
scan_name sigil t rest h stop = rw (run_all is_name_byte t rest h stop, past_all is_name_byte t rest h stop) refl

named : (t : List ℕ) → is_identifier t ≡ true → list_all is_name_byte t ≡ true
named [] h = absurd (false≢true h)
named (c ∷ t) h = (and_parts _ _ h).1

scan_word : (w rest : List ℕ) → is_identifier w ≡ true → is_name_byte (slice_index rest 0) ≡ false → scan (w ++ rest) ≡ Some (Word w, rest)
scan_word [] rest h stop = absurd (false≢true h)
scan_word (c ∷ w) rest h stop =
    let all = named (c ∷ w) h in
    let first = (and_parts (is_name_byte c) _ all).0 in
    pick_word c (w ++ rest) (no_digit _ _ h) first ∙ scan_name Word (c ∷ w) rest all stop

scan_digits : (n : ℕ) (s rest : List ℕ) → IsPlus n s → is_digit_byte (slice_index rest 0) ≡ false →
    scan (s ++ rest) ≡ Some (Numeral n, rest)
scan_digits n [] rest h stop = absurd (omega (arith, h.some))
scan_digits n (c ∷ s) rest h stop =
    let all = digits_pass (c ∷ s) h.digits in
    let first = (and_parts (is_digit_byte c) _ all).0 in
    pick_number c (s ++ rest) first ∙ rw (
      run_all is_digit_byte (c ∷ s) rest all stop,
      past_all is_digit_byte (c ∷ s) rest all stop,
      h.value,
    ) refl

scan_minus : (n : ℕ) (s rest : List ℕ) → IsMinus n s → is_digit_byte (slice_index rest 0) ≡ false →
    scan (s ++ rest) ≡ Some (Numeral n, rest)
scan_minus n s rest h stop =
    let all = digits_pass h.digits h.all in
    ap (λ x. scan (x ++ rest)) h.is ∙ rw (
      run_all is_digit_byte h.digits rest all stop,
      past_all is_digit_byte h.digits rest all stop,
      h.value,
    ) refl

scan_quoted : (b rest : List ℕ) → list_all is_string_byte b ≡ true → scan ((34 ∷ (b ++ 34 ∷ [])) ++ rest) ≡ Some (Quoted b, rest)
scan_quoted b rest h = ap (λ x. scan (34 ∷ x)) (append_assoc b (34 ∷ []) rest) ∙ rw
    (run_all is_string_byte b (34 ∷ rest) h refl, past_all is_string_byte b (34 ∷ rest) h refl) refl

scan_mark : (c : ℕ) (rest : List ℕ) → is_mark c ≡ true → scan (c ∷ rest) ≡ Some (Mark c, rest)
scan_mark c rest h = rw h refl

-- a spelling in front of a rest that it does not go on into is scanned as its token
scan_written : (t : IlToken) (s rest : List ℕ) → is_token t ≡ true → IsWritten t s → IsLongest t rest → scan (s ++ rest) ≡ Some (t, rest)
scan_written (Word w) s rest is h stop = ap (λ x. scan (x ++ rest)) h ∙ scan_word w rest is stop
scan_written (TempName t) s rest is h stop = ap (λ x. scan (x ++ rest)) h ∙ scan_name TempName t rest (named t is) stop
scan_written (SymbolName t) s rest is h stop = ap (λ x. scan (x ++ rest)) h ∙ scan_name SymbolName t rest (named t is) stop
scan_written (LabelName t) s rest is h stop = ap (λ x. scan (x ++ rest)) h ∙ scan_name LabelName t rest (named t is) stop
scan_written (Numeral n) s rest is (inl h) stop = scan_digits n s rest h stop
scan_written (Numeral n) s rest is (inr h) stop = scan_minus n s rest h stop
scan_written (Quoted b) s rest is h stop = ap (λ x. scan (x ++ rest)) h ∙ scan_quoted b rest is
scan_written (Mark c) s rest is h stop = ap (λ x. scan (x ++ rest)) h ∙ scan_mark c rest is
scan_written LineEnd s rest is h stop = ap (λ x. scan (x ++ rest)) h

-- ---- the tokens of a text

abbrev after : Option (IlToken × List ℕ) → List ℕ
after None = []
after (Some x) = x.1

abbrev token_in : Option (IlToken × List ℕ) → Option IlToken
token_in None = None
token_in (Some x) = Some x.0

-- no token is spelled by nothing
no_gap : (t : IlToken) (s rest : List ℕ) → is_token t ≡ true → IsWritten t s → IsLongest t rest → [] ≡ s ++ rest → ⊥
no_gap t s rest is h stop e = none-some (t, rest) (ap scan e ∙ scan_written t s rest is h stop)

-- a text is made of one list of tokens
pub Tokens-unique : (text : List ℕ) (ts us : List IlToken) → Tokens text ts → Tokens text us → ts ≡ us
Tokens-unique text [] [] h k = refl
Tokens-unique text [] (u ∷ us) h k = absurd (no_gap u k.0 k.1 k.3.0 k.3.1 k.4 (sym h ∙ k.2))
Tokens-unique text (t ∷ ts) [] h k = absurd (no_gap t h.0 h.1 h.3.0 h.3.1 h.4 (sym k ∙ h.2))
Tokens-unique text (t ∷ ts) (u ∷ us) h k =
    let one = ap scan h.2 ∙ scan_written t h.0 h.1 h.3.0 h.3.1 h.4 in
    let two = ap scan k.2 ∙ scan_written u k.0 k.1 k.3.0 k.3.1 k.4 in
    let parts = some_pair_parts t u h.1 k.1 (sym one ∙ two) in
    let more = Tokens-unique h.1 ts us h.5 (subst (λ x. Tokens x us) (sym parts.1) k.5) in
    rw (parts.0, more) refl
