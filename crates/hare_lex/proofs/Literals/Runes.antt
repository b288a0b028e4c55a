-- What stands between the quotes of a rune.
use Rattle.std.proofs.Common.{◌≡◌, ℕ, zero, suc, ◌+◌, ◌/◌, ◌<◌, ◌≤◌, ◌^◌, List, [], ◌∷◌, Option, Some, None, Bool, true, false, cond, eqb, ltb, length, get_or, take, drop, refl, sym, ap, ◌∙◌, arith, subst, inl, inr, append-nil, slice_get}
use Rattle.std.proofs.Math.Logic.{⊎_elim}
use lib.Utf8.{encode, encodes, next, scalar, scalars, scalar_fits}
use Rattle.std.specs.Str.{chars, is_utf8}
use Rattle.std.proofs.lemmas.Str.{IsUtf8-from_is_utf8, encodes-chars, chars_from_encodes}
use Rattle.std.proofs.lemmas.Bool.Decides.{nat_tests}
use Rattle.hare_tree.specs.Spelling.{IsEscape, IsOne, is_character, escaped}
use Rattle.hare_tree.specs.Tokens.{holds}
use Rattle.hare_lex.specs.Lexing.{escape, one, character, whole_escape}
use Rattle.hare_lex.proofs.Fronts.Lists.{and_left, and_right, and_both}
use Rattle.hare_lex.proofs.Literals.Escapes.{escape_read, escape_stands, escape_holds}

-- ---- one character

pub record IsChar (s : List ℕ) (v : ℕ) : Type 0 where
  pub is : is_character s ≡ true
  pub value : v ≡ get_or (chars s) 0 0

first_is : (l : List ℕ) (v : ℕ) → slice_get l 0 ≡ Some v → v ≡ get_or l 0 0
first_is [] v h = absurd (cc)
first_is (c ∷ l) v h = cc

first_got : (l : List ℕ) (v : ℕ) → eqb (length l) 1 ≡ true → v ≡ get_or l 0 0 → slice_get l 0 ≡ Some v
first_got [] v h e = absurd (cc)
first_got (c ∷ l) v h e = ap Some (sym e)

character_some : (s : List ℕ) (v : ℕ) → character s ≡ Some v → IsChar s v
character_some s v h = of_tests (is_utf8 s) (eqb (length (chars s)) 1) refl refl h
  where
    of_tests : (a b : Bool) → is_utf8 s ≡ a → eqb (length (chars s)) 1 ≡ b → cond a (cond b (slice_get (chars s) 0) None) None ≡ Some v →
        IsChar s v
    of_tests true true e f h = record { is = and_both _ _ e f; value = first_is (chars s) v h }
    of_tests true false e f h = absurd (cc)
    of_tests false b e f h = absurd (cc)

character_is : (s : List ℕ) (v : ℕ) → IsChar s v → character s ≡ Some v
character_is s v h =
    let a : is_utf8 s ≡ true = and_left _ _ h.is in
    let b : eqb (length (chars s)) 1 ≡ true = and_right _ _ h.is in
    rw (a, b) (first_got (chars s) v b h.value)

one_char : (l : List ℕ) (v : ℕ) → eqb (length l) 1 ≡ true → v ≡ get_or l 0 0 → l ≡ v ∷ []
one_char [] v h e = absurd (cc)
one_char (c ∷ []) v h e = ap (λ q. q ∷ []) (sym e)
one_char (c ∷ d ∷ l) v h e = let k : suc (suc (length l)) ≡ 1 = len (suc (suc (length l))) h in absurd (omega (arith, k))
  where
    len : (n : ℕ) → eqb n 1 ≡ true → n ≡ 1
    len n h = grind (arith, nat_tests)

-- the bytes are those of the character
char_bytes : (s : List ℕ) (v : ℕ) → IsChar s v → s ≡ encode v
char_bytes s v h =
    let spelled = encodes-chars s (IsUtf8-from_is_utf8 s (and_left _ _ h.is)) in
    let only = one_char (chars s) v (and_right _ _ h.is) h.value in
    sym spelled ∙ ap encodes only ∙ append-nil (encode v)

high : (c k : ℕ) → 128 ≤ c → k < 128 → eqb c k ≡ false
high c k h m = grind (arith, nat_tests)

-- a byte that neither closes nor takes
step : (c : ℕ) (s : List ℕ) → eqb c 39 ≡ false → eqb c 92 ≡ false → holds 39 false s ≡ true → holds 39 false (c ∷ s) ≡ true
step c s e f h = rw (e, f) h

high_step : (c : ℕ) (s : List ℕ) → 128 ≤ c → holds 39 false s ≡ true → holds 39 false (c ∷ s) ≡ true
high_step c s h k = step c s (high c 39 h (omega arith)) (high c 92 h (omega arith)) k

last : (v : ℕ) → holds 39 false (next v ∷ []) ≡ true
last v = high_step (next v) [] (omega arith) refl

two : (v : ℕ) → holds 39 false (next (v / 64) ∷ next v ∷ []) ≡ true
two v = high_step (next (v / 64)) (next v ∷ []) (omega arith) (last v)

-- the bytes of a character do not close a rune, and do not begin with a backslash
encode_holds : (v : ℕ) → eqb v 39 ≡ false → eqb v 92 ≡ false → holds 39 false (encode v) ≡ true
unfolding encode
encode_holds v e f = of_tests (ltb v 128) (ltb v 2048) (ltb v 65536)
  where
    of_tests : (a b c : Bool) → holds 39 false
        (cond a (v ∷ []) (cond b ((192 + v / 64) ∷ next v ∷ [])
        (cond c ((224 + v / 4096) ∷ next (v / 64) ∷ next v ∷ []) ((240 + v / 262144) ∷ next (v / 4096) ∷ next (v / 64) ∷ next v ∷ [])))) ≡
        true
    of_tests true b c = step v [] e f refl
    of_tests false true c = high_step (192 + v / 64) (next v ∷ []) (omega arith) (last v)
    of_tests false false true = high_step (224 + v / 4096) (next (v / 64) ∷ next v ∷ []) (omega arith) (two v)
    of_tests false false false = high_step (240 + v / 262144) (next (v / 4096) ∷ next (v / 64) ∷ next v ∷ []) (omega arith)
        (high_step (next (v / 4096)) (next (v / 64) ∷ next v ∷ []) (omega arith) (two v))

encode_first : (v : ℕ) → eqb v 92 ≡ false → eqb (get_or (encode v) 0 0) 92 ≡ false
unfolding encode
encode_first v f = of_tests (ltb v 128) (ltb v 2048) (ltb v 65536)
  where
    of_tests : (a b c : Bool) → eqb (get_or (cond a (v ∷ [])
        (cond b ((192 + v / 64) ∷ next v ∷ [])
        (cond c ((224 + v / 4096) ∷ next (v / 64) ∷ next v ∷ []) ((240 + v / 262144) ∷ next (v / 4096) ∷ next (v / 64) ∷ next v ∷ [])))) 0
        0) 92 ≡ false
    of_tests true b c = f
    of_tests false true c = high (192 + v / 64) 92 (omega arith) (omega arith)
    of_tests false false true = high (224 + v / 4096) 92 (omega arith) (omega arith)
    of_tests false false false = high (240 + v / 262144) 92 (omega arith) (omega arith)

encode_ascii : (v : ℕ) → v < 128 → encode v ≡ v ∷ []
unfolding encode
encode_ascii v h = of_test (ltb v 128) (small v h)
  where
    small : (v : ℕ) → v < 128 → ltb v 128 ≡ true
    small v h = grind (arith, nat_tests)

    of_test : (a : Bool) → a ≡ true → cond a (v ∷ [])
        (cond (ltb v 2048) ((192 + v / 64) ∷ next v ∷ [])
        (cond (ltb v 65536) ((224 + v / 4096) ∷ next (v / 64) ∷ next v ∷ [])
        ((240 + v / 262144) ∷ next (v / 4096) ∷ next (v / 64) ∷ next v ∷ []))) ≡ v ∷ []
    of_test true h = refl
    of_test false h = absurd (cc)

-- ---- one character or escape

pub one_holds : (content : List ℕ) (v : ℕ) → IsOne content v → holds 39 false content ≡ true
one_holds content v h = ⊎_elim
    (λ a. ap (holds 39 false) (char_bytes content v (record { is = a.0; value = a.1 })) ∙ encode_holds v a.2 a.3)
    (λ e. ap (holds 39 false) (sym (append-nil content)) ∙ escape_holds 39 content [] v (inr refl) e)
    h

whole_is : (w : List ℕ) (v : ℕ) → whole_escape (suc (length w)) (Some (v, length w)) ≡ Some v
whole_is w v = rw (same (length w)) refl
  where
    same : (n : ℕ) → eqb (n + 1) (suc n) ≡ true
    same n = grind (arith, nat_tests)

escape_one : (w : List ℕ) (v : ℕ) → IsEscape (92 ∷ w) v → one (92 ∷ w) ≡ Some v
escape_one w v h = ap (whole_escape (suc (length w))) (ap escape (sym (append-nil w)) ∙ escape_stands w [] v h) ∙ whole_is w v

pub one_stands : (content : List ℕ) (v : ℕ) → IsOne content v → one content ≡ Some v
one_stands content v h = ⊎_elim char (λ e. esc e) h
  where
    char : ((is_character content ≡ true) × (v ≡ get_or (chars content) 0 0) × (eqb v 39 ≡ false) × (eqb v 92 ≡ false)) →
        one content ≡ Some v
    char a =
        let c : IsChar content v = record { is = a.0; value = a.1 } in
        let first : eqb (get_or content 0 0) 92 ≡ false = ap (λ l. eqb (get_or l 0 0) 92) (char_bytes content v c) ∙ encode_first v a.3 in
        rw first (character_is content v c)

    esc : IsEscape content v → one content ≡ Some v
    esc e = ⊎_elim
        (λ a. ap one a.1 ∙ escape_one (a.0 ∷ []) v (subst (λ l. IsEscape l v) a.1 e))
        (λ a. ap one a.2 ∙ escape_one (a.0 ∷ a.1) v (subst (λ l. IsEscape l v) a.2 e))
        e

take_all : (n : ℕ) (s : List ℕ) → length s ≤ n → take n s ≡ s
take_all zero [] h = refl
take_all zero (c ∷ s) h = absurd (omega arith)
take_all (suc n) [] h = refl
take_all (suc n) (c ∷ s) h = ap (λ l. c ∷ l) (take_all n s (omega arith))

whole_some : (n : ℕ) (o : Option (ℕ × ℕ)) (v : ℕ) → whole_escape n o ≡ Some v → (k : ℕ) × (o ≡ Some (v, k)) × (k + 1 ≡ n)
whole_some n None v h = absurd (cc)
whole_some n (Some r) v h = of_test (eqb (r.1 + 1) n) refl h
  where
    len : (a b : ℕ) → eqb a b ≡ true → a ≡ b
    len a b h = grind (arith, nat_tests)

    of_test : (b : Bool) → eqb (r.1 + 1) n ≡ b → cond b (Some r.0) None ≡ Some v → (k : ℕ) × (Some r ≡ Some (v, k)) × (k + 1 ≡ n)
    of_test true e h = let same : r.0 ≡ v = cc in (r.1, ap (λ q. Some (q, r.1)) same, len (r.1 + 1) n e)
    of_test false e h = absurd (cc)

byte_is : (c k : ℕ) → eqb c k ≡ true → c ≡ k
byte_is c k h = grind (arith, nat_tests)

one_at : (content : List ℕ) (v : ℕ) (b : Bool) → eqb (get_or content 0 0) 92 ≡ b →
    cond b (whole_escape (length content) (escape (drop 1 content))) (character content) ≡ Some v → holds 39 false content ≡ true →
    IsOne content v
one_at [] v true e h k = absurd (cc)
one_at (c ∷ w) v true e h k =
    let p = whole_some (suc (length w)) (escape w) v h in
    let r = escape_read w v p.0 p.1 in
    let all : take p.0 w ≡ w = take_all p.0 w (omega (arith, p.2)) in
    let first : c ≡ 92 = byte_is c 92 e in
    inr (subst (λ l. IsEscape l v) (ap (λ l. 92 ∷ l) all ∙ ap (λ q. q ∷ w) (sym first)) r.is)
one_at content v false e h k =
    let c = character_some content v h in
    let bytes = char_bytes content v c in
    inl (c.is, c.value, not_39 bytes, not_92 bytes)
  where
    not_39 : content ≡ encode v → eqb v 39 ≡ false
    not_39 b = of_test (eqb v 39) refl
      where
        of_test : (t : Bool) → eqb v 39 ≡ t → t ≡ false
        of_test false q = refl
        of_test true q =
            let i = byte_is v 39 q in let s : content ≡ 39 ∷ [] = b ∙ ap encode i ∙ encode_ascii 39 (omega arith) in let z : false ≡ true =
            sym (ap (holds 39 false) s) ∙ k in absurd (cc)

    not_92 : content ≡ encode v → eqb v 92 ≡ false
    not_92 b = of_test (eqb v 92) refl
      where
        of_test : (t : Bool) → eqb v 92 ≡ t → t ≡ false
        of_test false q = refl
        of_test true q =
            let i = byte_is v 92 q in let s : content ≡ 92 ∷ [] = b ∙ ap encode i ∙ encode_ascii 92 (omega arith) in let z : true ≡ false =
            sym (ap (λ l. eqb (get_or l 0 0) 92) s) ∙ e in absurd (cc)

-- what is read between quotes is one character or escape
pub one_some : (content : List ℕ) (v : ℕ) → one content ≡ Some v → holds 39 false content ≡ true → IsOne content v
one_some content v h k = one_at content v (eqb (get_or content 0 0) 92) refl h k

-- ---- its value is small

encode_small : (v : ℕ) (s : List ℕ) → scalar v ≡ true → v < 2 ^ 127
encode_small v s h = let k = scalar_fits v h in omega (arith, k)

first_scalar : (l : List ℕ) (v : ℕ) → scalars l ≡ true → eqb (length l) 1 ≡ true → v ≡ get_or l 0 0 → scalar v ≡ true
first_scalar [] v h n e = absurd (cc)
first_scalar (c ∷ l) v h n e = subst (λ q. scalar q ≡ true) (sym e) (and_left _ _ h)

cond_some : (b : Bool) (w v : ℕ) (o : Option ℕ) → cond b (Some w) o ≡ Some v → w < 128 → (o ≡ Some v → v < 128) → v < 128
cond_some true w v o h s more = let e : w ≡ v = cc in omega (arith, e)
cond_some false w v o h s more = more h

pub simple_below : (c v : ℕ) → escaped c ≡ Some v → v < 128
simple_below c v h =
    cond_some (eqb c 48) 0 v _ h (omega arith)
    (λ h. cond_some (eqb c 97) 7 v _ h (omega arith) (λ h. cond_some (eqb c 98) 8 v _ h (omega arith)
    (λ h. cond_some (eqb c 102) 12 v _ h (omega arith)
    (λ h. cond_some (eqb c 110) 10 v _ h (omega arith) (λ h. cond_some (eqb c 114) 13 v _ h (omega arith)
    (λ h. cond_some (eqb c 116) 9 v _ h (omega arith)
    (λ h. cond_some (eqb c 118) 11 v _ h (omega arith) (λ h. cond_some (eqb c 92) 92 v _ h (omega arith)
    (λ h. cond_some (eqb c 39) 39 v _ h (omega arith) (λ h. cond_some (eqb c 34) 34 v None h (omega arith) (λ h. absurd (cc))))))))))))

simple_small : (c v : ℕ) → escaped c ≡ Some v → v < 2 ^ 127
simple_small c v h = let k = simple_below c v h in omega (arith, k)

pub one_small : (content : List ℕ) (v : ℕ) → IsOne content v → v < 2 ^ 127
one_small content v h = ⊎_elim
    (λ a. char a)
    (λ e. ⊎_elim (λ a. simple_small a.0 v a.2) (λ a. encode_small v [] a.6.0) e)
    h
  where
    char : ((is_character content ≡ true) × (v ≡ get_or (chars content) 0 0) × (eqb v 39 ≡ false) × (eqb v 92 ≡ false)) → v < 2 ^ 127
    char a =
        let u = IsUtf8-from_is_utf8 content (and_left (is_utf8 content) (eqb (length (chars content)) 1) a.0) in
        let same : u.0 ≡ chars content = chars_from_encodes u.0 content u u.1.1 in
        encode_small v [] (first_scalar (chars content) v (subst (λ l. scalars l ≡ true) same u.1.0)
        (and_right (is_utf8 content) (eqb (length (chars content)) 1) a.0) a.1)
