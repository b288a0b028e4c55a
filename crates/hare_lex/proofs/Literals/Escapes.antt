-- What is read as an escape is one, and an escape is read.
use Rattle.std.proofs.Common.{◌≡◌, ℕ, zero, suc, ◌+◌, ◌<◌, ◌≤◌, ◌^◌, List, [], ◌∷◌, ◌++◌, Option, Some, None, Bool, true, false, cond, ◌&&◌, ◌||◌, not, eqb, leb, ltb, length, take, refl, sym, ap, ◌∙◌, arith, subst, inl, inr, ◌⊎◌, eq-eqb}
use Rattle.std.proofs.Math.Logic.{⊎_elim}
use Rattle.std.proofs.Math.Seq.{take-append_seam}
use lib.Utf8.{scalar, scalar_fits}
use Rattle.std.specs.Char.{is_digit}
use Rattle.std.specs.Str.Parse.{digits_value}
use Rattle.std.proofs.lemmas.Option.{some_pair_parts}
use Rattle.std.proofs.lemmas.Bool.Decides.{nat_tests}
use Rattle.hare_tree.specs.Spelling.{escaped, hex_len, MayStand, is_hex, IsEscape}
use Rattle.hare_tree.specs.Tokens.{holds}
use Rattle.hare_lex.specs.Lexing.{escape, hex_escape, hex_value_of, hex_end, scalar_of, value_of}
use Rattle.hare_lex.proofs.Fronts.Lists.{and_left, and_right}

-- ---- what is read as an escape is one

-- the n bytes are, behind a backslash, the escape of this character
pub record ReadAs (s : List ℕ) (v n : ℕ) : Type 0 where
  pub is : IsEscape (92 ∷ take n s) v
  pub within : n ≤ length s

-- a value that was taken for a scalar value is one
scalar_some : (o : Option ℕ) (v : ℕ) → elim o as (λ _. Option ℕ) [ None ↦ None | Some w ↦ scalar_of w ] ≡ Some v → (o ≡ Some v) ×
    (scalar v ≡ true)
scalar_some None v h = absurd (cc)
scalar_some (Some w) v h = of_test (scalar w) refl h
  where
    of_test : (b : Bool) → scalar w ≡ b → cond b (Some w) None ≡ Some v → (Some w ≡ Some v) × (scalar v ≡ true)
    of_test true e h = let k : w ≡ v = cc in (h, subst (λ q. scalar q ≡ true) k e)
    of_test false e h = absurd (cc)

-- a value that was read is that of the digits
value_some : (ds : List ℕ) (v : ℕ) → value_of 16 ds ≡ Some v → v ≡ digits_value 16 ds
value_some ds v h = of_test (ltb (digits_value 16 ds) (2 ^ 127)) h
  where
    of_test : (b : Bool) → cond b (Some (digits_value 16 ds)) None ≡ Some v → v ≡ digits_value 16 ds
    of_test true h = cc
    of_test false h = absurd (cc)

-- what a hexadecimal escape that was read says
record HexRead (c k : ℕ) (ds : List ℕ) (v n : ℕ) : Type 0 where
  len : length ds ≡ k
  each : is_hex ds ≡ true
  value : v ≡ digits_value 16 ds
  stands : MayStand c v
  long : n ≡ 1 + k

-- a hexadecimal escape that was read has its value in range, and its whole length
hex_end_some : (c k : ℕ) (o : Option ℕ) (v n : ℕ) → hex_end c k o ≡ Some (v, n) → (o ≡ Some v) × (c ≡ 120 → v < 128) × (n ≡ 1 + k)
hex_end_some c k None v n h = absurd (cc)
hex_end_some c k (Some w) v n h = of_test (eqb c 120 && leb 128 w) refl h
  where
    small : (c v : ℕ) → (eqb c 120 && leb 128 v) ≡ false → c ≡ 120 → v < 128
    small c v e k = grind (arith, nat_tests)

    of_test : (b : Bool) → (eqb c 120 && leb 128 w) ≡ b → cond {A = Option (ℕ × ℕ)} b None (Some (w, 1 + k)) ≡ Some (v, n) →
        (Some w ≡ Some v) × (c ≡ 120 → v < 128) × (n ≡ 1 + k)
    of_test true e h = absurd (cc)
    of_test false e h =
        let parts = some_pair_parts w v (1 + k) n h in
        let same : w ≡ v = parts.0 in
        let len : 1 + k ≡ n = parts.1 in
        (ap Some same, small c v (subst (λ q. (eqb c 120 && leb 128 q) ≡ false) same e), sym len)

-- what was read of hexadecimal digits is what they say
hex_some : (c k : ℕ) (ds : List ℕ) (v n : ℕ) → hex_value_of c k ds ≡ Some (v, n) → HexRead c k ds v n
hex_some c k ds v n h = of_tests (eqb (length ds) k) (is_hex ds) refl refl h
  where
    len_is : (a b : ℕ) → eqb a b ≡ true → a ≡ b
    len_is a b h = grind (arith, nat_tests)

    of_tests : (a b : Bool) → eqb (length ds) k ≡ a → is_hex ds ≡ b →
        cond (not a || not b) None (hex_end c k (elim (value_of 16 ds) as (λ _. Option ℕ) [ None ↦ None | Some w ↦ scalar_of w ])) ≡
        Some (v, n) → HexRead c k ds v n
    of_tests false b e f h = absurd (cc)
    of_tests true false e f h = absurd (cc)
    of_tests true true e f h =
        let p = hex_end_some c k _ v n h in
        let q = scalar_some _ v p.0 in
        record { len = len_is (length ds) k e; each = f; value = value_some ds v q.0; stands = (q.1, p.1); long = p.2 }

-- a front of k bytes lies in a text of at least k
take_len : (n : ℕ) (s : List ℕ) (k : ℕ) → length (take n s) ≡ k → k ≤ length s
take_len zero s k h = omega arith
take_len (suc n) [] k h = omega arith
take_len (suc n) (c ∷ s) zero h = omega arith
take_len (suc n) (c ∷ s) (suc k) h = omega (arith, take_len n s k (omega arith))

-- a hexadecimal escape that is read is one
hex_read : (c : ℕ) (s : List ℕ) (o : Option ℕ) (v n : ℕ) → hex_len c ≡ o →
    elim o as (λ _. Option (ℕ × ℕ)) [ None ↦ None | Some k ↦ hex_value_of c k (take k s) ] ≡ Some (v, n) → ReadAs (c ∷ s) v n
hex_read c s None v n e h = absurd (cc)
hex_read c s (Some k) v n e h =
    let r = hex_some c k (take k s) v n h in
    let one : 1 + k ≡ suc k = omega arith in
    let parts : take n (c ∷ s) ≡ c ∷ take k s = ap (λ q. take q (c ∷ s)) (r.long ∙ one) in
    record {
      is = inr (c, take k s, ap (λ l. 92 ∷ l) parts, e ∙ ap Some (sym r.len), r.each, r.value, r.stands);
      within = omega (arith, r.long, take_len k s k r.len);
    }

-- an escape that is read is one
pub escape_read : (s : List ℕ) (v n : ℕ) → escape s ≡ Some (v, n) → ReadAs s v n
escape_read [] v n h = absurd (cc)
escape_read (c ∷ s) v n h = of_simple (escaped c) refl h
  where
    of_simple : (o : Option ℕ) → escaped c ≡ o →
        elim o as (λ _. Option (ℕ × ℕ)) [ None ↦ hex_escape c s | Some w ↦ Some (w, 1) ] ≡ Some (v, n) → ReadAs (c ∷ s) v n
    of_simple None e h = hex_read c s (hex_len c) v n refl h
    of_simple (Some w) e h =
        let pair = some_pair_parts w v 1 n h in
        let same : w ≡ v = pair.0 in
        let len : 1 ≡ n = pair.1 in
        let parts : take n (c ∷ s) ≡ c ∷ [] = ap (λ q. take q (c ∷ s)) (sym len) in
        record { is = inl (c, ap (λ l. 92 ∷ l) parts, e ∙ ap Some same); within = omega (arith, len) }

-- ---- an escape closes no literal

-- a hexadecimal digit differs from a byte that is none
hex_not : (c q : ℕ) → is_digit c 16 ≡ true → is_digit q 16 ≡ false → eqb c q ≡ false
hex_not c q h k = by_test (eqb c q) refl
  where
    same : (c q : ℕ) → eqb c q ≡ true → c ≡ q
    same c q e = grind (arith, nat_tests)

    by_test : (b : Bool) → eqb c q ≡ b → b ≡ false
    by_test false e = refl
    by_test true e = let r : is_digit q 16 ≡ true = subst (λ z. is_digit z 16 ≡ true) (same c q e) h in absurd (cc)

-- hexadecimal digits close no literal
hex_holds : (q : ℕ) (ds t : List ℕ) → is_digit q 16 ≡ false → is_hex ds ≡ true → holds q false (ds ++ t) ≡ holds q false t
hex_holds q [] t z h = refl
hex_holds q (d ∷ ds) t z h =
    let digit : is_digit d 16 ≡ true = and_left _ _ h in
    rw (hex_not d q digit z, hex_not d 92 digit refl) (hex_holds q ds t z (and_right _ _ h))

-- an escape closes no literal
pub escape_holds : (q : ℕ) (e t : List ℕ) (v : ℕ) → (q ≡ 34) ⊎ (q ≡ 39) → IsEscape e v → holds q false (e ++ t) ≡ holds q false t
escape_holds q e t v k h = ⊎_elim (λ a. at 34 a refl refl refl h) (λ a. at 39 a refl refl refl h) k
  where
    at : (p : ℕ) → q ≡ p → is_digit p 16 ≡ false → eqb 92 p ≡ false → eqb p 96 ≡ false → IsEscape e v →
        holds q false (e ++ t) ≡ holds q false t
    at p same z n m h = rw same (⊎_elim
        (λ a. rw (a.1, n, m) refl)
        (λ a. rw (a.2, n, m) (hex_holds p a.1 t z a.4))
        h)

-- ---- an escape that stands is read

-- bytes that test as equal are equal
pub eq_of : (c k : ℕ) → eqb c k ≡ true → c ≡ k
eq_of c k h = grind (arith, nat_tests)

-- a byte that hexadecimal digits follow is no escape alone
hex_not_simple : (c n : ℕ) → hex_len c ≡ Some n → escaped c ≡ None
hex_not_simple c n h = of_tests (eqb c 120) (eqb c 117) (eqb c 85) refl refl refl h
  where
    same : (k : ℕ) → eqb c k ≡ true → escaped k ≡ None → escaped c ≡ None
    same k e f = ap escaped (eq_of c k e) ∙ f

    of_tests : (a b d : Bool) → eqb c 120 ≡ a → eqb c 117 ≡ b → eqb c 85 ≡ d →
        cond a (Some 2) (cond b (Some 4) (cond d (Some 8) None)) ≡ Some n → escaped c ≡ None
    of_tests true b d e f g h = same 120 e refl
    of_tests false true d e f g h = same 117 f refl
    of_tests false false true e f g h = same 85 g refl
    of_tests false false false e f g h = absurd (cc)

-- a scalar value is a small number
scalar_small : (v : ℕ) → scalar v ≡ true → v < 2 ^ 127
scalar_small v h = let k = scalar_fits v h in omega (arith, k)

-- the value of a scalar value is kept
value_read : (ds : List ℕ) (v : ℕ) → v ≡ digits_value 16 ds → scalar v ≡ true → value_of 16 ds ≡ Some v
value_read ds v e h = in_range (digits_value 16 ds) e (subst (λ q. q < 2 ^ 127) e (scalar_small v h))
  where
    in_range : (w : ℕ) → v ≡ w → w < 2 ^ 127 → cond (ltb w (2 ^ 127)) (Some w) None ≡ Some v
    in_range w e h = grind (arith, nat_tests)

-- a hexadecimal escape is read whole
hex_whole : (c : ℕ) (ds : List ℕ) (v : ℕ) → is_hex ds ≡ true → v ≡ digits_value 16 ds → MayStand c v →
    hex_value_of c (length ds) ds ≡ Some (v, 1 + length ds)
hex_whole c ds v h e m = rw (eq-eqb (length ds) (length ds) refl, h, value_read ds v e m.0, m.0, low c v m.1) refl
  where
    low : (c v : ℕ) → (c ≡ 120 → v < 128) → (eqb c 120 && leb 128 v) ≡ false
    low c v h = grind (arith, nat_tests)

-- an escape of one byte is read
simple_stands : (c : ℕ) (more : List ℕ) (v : ℕ) → escaped c ≡ Some v → escape (c ∷ more) ≡ Some (v, 1)
simple_stands c more v h = rw (escape, h) refl

-- an escape of hexadecimal digits is read
hex_stands : (c : ℕ) (ds more : List ℕ) (v : ℕ) → escaped c ≡ None → hex_len c ≡ Some (length ds) →
    hex_value_of c (length ds) ds ≡ Some (v, 1 + length ds) → escape (c ∷ (ds ++ more)) ≡ Some (v, 1 + length ds)
hex_stands c ds more v none len whole = rw (escape, none) (hex_only ∙ whole)
  where
    hex_only : hex_escape c (ds ++ more) ≡ hex_value_of c (length ds) ds
    hex_only = rw (hex_escape, len) (ap (hex_value_of c (length ds)) (take-append_seam ds more))

-- what stands behind the backslash of an escape is read as that escape
pub escape_stands : (w more : List ℕ) (v : ℕ) → IsEscape (92 ∷ w) v → escape (w ++ more) ≡ Some (v, length w)
escape_stands w more v h = ⊎_elim simple hex h
  where
    simple : ((c : ℕ) × (92 ∷ w ≡ 92 ∷ c ∷ []) × (escaped c ≡ Some v)) → escape (w ++ more) ≡ Some (v, length w)
    simple a = let k : w ≡ a.0 ∷ [] = cc in rw k (simple_stands a.0 more v a.2)

    hex : ((c : ℕ) × (ds : List ℕ) × (92 ∷ w ≡ 92 ∷ c ∷ ds) × (hex_len c ≡ Some (length ds)) × (is_hex ds ≡ true) ×
        (v ≡ digits_value 16 ds) × MayStand c v) → escape (w ++ more) ≡ Some (v, length w)
    hex a =
        let c = a.0 in
        let ds = a.1 in
        let k : w ≡ c ∷ ds = cc in
        let none = hex_not_simple c (length ds) a.3 in
        let len = a.3 in
        let one : 1 + length ds ≡ suc (length ds) = omega arith in
        let whole = hex_whole c ds v a.4 a.5 a.6 in
        rw k (hex_stands c ds more v none len whole ∙ ap (λ n. Some (v, n)) one)

-- an escape begins with a backslash
pub escape_first : (e : List ℕ) (v : ℕ) → IsEscape e v → (w : List ℕ) × (e ≡ 92 ∷ w)
escape_first e v h = ⊎_elim (λ a. (a.0 ∷ [], a.1)) (λ a. (a.0 ∷ a.1, a.2)) h

-- no escape stands where none is read
pub no_escape : (bad e more : List ℕ) (v : ℕ) → escape bad ≡ None → 92 ∷ bad ≡ e ++ more → IsEscape e v → ⊥
no_escape bad e more v h k is =
    let f = escape_first e v is in
    let w = f.0 in
    let whole : 92 ∷ bad ≡ 92 ∷ (w ++ more) = k ∙ ap (λ l. l ++ more) f.1 in
    let tail : bad ≡ w ++ more = cc in
    let read = escape_stands w more v (subst (λ l. IsEscape l v) f.1 is) in
    let both : None ≡ Some (v, length w) = sym h ∙ ap escape tail ∙ read in cc
