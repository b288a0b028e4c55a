-- One turn of each loop of the lexer.
use Rattle.std.proofs.Common.{◌≡◌, ℕ, zero, suc, ◌+◌, ◌*◌, ◌<◌, ◌≤◌, ◌^◌, List, [], ◌∷◌, ◌++◌, Some, None, Bool, true, false, ltb, length}
use Rattle.std.proofs.Common.{get_or, take, drop, refl, sym, ap, ◌∙◌, arith, cond, encode_utf8, append_assoc}
use Rattle.std.specs.Char.{digit_value}
use Rattle.std.specs.Str.{IsUtf8, is_utf8}
use Rattle.std.specs.Str.Parse.{digits_value}
use Rattle.std.proofs.lemmas.Bool.Decides.{nat_tests}
use Rattle.std.proofs.lemmas.Int.Digits.{digits_value_more}
use Rattle.std.proofs.lemmas.Str.{IsUtf8-from_is_utf8}
use Rattle.std.proofs.lemmas.Str.Parse.{digits_value-take-le}
use Rattle.hare_lex.specs.Lexing.{value_of, bad_escape, unescaped, escape, escape_at}

if_some : (x w : ℕ) → Some w ≡ cond (ltb x (2 ^ 127)) (Some x) None → (w ≡ x) × (x < 2 ^ 127)
if_some x w h = grind (arith, nat_tests)

if_none : (x : ℕ) → None ≡ cond (ltb x (2 ^ 127)) (Some x) None → 2 ^ 127 ≤ x
if_none x h = grind (arith, nat_tests)

-- one more digit
pub value_step : (r : ℕ) (ds : List ℕ) (i v w : ℕ) → i < length ds → v ≡ digits_value r (take i ds) →
    Some w ≡ cond (ltb (v * r + digit_value (get_or ds i 0)) (2 ^ 127)) (Some (v * r + digit_value (get_or ds i 0))) None →
    (w ≡ digits_value r (take (i + 1) ds)) × (w < 2 ^ 127)
value_step r ds i v w h e k =
    let p = if_some _ w k in
    let more = digits_value_more r ds i h in
    (p.0 ∙ ap (λ x. x * r + digit_value (get_or ds i 0)) e ∙ sym more, omega (arith, p.0, p.1))

-- a front of the digits is too great
pub value_stop : (r : ℕ) (ds : List ℕ) (i v : ℕ) → 1 ≤ r → i < length ds → v ≡ digits_value r (take i ds) →
    None ≡ cond (ltb (v * r + digit_value (get_or ds i 0)) (2 ^ 127)) (Some (v * r + digit_value (get_or ds i 0))) None →
    None ≡ value_of r ds
value_stop r ds i v one h e k =
    let p = if_none _ k in
    let more = digits_value_more r ds i h in
    let same : v * r + digit_value (get_or ds i 0) ≡ digits_value r (take (i + 1) ds) =
    ap (λ x. x * r + digit_value (get_or ds i 0)) e ∙ sym more in
    let upto = digits_value-take-le r ds (i + 1) one in
    let great : 2 ^ 127 ≤ digits_value r ds = omega (arith, p, same, upto) in
    none_of (digits_value r ds) great
  where
    none_of : (x : ℕ) → 2 ^ 127 ≤ x → None ≡ cond (ltb x (2 ^ 127)) (Some x) None
    none_of x g = grind (arith, nat_tests)

pub bad_escape_skip : (n : ℕ) (s : List ℕ) → bad_escape n s ≡ bad_escape 0 (drop n s)
bad_escape_skip zero s = refl
bad_escape_skip (suc n) [] = refl
bad_escape_skip (suc n) (c ∷ s) = bad_escape_skip n s

pub unescaped_skip : (n : ℕ) (s : List ℕ) → unescaped n s ≡ unescaped 0 (drop n s)
unescaped_skip zero s = refl
unescaped_skip (suc n) [] = refl
unescaped_skip (suc n) (c ∷ s) = unescaped_skip n s

-- behind an escape
pub bad_escape_at : (c : ℕ) (s : List ℕ) (v n : ℕ) → c ≡ 92 → escape s ≡ Some (v, n) → bad_escape 0 (c ∷ s) ≡ bad_escape 0 (drop n s)
bad_escape_at c s v n e h = rw (e, h) (bad_escape_skip n s)

pub unescaped_at : (c : ℕ) (s : List ℕ) (v n : ℕ) → escape_at c s ≡ Some (v, n) →
    unescaped 0 (c ∷ s) ≡ encode_utf8 v ++ unescaped 0 (drop n s)
unescaped_at c s v n h = rw (unescaped, h) (ap (λ l. encode_utf8 v ++ l) (unescaped_skip n s))

pub unescaped_more : (w w' t : List ℕ) (c : ℕ) (s : List ℕ) (v n : ℕ) → escape_at c s ≡ Some (v, n) → w' ≡ w ++ encode_utf8 v →
    w ++ unescaped 0 (c ∷ s) ≡ t → w' ++ unescaped 0 (drop n s) ≡ t
unescaped_more w w' t c s v n h e k = rw (e, append_assoc w (encode_utf8 v) (unescaped 0 (drop n s)), ← unescaped_at c s v n h) k

-- bytes that are not UTF-8 fail the test
pub not_utf8 : (s : List ℕ) (b : Bool) → is_utf8 s ≡ b → (IsUtf8 s → ⊥) → b ≡ false
not_utf8 s true e h = absurd (h (IsUtf8-from_is_utf8 s e))
not_utf8 s false e h = refl
