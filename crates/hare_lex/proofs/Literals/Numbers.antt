-- Numbers at the front of a text.
use Rattle.std.proofs.Common.{◌≡◌, ℕ, zero, suc, ◌+◌, ◌<◌, ◌≤◌, List, [], ◌∷◌, ◌++◌, Bool, true, false, cond, ◌&&◌, ◌||◌, not, eqb, length}
use Rattle.std.proofs.Common.{get_or, take, drop, refl, sym, ap, ◌∙◌, arith, subst, append_assoc, one-add, length-append, length-drop}
use Rattle.std.specs.List.{prefix_len, list_all}
use Rattle.std.specs.Char.{is_digit, is_ascii_digit}
use Rattle.std.specs.Str.Parse.{digits_value}
use Rattle.std.proofs.lemmas.Grind.{common_steps}
use Rattle.std.proofs.lemmas.Bool.Decides.{nat_tests}
use Rattle.hare_tree.specs.declared.token.Suffix.{Suffix}
use Rattle.hare_tree.specs.declared.token.Suffix.TheVariants as suffix
use Rattle.hare_tree.specs.Words.{suffix_word, Base, Decimal, Hexadecimal, Octal, Binary, radix, base_mark}
use Rattle.hare_tree.specs.Spelling.{IsNumber}
use Rattle.hare_lex.specs.Lexing.{longest, suffixes, suffix_named, radix_of, mark_len_of, number_in, number_at, value_of}
use Rattle.hare_lex.proofs.Fronts.Lists.{and_left, and_right, run_passes, run_within}
use Rattle.hare_lex.proofs.Fronts.Longest.{front_suffix, suffix_most, suffix_no_digit, no_suffix_digit, longest_within}

abbrev digit : ℕ → ℕ → Bool
digit r c = is_digit c r

-- the length of the digits and the suffix at the front
abbrev pub tail_len : ℕ → List ℕ → ℕ
tail_len r s = prefix_len (λ c. is_digit c r) s + longest suffixes (drop (prefix_len (λ c. is_digit c r) s) s)

no_run : (r : ℕ) (w more : List ℕ) → no_suffix_digit r w ≡ true → 0 < length w → prefix_len (λ c. is_digit c r) (w ++ more) ≡ 0
no_run r [] more h n = absurd (omega arith)
no_run r (c ∷ w) more h n = stop (is_digit c r) h
  where
    stop : (b : Bool) → not b ≡ true → cond b (1 + prefix_len (λ c. is_digit c r) (w ++ more)) 0 ≡ 0
    stop false h = refl
    stop true h = absurd (cc)

suffix_only : (r : ℕ) (x : Suffix) (more : List ℕ) → r ≤ 16 → length (suffix_word x) ≤ tail_len r (suffix_word x ++ more)
suffix_only r x more h = by_len (length (suffix_word x)) refl
  where
    by_len : (n : ℕ) → length (suffix_word x) ≡ n → length (suffix_word x) ≤ tail_len r (suffix_word x ++ more)
    by_len zero e = omega arith
    by_len (suc n) e =
        let t = suffix_word x ++ more in
        let none = ap (λ k. k + longest suffixes (drop k t)) (no_run r (suffix_word x) more (suffix_no_digit x r h) (omega arith)) in
        omega (arith, none, suffix_most x more)

-- digits and a suffix at the front are no longer than what is read
pub tail_most : (r : ℕ) (ds : List ℕ) (x : Suffix) (more : List ℕ) → r ≤ 16 → list_all (λ c. is_digit c r) ds ≡ true →
    length ds + length (suffix_word x) ≤ tail_len r (ds ++ (suffix_word x ++ more))
tail_most r [] x more h each = omega (arith, suffix_only r x more h)
tail_most r (d ∷ ds) x more h each =
    let first : is_digit d r ≡ true = and_left _ _ each in
    let t = ds ++ (suffix_word x ++ more) in
    let more_of : length ds + length (suffix_word x) ≤ tail_len r t = tail_most r ds x more h (and_right _ _ each) in
    let n = prefix_len (λ c. is_digit c r) t in
    let same : drop (1 + n) (d ∷ t) ≡ drop n t = rw one-add refl in
    rw first (rw same (omega (arith, more_of)))

-- ---- the base

-- the radix that the front of the text names by its mark, or 10
pub record HasBase (s : List ℕ) (r : ℕ) : Type 0 where
  pub base : Base
  pub radix_is : r ≡ radix base
  pub mark_is : mark_len_of r ≡ length (base_mark base)
  pub split : s ≡ base_mark base ++ drop (mark_len_of r) s
  pub first : is_digit (get_or (drop (mark_len_of r) s) 0 0) r ≡ true

byte_is : (c k : ℕ) → eqb c k ≡ true → c ≡ k
byte_is c k h = grind (arith, nat_tests)

marked : (b : Base) (m r : ℕ) (s : List ℕ) → r ≡ radix b → base_mark b ≡ 48 ∷ m ∷ [] → eqb 0 m ≡ false → mark_len_of r ≡ 2 →
    (eqb (get_or s 0 0) 48 && eqb (get_or s 1 0) m && is_digit (get_or s 2 0) r) ≡ true → HasBase s r
marked b m r [] e k z l h = absurd (cc)
marked b m r (c ∷ []) e k z l h = let q : eqb 0 m ≡ true = and_right _ _ (and_left _ _ h) in absurd (cc)
marked b m r (c ∷ d ∷ s) e k z l h =
    let one = byte_is c 48 (and_left _ _ (and_left _ _ h)) in
    let two = byte_is d m (and_right _ _ (and_left _ _ h)) in
    record { base = b; radix_is = e; mark_is = l ∙ sym (ap length k); split = rw (l, k, one, two) refl; first = rw l (and_right _ _ h) }

pub decimal : (c : ℕ) → is_ascii_digit c ≡ true → is_digit c 10 ≡ true
decimal c h = grind (arith, nat_tests, common_steps)

radix_step : (s : List ℕ) (a b c : Bool) → (eqb (get_or s 0 0) 48 && eqb (get_or s 1 0) 120 && is_digit (get_or s 2 0) 16) ≡ a →
    (eqb (get_or s 0 0) 48 && eqb (get_or s 1 0) 111 && is_digit (get_or s 2 0) 8) ≡ b →
    (eqb (get_or s 0 0) 48 && eqb (get_or s 1 0) 98 && is_digit (get_or s 2 0) 2) ≡ c → is_ascii_digit (get_or s 0 0) ≡ true →
    HasBase s (cond a 16 (cond b 8 (cond c 2 10)))
radix_step s true b c e f g h = marked Hexadecimal 120 16 s refl refl refl refl e
radix_step s false true c e f g h = marked Octal 111 8 s refl refl refl refl f
radix_step s false false true e f g h = marked Binary 98 2 s refl refl refl refl g
radix_step s false false false e f g h = record
    { base = Decimal; radix_is = refl; mark_is = refl; split = refl; first = decimal (get_or s 0 0) h }

pub radix_has : (s : List ℕ) → is_ascii_digit (get_or s 0 0) ≡ true → HasBase s (radix_of s)
radix_has s h = radix_step s _ _ _ refl refl refl h

-- ---- what is read is a number

take_nothing : (e : ℕ) → take {A = ℕ} e [] ≡ []
take_nothing zero = refl
take_nothing (suc e) = refl

take_add : (n e : ℕ) (d : List ℕ) → take (n + e) d ≡ take n d ++ take e (drop n d)
take_add zero e d = let k : 0 + e ≡ e = omega arith in rw k refl
take_add (suc n) e [] = let k : suc n + e ≡ suc (n + e) = omega arith in rw k (sym (take_nothing e))
take_add (suc n) e (c ∷ d) = let k : suc n + e ≡ suc (n + e) = omega arith in rw k (ap (λ l. c ∷ l) (take_add n e d))

take_behind : (mark : List ℕ) (n : ℕ) (d : List ℕ) → take (length mark + n) (mark ++ d) ≡ mark ++ take n d
take_behind [] n d = let k : 0 + n ≡ n = omega arith in rw k refl
take_behind (c ∷ mark) n d =
    let k : suc (length mark) + n ≡ suc (length mark + n) = omega arith in rw k (ap (λ l. c ∷ l) (take_behind mark n d))

-- the digits of the number at the front
abbrev pub digits_at : List ℕ → List ℕ
digits_at s = let d = drop (mark_len_of (radix_of s)) s in take (prefix_len (λ c. is_digit c (radix_of s)) d) d

pub len_at : (s : List ℕ) (r : ℕ) → radix_of s ≡ r → (number_at s).len ≡ mark_len_of r + tail_len r (drop (mark_len_of r) s)
unfolding number_in
len_at s r e = ap (λ q. (number_in q (mark_len_of q) (drop (mark_len_of q) s)).len) e ∙ omega arith

spelled_in : (s : List ℕ) (r : ℕ) (b : Base) (d : List ℕ) → mark_len_of r ≡ length (base_mark b) → s ≡ base_mark b ++ d →
    take (mark_len_of r + tail_len r d) s ≡ base_mark b ++
    (take (prefix_len (λ c. is_digit c r) d) d ++ suffix_word
    (suffix_named (take (longest suffixes (drop (prefix_len (λ c. is_digit c r) d) d)) (drop (prefix_len (λ c. is_digit c r) d) d))))
spelled_in s r b d m e =
    let n = prefix_len (λ c. is_digit c r) d in
    let k = longest suffixes (drop n d) in
    rw (m, e, front_suffix (drop n d)) (take_behind (base_mark b) (n + k) d ∙ ap (λ l. base_mark b ++ l) (take_add n k d))

some_digit : (p : ℕ → Bool) (d : List ℕ) → p (get_or d 0 0) ≡ true → p 0 ≡ false → 0 < length (take (prefix_len p d) d)
some_digit p [] h z = let k : true ≡ false = sym h ∙ z in absurd (cc)
some_digit p (c ∷ d) h z = rw h (rw one-add (omega arith))

zero_no_digit : (r : ℕ) → r ≤ 16 → is_digit 0 r ≡ false
zero_no_digit r h = grind (arith, nat_tests)

radix_most : (b : Base) → radix b ≤ 16
radix_most Decimal = omega arith
radix_most Hexadecimal = omega arith
radix_most Octal = omega arith
radix_most Binary = omega arith

pub number_sound : (s : List ℕ) → is_ascii_digit (get_or s 0 0) ≡ true →
    IsNumber (digits_value (radix_of s) (digits_at s)) (number_at s).suffix (take (number_at s).len s)
unfolding number_in
number_sound s h =
    let r = radix_of s in
    let b = radix_has s h in
    let d = drop (mark_len_of r) s in
    let p : ℕ → Bool = λ c. is_digit c r in
    let r_is : r ≡ radix b.base = b.radix_is in
    record {
      base = b.base;
      digits = take (prefix_len p d) d;
      spelled = ap (λ n. take n s) (len_at s r refl) ∙ spelled_in s r b.base d b.mark_is b.split;
      some = some_digit p d b.first (zero_no_digit r (omega (arith, radix_most b.base, r_is)));
      each = subst (λ q. list_all (λ c. is_digit c q) (take (prefix_len p d) d) ≡ true) r_is (run_passes p d);
      value_is = ap (λ q. digits_value q (take (prefix_len p d) d)) r_is;
    }

pub number_value : (s : List ℕ) → (number_at s).value ≡ value_of (radix_of s) (digits_at s)
unfolding number_in
number_value s = refl

-- ---- no number at the front is longer

abbrev suffix_first : ℕ → Bool
suffix_first m = eqb m 105 || eqb m 117 || eqb m 122

-- a decimal number before the mark of another base is one digit
pub one_zero : (m : ℕ) (d : ℕ) (ds : List ℕ) (x : Suffix) (more z : List ℕ) → (d ∷ ds) ++ (suffix_word x ++ more) ≡ 48 ∷ m ∷ z →
    list_all (λ c. is_digit c 10) ds ≡ true → is_digit m 10 ≡ false → suffix_first m ≡ false → length ds + length (suffix_word x) ≡ 0
one_zero m d (c ∷ ds) x more z e h n f =
    let same : c ≡ m = cc in
    let k : is_digit m 10 ≡ true = subst (λ q. is_digit q 10 ≡ true) same (and_left _ _ h) in absurd (cc)
one_zero m d [] suffix.None more z e h n f = refl
one_zero m d [] suffix.I8 more z e h n f =
    let same : 105 ≡ m = cc in let k : suffix_first 105 ≡ false = subst (λ q. suffix_first q ≡ false) (sym same) f in absurd (cc)
one_zero m d [] suffix.I16 more z e h n f =
    let same : 105 ≡ m = cc in let k : suffix_first 105 ≡ false = subst (λ q. suffix_first q ≡ false) (sym same) f in absurd (cc)
one_zero m d [] suffix.I32 more z e h n f =
    let same : 105 ≡ m = cc in let k : suffix_first 105 ≡ false = subst (λ q. suffix_first q ≡ false) (sym same) f in absurd (cc)
one_zero m d [] suffix.I64 more z e h n f =
    let same : 105 ≡ m = cc in let k : suffix_first 105 ≡ false = subst (λ q. suffix_first q ≡ false) (sym same) f in absurd (cc)
one_zero m d [] suffix.U8 more z e h n f =
    let same : 117 ≡ m = cc in let k : suffix_first 117 ≡ false = subst (λ q. suffix_first q ≡ false) (sym same) f in absurd (cc)
one_zero m d [] suffix.U16 more z e h n f =
    let same : 117 ≡ m = cc in let k : suffix_first 117 ≡ false = subst (λ q. suffix_first q ≡ false) (sym same) f in absurd (cc)
one_zero m d [] suffix.U32 more z e h n f =
    let same : 117 ≡ m = cc in let k : suffix_first 117 ≡ false = subst (λ q. suffix_first q ≡ false) (sym same) f in absurd (cc)
one_zero m d [] suffix.U64 more z e h n f =
    let same : 117 ≡ m = cc in let k : suffix_first 117 ≡ false = subst (λ q. suffix_first q ≡ false) (sym same) f in absurd (cc)
one_zero m d [] suffix.I more z e h n f =
    let same : 105 ≡ m = cc in let k : suffix_first 105 ≡ false = subst (λ q. suffix_first q ≡ false) (sym same) f in absurd (cc)
one_zero m d [] suffix.U more z e h n f =
    let same : 117 ≡ m = cc in let k : suffix_first 117 ≡ false = subst (λ q. suffix_first q ≡ false) (sym same) f in absurd (cc)
one_zero m d [] suffix.Z more z e h n f =
    let same : 122 ≡ m = cc in let k : suffix_first 122 ≡ false = subst (λ q. suffix_first q ≡ false) (sym same) f in absurd (cc)

decimal_most : (s : List ℕ) (r : ℕ) (b : Base) (d : ℕ) (ds : List ℕ) (x : Suffix) (more rest : List ℕ) → radix_of s ≡ r → r ≡ radix b →
    mark_len_of r ≡ length (base_mark b) → s ≡ base_mark b ++ rest → s ≡ (d ∷ ds) ++ (suffix_word x ++ more) →
    list_all (λ c. is_digit c 10) (d ∷ ds) ≡ true → suc (length ds) + length (suffix_word x) ≤ (number_at s).len
decimal_most s r Decimal d ds x more rest q e m k j h =
    let n = len_at s 10 (q ∙ e) in
    let most = tail_most 10 (d ∷ ds) x more (omega arith) h in
    let same = ap (tail_len 10) j in
    omega (arith, n, most, same)
decimal_most s r Hexadecimal d ds x more rest q e m k j h =
    let n = len_at s 16 (q ∙ e) in omega (arith, n, one_zero 120 d ds x more rest (sym j ∙ k) (and_right _ _ h) refl refl)
decimal_most s r Octal d ds x more rest q e m k j h =
    let n = len_at s 8 (q ∙ e) in omega (arith, n, one_zero 111 d ds x more rest (sym j ∙ k) (and_right _ _ h) refl refl)
decimal_most s r Binary d ds x more rest q e m k j h =
    let n = len_at s 2 (q ∙ e) in omega (arith, n, one_zero 98 d ds x more rest (sym j ∙ k) (and_right _ _ h) refl refl)

marked_most : (s : List ℕ) (b : Base) (m : ℕ) (ds : List ℕ) (x : Suffix) (more : List ℕ) → base_mark b ≡ 48 ∷ m ∷ [] →
    mark_len_of (radix b) ≡ 2 → s ≡ 48 ∷ m ∷ (ds ++ (suffix_word x ++ more)) → radix_of s ≡ radix b →
    list_all (λ c. is_digit c (radix b)) ds ≡ true → 2 + (length ds + length (suffix_word x)) ≤ (number_at s).len
marked_most s b m ds x more k l e q h =
    let n = len_at s (radix b) q in
    let most = tail_most (radix b) ds x more (radix_most b) h in
    let same : drop (mark_len_of (radix b)) s ≡ ds ++ (suffix_word x ++ more) = rw (l, e) refl in
    let lens = ap (tail_len (radix b)) same in
    omega (arith, n, most, lens, l)

base_most : (s : List ℕ) (b : Base) (ds : List ℕ) (x : Suffix) (more : List ℕ) → s ≡ base_mark b ++ (ds ++ (suffix_word x ++ more)) →
    0 < length ds → list_all (λ c. is_digit c (radix b)) ds ≡ true →
    length (base_mark b) + (length ds + length (suffix_word x)) ≤ (number_at s).len
base_most s b [] x more e n h = absurd (omega arith)
base_most s Decimal (d ∷ ds) x more e n h =
    let c = radix_has s (rw e (ascii d (and_left _ _ h))) in
    omega (arith, decimal_most s (radix_of s) c.base d ds x more _ refl c.radix_is c.mark_is c.split e h)
  where
    ascii : (d : ℕ) → is_digit d 10 ≡ true → is_ascii_digit d ≡ true
    ascii d h = grind (arith, nat_tests, common_steps)
base_most s Hexadecimal (d ∷ ds) x more e n h =
    let first : is_digit d 16 ≡ true = and_left _ _ h in
    omega (arith, marked_most s Hexadecimal 120 (d ∷ ds) x more refl refl e (rw e (rw first refl)) h)
base_most s Octal (d ∷ ds) x more e n h =
    let first : is_digit d 8 ≡ true = and_left _ _ h in
    omega (arith, marked_most s Octal 111 (d ∷ ds) x more refl refl e (rw e (rw first refl)) h)
base_most s Binary (d ∷ ds) x more e n h =
    let first : is_digit d 2 ≡ true = and_left _ _ h in
    omega (arith, marked_most s Binary 98 (d ∷ ds) x more refl refl e (rw e (rw first refl)) h)

pub number_most : (s : List ℕ) (v : ℕ) (x : Suffix) (w more : List ℕ) → s ≡ w ++ more → IsNumber v x w → length w ≤ (number_at s).len
number_most s v x w more e h =
    let b = h.base in
    let tail = h.digits ++ suffix_word x in
    let joined : s ≡ base_mark b ++ (h.digits ++ (suffix_word x ++ more)) =
    e ∙ ap (λ l. l ++ more) h.spelled ∙ append_assoc (base_mark b) tail more ∙ ap (λ l. base_mark b ++ l)
    (append_assoc h.digits (suffix_word x) more) in
    let most = base_most s b h.digits x more joined h.some h.each in
    let len = ap length h.spelled ∙ length-append (base_mark b) tail in
    let len_tail = length-append h.digits (suffix_word x) in
    omega (arith, most, len, len_tail)

-- what is read lies in the text
pub number_within : (s : List ℕ) → is_ascii_digit (get_or s 0 0) ≡ true → (number_at s).len ≤ length s
number_within s h =
    let r = radix_of s in
    let b = radix_has s h in
    let d = drop (mark_len_of r) s in
    let n = prefix_len (λ c. is_digit c r) d in
    let whole = ap length b.split ∙ length-append (base_mark b.base) d in
    omega (arith, len_at s r refl, whole, b.mark_is, run_within (λ c. is_digit c r) d, longest_within suffixes (drop n d), length-drop n d)
