-- What operators give stays within the host's numbers, and is what the definitions say.
use Rattle.std.proofs.Common.{◌≡◌, ◌∙◌, ap, refl, ℕ, zero, suc, ◌-◌, ◌*◌, ◌/◌, ◌%◌, ◌⊎◌, inl, inr, ◌^◌, ◌<◌, ◌≤◌, Bool, true, false, if◌then◌else◌, sym, subst, arith, to_z, of_z}
use Rattle.std.specs.Prelude.{ℤ, pos, negsuc, neg_ℤ, ◌*ℤ◌, int_div, int_rem}
use Rattle.std.proofs.lemmas.Int.{ints, to_z-of_z}
use Rattle.std.proofs.Math.Nat.{mul-le-mul, pow-le-pow_right, one-le-pow}
use lib.Dec.{T, le→leb}
use lib.IntN.{nat_abs}
use lib.Signed.{mag, le_z, mag_rem}
use mir.Syntax.{w128}
use Rattle.hx_base.specs.Numbers.{residue, wrap}
use Rattle.hare_typed.specs.Arithmetic as spec
use Rattle.hare_typed.specs.Answers.{Answer, Gives, Aborts, ◌then◌}
use Rattle.hare_typed.proofs.ScalarLemmas.{wrap-residue}
use Rattle.hare_const.specs.declared.operators.IntType.{IntType}
use Rattle.hare_const.specs.declared.operators.Shift.{Shift}
use Rattle.hare_const.specs.declared.operators.Shift.TheVariants as way
use Rattle.hare_typed.specs.Settled.{IsWidth}
use Rattle.hare_const.specs.Operators.{int_of, shift_of, IsWhole}

-- ---- within 128 bits

pub kept : (v : ℤ) → mag v < 2 ^ 127 → to_z w128 (of_z w128 v) ≡ v
kept v h = to_z-of_z w128 v (record { sfits = h })

pub whole-kept : (v : ℤ) → IsWhole v → to_z w128 (of_z w128 v) ≡ v
whole-kept (pos n) h = kept (pos n) (omega (arith, ints, h.high))
whole-kept (negsuc n) h = kept (negsuc n) (omega (arith, ints, h.low))

below_product : (a b m n : ℕ) → a ≤ m → b ≤ n → a * b ≤ m * n
below_product a b m n h k = mul-le-mul h k

mag-neg : (n k : ℕ) → n ≤ k → mag (neg_ℤ (pos n)) ≤ k
mag-neg zero k h = omega arith
mag-neg (suc n) k h = omega arith

not_negative : (n : ℕ) → le_z (pos 0) (pos n) ≡ false → ⊥
not_negative n e = let some : 0 ≤ n = omega arith in subst T e (le→leb 0 n some)

-- two numbers of which one is negative
pub product_fits : (x y : ℤ) → IsWhole x → IsWhole y → (le_z (pos 0) x ≡ false) ⊎ (le_z (pos 0) y ≡ false) → mag (x *ℤ y) < 2 ^ 127
product_fits (pos a) (pos b) h k (inl e) = absurd (not_negative a e)
product_fits (pos a) (pos b) h k (inr e) = absurd (not_negative b e)
product_fits (pos a) (negsuc b) h k e =
    let p = below_product a (suc b) (2 ^ 64 - 1) (2 ^ 63) (omega (arith, ints, h.high)) (omega (arith, ints, k.low)) in
    let q = mag-neg (a * suc b) ((2 ^ 64 - 1) * 2 ^ 63) p in
    omega arith
product_fits (negsuc a) (pos b) h k e =
    let p = below_product (suc a) b (2 ^ 63) (2 ^ 64 - 1) (omega (arith, ints, h.low)) (omega (arith, ints, k.high)) in
    let q = mag-neg (suc a * b) (2 ^ 63 * (2 ^ 64 - 1)) p in
    omega arith
product_fits (negsuc a) (negsuc b) h k e =
    let p = below_product (suc a) (suc b) (2 ^ 63) (2 ^ 63) (omega (arith, ints, h.low)) (omega (arith, ints, k.low)) in
    omega arith

-- a number that is moved by at most 63 bits
pub moved_fits : (x : ℤ) (n bits : ℕ) → IsWhole x → n < bits → bits ≤ 64 → mag (x *ℤ pos (2 ^ n)) < 2 ^ 127
moved_fits (pos a) n bits h l few =
    let most : n ≤ 63 = omega arith in
    let power : 2 ^ n ≤ 2 ^ 63 = pow-le-pow_right (omega arith) most in
    let p = below_product a (2 ^ n) (2 ^ 64 - 1) (2 ^ 63) (omega (arith, ints, h.high)) power in
    omega arith
moved_fits (negsuc a) n bits h l few =
    let most : n ≤ 63 = omega arith in
    let power : 2 ^ n ≤ 2 ^ 63 = pow-le-pow_right (omega arith) most in
    let p = below_product (suc a) (2 ^ n) (2 ^ 63) (2 ^ 63) (omega (arith, ints, h.low)) power in
    let q = mag-neg (suc a * 2 ^ n) (2 ^ 63 * 2 ^ 63) p in
    omega arith

quotient_fits : (x y : ℤ) → IsWhole x → mag (int_div x y) < 2 ^ 127
quotient_fits (pos a) (pos b) h = let l : a / b ≤ a = omega arith in omega (arith, ints, h.high)
quotient_fits (pos a) (negsuc b) h =
    let l : a / suc b ≤ a = omega arith in
    let q = mag-neg (a / suc b) a l in
    omega (arith, ints, h.high)
quotient_fits (negsuc a) (pos b) h =
    let l : suc a / b ≤ suc a = omega arith in
    let q = mag-neg (suc a / b) (suc a) l in
    omega (arith, ints, h.low)
quotient_fits (negsuc a) (negsuc b) h =
    let l : suc a / suc b ≤ suc a = omega arith in
    omega (arith, ints, h.low)

remainder_fits : (x y : ℤ) → IsWhole x → mag (int_rem x y) < 2 ^ 127
remainder_fits x y h = let l = mag_rem x y in omega (arith, whole_fits x h)
  where
    whole_fits : (v : ℤ) → IsWhole v → mag v < 2 ^ 64
    whole_fits (pos n) k = omega (arith, ints, k.high)
    whole_fits (negsuc n) k = omega (arith, ints, k.low)

-- ---- what the host computes

-- the low bits of a product of two numbers that are not negative
pub product_cut : (t : IntType) (a b : ℕ) → IsWidth t.bits →
    spec.cut (int_of t) (to_z w128 (a * b % (1 * 2 ^ t.bits % 2 ^ 128))) ≡ spec.cut (int_of t) (pos (a * b))
product_cut t a b w =
    let power : 2 ^ t.bits ≤ 2 ^ 64 = pow-le-pow_right (omega arith) w.few in
    let some : 1 ≤ 2 ^ t.bits = one-le-pow t.bits 2 (omega arith) in
    let modulus : 1 * 2 ^ t.bits % 2 ^ 128 ≡ 2 ^ t.bits = omega arith in
    let rest : a * b % (1 * 2 ^ t.bits % 2 ^ 128) ≡ a * b % 2 ^ t.bits = ap (λ m. a * b % m) modulus in
    let small : a * b % 2 ^ t.bits < 2 ^ t.bits = omega arith in
    let host : to_z w128 (a * b % 2 ^ t.bits) ≡ pos (a * b % 2 ^ t.bits) = omega (arith, ints) in
    ap (λ n. wrap (to_z w128 n) t.bits t.signed) rest
    ∙ ap (λ v. wrap v t.bits t.signed) host
    ∙ wrap-residue (pos (a * b)) t.bits t.signed

pub product_of : (x y : ℤ) → le_z (pos 0) x ≡ true → le_z (pos 0) y ≡ true → pos (nat_abs x * nat_abs y) ≡ x *ℤ y
product_of (pos a) (pos b) h k = refl
product_of (pos a) (negsuc b) h k = cc
product_of (negsuc a) y h k = cc

not_zero : (y : ℤ) → (of_z w128 y ≡ 0 → ⊥) → spec.is_zero y ≡ false
not_zero (pos zero) h = absurd (h refl)
not_zero (pos (suc n)) h = refl
not_zero (negsuc n) h = refl

-- what is given unless the divisor is zero, and cut
abbrev divided_if : Bool → ℤ → Answer ℤ
divided_if b v = if b then Aborts 8 else Gives v

abbrev cut_of : IntType → Answer ℤ → Answer ℤ
cut_of t a = a then λ v. Gives (spec.cut (int_of t) v)

pub quotient_given : (t : IntType) (x y : ℤ) → (of_z w128 y ≡ 0 → ⊥) → IsWhole x → IsWhole y →
    Gives (spec.cut (int_of t) (to_z w128 (of_z w128 (int_div (to_z w128 (of_z w128 x)) (to_z w128 (of_z w128 y)))))) ≡
    spec.arithmetic spec.Divide (int_of t) x y
quotient_given t x y z h k =
    let host : to_z w128 (of_z w128 (int_div (to_z w128 (of_z w128 x)) (to_z w128 (of_z w128 y)))) ≡ int_div x y =
    ap (λ v. to_z w128 (of_z w128 (int_div v (to_z w128 (of_z w128 y))))) (whole-kept x h)
    ∙ ap (λ v. to_z w128 (of_z w128 (int_div x v))) (whole-kept y k)
    ∙ kept (int_div x y) (quotient_fits x y h) in
    ap (λ v. Gives (spec.cut (int_of t) v)) host ∙ ap (λ b. cut_of t (divided_if b (int_div x y))) (sym (not_zero y z))

pub remainder_given : (t : IntType) (x y : ℤ) → (of_z w128 y ≡ 0 → ⊥) → IsWhole x → IsWhole y →
    Gives (spec.cut (int_of t) (to_z w128 (of_z w128 (int_rem (to_z w128 (of_z w128 x)) (to_z w128 (of_z w128 y)))))) ≡
    spec.arithmetic spec.Remainder (int_of t) x y
remainder_given t x y z h k =
    let host : to_z w128 (of_z w128 (int_rem (to_z w128 (of_z w128 x)) (to_z w128 (of_z w128 y)))) ≡ int_rem x y =
    ap (λ v. to_z w128 (of_z w128 (int_rem v (to_z w128 (of_z w128 y))))) (whole-kept x h)
    ∙ ap (λ v. to_z w128 (of_z w128 (int_rem x v))) (whole-kept y k)
    ∙ kept (int_rem x y) (remainder_fits x y h) in
    ap (λ v. Gives (spec.cut (int_of t) v)) host ∙ ap (λ b. cut_of t (divided_if b (int_rem x y))) (sym (not_zero y z))

pub left_given : (t : IntType) (w : Shift) (x amount host : ℤ) (n : ℕ) → w ≡ way.Left → host ≡ amount → n ≡ residue t.bits host →
    spec.cut (int_of t) (x *ℤ pos (2 ^ n)) ≡ spec.shifted (shift_of w) (int_of t) x amount
left_given t w x amount host n e f d =
    ap (λ k. spec.cut (int_of t) (x *ℤ pos (2 ^ k))) (d ∙ ap (residue t.bits) f) ∙ ap (λ v. spec.shifted (shift_of v) (int_of t) x amount)
    (sym e)
