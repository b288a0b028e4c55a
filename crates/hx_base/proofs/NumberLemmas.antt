-- Numbers of so many bits: multiples of a power of two, and what is left of a number modulo one.
use Rattle.std.proofs.Common.{◌≡◌, ℕ, suc, ◌+◌, ◌-◌, ◌*◌, ◌/◌, ◌%◌, ◌^◌, ◌<◌, ◌≤◌, Bool, true, false, refl, sym, ap, ◌∙◌, subst, arith}
use Rattle.std.specs.Prelude.{ℤ, pos, negsuc, ◌-ℤ◌, ◌≤ℤ◌, ◌<ℤ◌, nat_lt, bit_and}
use Rattle.std.specs.Int.{int_rem_euclid}
use Rattle.std.proofs.lemmas.Bool.Decides.{nat_tests}
use Rattle.std.proofs.lemmas.Int.{ints}
use Rattle.std.proofs.lemmas.Nat.Bits.{and_high_mask}
use Rattle.std.proofs.Math.Nat.{mod-eq_of_lt, one-le-pow, pow-suc}
use lib.Pow.{pow-lt}
use Rattle.hx_base.specs.Memory.{round_up}
use Rattle.hx_base.specs.Numbers.{residue, with_sign, wrap}

-- ---- multiples of a power of two

-- the bits from the power on are the multiple below
pub round_up-mask : (v a k : ℕ) → a ≡ 2 ^ k → v + a < 2 ^ 64 → bit_and (v + (a - 1)) (2 ^ 64 - 1 - (a - 1)) ≡ round_up v a
round_up-mask v a k e h =
    let some : 0 < 2 ^ k = one-le-pow k 2 (omega arith) in
    let within : k ≤ 64 = pick (nat_lt 64 k) refl in
    let mask : 2 ^ 64 - 1 - (a - 1) ≡ 2 ^ 64 - 2 ^ k = omega arith in
    rw mask (and_high_mask 64 k within (v + (a - 1)) (omega arith) ∙ ap (λ (m : ℕ). (v + (a - 1)) / m * m) (sym e))
  where
    pick : (b : Bool) → nat_lt 64 k ≡ b → k ≤ 64
    pick true t =
        let above : 64 < k = grind (arith, nat_tests) in
        let big : 2 ^ 64 < 2 ^ k = pow-lt above in
        absurd (omega (arith, big, e, h))
    pick false t = grind (arith, nat_tests)

-- ---- modulo a power of two

-- what the host's remainder gives
pub int_rem_euclid-residue : (v : ℤ) (m : ℕ) → int_rem_euclid v (pos m) ≡ pos (residue m v)
int_rem_euclid-residue (pos n) m = refl
int_rem_euclid-residue (negsuc n) m = refl

pub residue-below : (v : ℤ) (m : ℕ) → 0 < m → residue m v < m
residue-below (pos n) m h = omega arith
residue-below (negsuc n) m h = omega arith

-- a number read with the sign is what is 2 ^ bits less from half of it on
pub wrap-high : (v r : ℤ) (bits : ℕ) → r ≡ pos (residue (2 ^ bits) v) → pos (2 ^ (bits - 1)) ≤ℤ r → wrap v bits true ≡ r -ℤ pos (2 ^ bits)
wrap-high v r bits e h = rw e (pick (nat_lt (residue (2 ^ bits) v) (2 ^ (bits - 1))) refl (rw e at h))
  where
    pick : (b : Bool) → nat_lt (residue (2 ^ bits) v) (2 ^ (bits - 1)) ≡ b → pos (2 ^ (bits - 1)) ≤ℤ pos (residue (2 ^ bits) v) →
        with_sign bits (residue (2 ^ bits) v) ≡ pos (residue (2 ^ bits) v) -ℤ pos (2 ^ bits)
    pick true t h = absurd (grind (arith, ints, nat_tests))
    pick false t h = rw t refl

-- below half it is itself
pub wrap-low : (v r : ℤ) (bits : ℕ) → r ≡ pos (residue (2 ^ bits) v) → r <ℤ pos (2 ^ (bits - 1)) → wrap v bits true ≡ r
wrap-low v r bits e h = rw e (pick (nat_lt (residue (2 ^ bits) v) (2 ^ (bits - 1))) refl (rw e at h))
  where
    pick : (b : Bool) → nat_lt (residue (2 ^ bits) v) (2 ^ (bits - 1)) ≡ b → pos (residue (2 ^ bits) v) <ℤ pos (2 ^ (bits - 1)) →
        with_sign bits (residue (2 ^ bits) v) ≡ pos (residue (2 ^ bits) v)
    pick true t h = rw t refl
    pick false t h = absurd (grind (arith, ints, nat_tests))

-- half of a power of two
half_of : (bits : ℕ) → 1 ≤ bits → 2 ^ bits ≡ 2 * 2 ^ (bits - 1)
half_of bits h =
    let e : suc (bits - 1) ≡ bits = omega arith in
    let p : 2 ^ suc (bits - 1) ≡ 2 * 2 ^ (bits - 1) = rw (pow-suc 2 (bits - 1)) (omega arith) in
    subst (λ (x : ℕ). 2 ^ x ≡ 2 * 2 ^ (bits - 1)) e p

-- without the sign a number stands from 0 to 2 ^ bits - 1
pub wrap-unsigned_range : (v : ℤ) (bits : ℕ) → (pos 0 ≤ℤ wrap v bits false) × (wrap v bits false <ℤ pos (2 ^ bits))
wrap-unsigned_range v bits =
    let b = residue-below v (2 ^ bits) (one-le-pow bits 2 (omega arith)) in
    (omega (arith, ints), omega (arith, ints, b))

-- with it, from - 2 ^ (bits - 1) to 2 ^ (bits - 1) - 1
pub wrap-signed_range : (v : ℤ) (bits : ℕ) → 1 ≤ bits →
    ((pos 0 -ℤ pos (2 ^ (bits - 1))) ≤ℤ wrap v bits true) × (wrap v bits true <ℤ pos (2 ^ (bits - 1)))
wrap-signed_range v bits h = pick (nat_lt (residue (2 ^ bits) v) (2 ^ (bits - 1))) refl
  where
    pick : (b : Bool) → nat_lt (residue (2 ^ bits) v) (2 ^ (bits - 1)) ≡ b →
        ((pos 0 -ℤ pos (2 ^ (bits - 1))) ≤ℤ with_sign bits (residue (2 ^ bits) v)) ×
        (with_sign bits (residue (2 ^ bits) v) <ℤ pos (2 ^ (bits - 1)))
    pick true e =
        let low : residue (2 ^ bits) v < 2 ^ (bits - 1) = grind (arith, nat_tests) in
        rw e (omega (arith, ints, low), omega (arith, ints, low))
    pick false e =
        let high : 2 ^ (bits - 1) ≤ residue (2 ^ bits) v = grind (arith, nat_tests) in
        let below = residue-below v (2 ^ bits) (one-le-pow bits 2 (omega arith)) in
        let half = half_of bits h in
        rw e (omega (arith, ints, high, half), omega (arith, ints, below, half))

-- a number that fits is kept
pub wrap-unsigned_fits : (n bits : ℕ) → n < 2 ^ bits → wrap (pos n) bits false ≡ pos n
wrap-unsigned_fits n bits h = let e : n % 2 ^ bits ≡ n = mod-eq_of_lt h in rw e refl

pub wrap-signed_fits : (v : ℤ) (bits : ℕ) → 1 ≤ bits → (pos 0 -ℤ pos (2 ^ (bits - 1))) ≤ℤ v → v <ℤ pos (2 ^ (bits - 1)) →
    wrap v bits true ≡ v
wrap-signed_fits (pos n) bits some l u =
    let half = half_of bits some in
    let low : n < 2 ^ (bits - 1) = omega (arith, ints, u) in
    let fits : n < 2 ^ bits = omega (arith, half, low) in
    let e : n % 2 ^ bits ≡ n = mod-eq_of_lt fits in
    wrap-low (pos n) (pos n) bits (rw e refl) u
wrap-signed_fits (negsuc n) bits some l u =
    let half = half_of bits some in
    let low : n < 2 ^ (bits - 1) = omega (arith, ints, l) in
    let fits : n < 2 ^ bits = omega (arith, half, low) in
    let e : n % 2 ^ bits ≡ n = mod-eq_of_lt fits in
    let r : residue (2 ^ bits) (negsuc n) ≡ 2 ^ bits - 1 - n = rw e refl in
    wrap-high (negsuc n) (pos (residue (2 ^ bits) (negsuc n))) bits refl (omega (arith, ints, r, half, low))
    ∙ omega (arith, ints, r, half, low)
