-- What the host computes are the rest modulo 2 ^ bits, half of that, and the rest read with the sign.
use Rattle.std.proofs.Common.{◌≡◌, ℕ, ◌-◌, ◌*◌, ◌%◌, ◌^◌, ◌≤◌, arith, sym, ◌∙◌, to_z, of_z, ap}
use Rattle.std.specs.Prelude.{ℤ, pos, ◌-ℤ◌, ◌≤ℤ◌, ◌<ℤ◌}
use Rattle.std.specs.Int.{w128, int_rem_euclid}
use Rattle.std.proofs.lemmas.Int.{ints}
use Rattle.std.proofs.Math.Nat.{one-le-pow, pow-le-pow_right}
use Rattle.hx_base.proofs.NumberLemmas.{int_rem_euclid-residue, residue-below, wrap-high, wrap-low}
use Rattle.hx_base.specs.Numbers.{wrap, residue}
use Rattle.hx_base.proofs.numbers.wrap.Goals as goal
use Rattle.hx_base.proofs.numbers.wrap.Goals.{else-signed-via-then-signed+else-rest-bits, else-signed-via-else-signed}

-- the power that is shifted to fits
power : (bits : ℕ) → bits ≤ 64 → 2 ^ bits ≤ 2 ^ 64
power bits h = pow-le-pow_right (omega arith) h

shifted : (bits : ℕ) → bits ≤ 64 → to_z w128 (1 * 2 ^ bits % 2 ^ 128) ≡ pos (2 ^ bits)
shifted bits h = let p = power bits h in omega (arith, ints, p)

-- the host's rest is the rest
rest_is : (v r : ℤ) (bits : ℕ) → bits ≤ 64 → r ≡ int_rem_euclid (to_z w128 (of_z w128 v)) (to_z w128 (1 * 2 ^ bits % 2 ^ 128)) →
    to_z w128 (of_z w128 v) ≡ v → r ≡ pos (residue (2 ^ bits) v)
rest_is v r bits h e f = e ∙ ap (λ (x : ℤ). int_rem_euclid x (to_z w128 (1 * 2 ^ bits % 2 ^ 128))) f
    ∙ ap (int_rem_euclid v) (shifted bits h) ∙ int_rem_euclid-residue v (2 ^ bits)

pub returns-then-rest-bits : goal.returns-then-rest-bits
returns-then-rest-bits c =
    let bits = c.args.bits in
    let r = c.rem_euclid-rest.result in
    let p = power bits c.requires.few in
    let q = power (bits - 1) (omega (arith, c.requires.few)) in
    let e = rest_is c.args.v r bits c.requires.few c.rem_euclid-rest.ensures.value (omega (arith, ints, c.ranges.v)) in
    let high : pos (2 ^ (bits - 1)) ≤ℤ r = grind (arith, ints, c.if-rest-bits.true, p, q) in
    let exact : to_z w128 (of_z w128 (to_z w128 (of_z w128 r) -ℤ to_z w128 (1 * 2 ^ bits % 2 ^ 128))) ≡ r -ℤ pos (2 ^ bits) =
    omega (arith, ints, p, e, residue-below c.args.v (2 ^ bits) (one-le-pow bits 2 (omega arith))) in
    exact ∙ sym (wrap-high c.args.v r bits e high) ∙ ap (wrap c.args.v bits) (sym c.if-signed.true)

pub returns-else-signed : goal.returns-else-signed
returns-else-signed c =
    let bits = c.args.bits in
    let r = c.rem_euclid-rest.result in
    let q = power (bits - 1) (omega (arith, c.requires.few)) in
    let e = rest_is c.args.v r bits c.requires.few c.rem_euclid-rest.ensures.value (omega (arith, ints, c.ranges.v)) in
    let exact : to_z w128 (of_z w128 r) ≡ r = omega (arith, ints, c.rem_euclid-rest.type_inv) in
    elim c.else-signed.branch [
      | else-signed-via-then-signed+else-rest-bits w ↦
          let low : r <ℤ pos (2 ^ (bits - 1)) = grind (arith, ints, w.if-rest-bits.false, q) in
          exact ∙ sym (wrap-low c.args.v r bits e low) ∙ ap (wrap c.args.v bits) (sym w.if-signed.true)
      | else-signed-via-else-signed w ↦ exact ∙ e ∙ ap (wrap c.args.v bits) (sym w.if-signed.false)
    ]
