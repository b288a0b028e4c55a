-- Ranges of addresses: whether an address lies in one, when one is mapped, and what the bytes of one are.
use Rattle.std.proofs.Common.{◌≡◌, ◌≢◌, ℕ, zero, suc, ◌+◌, ◌<◌, ◌≤◌, Bool, true, false, ◌&&◌, ◌++◌, length, Some, refl, ap, subst, arith, ◌⊎◌, inl, inr}
use Rattle.std.specs.Prelude.{nat_eq, nat_le, nat_lt, slice_get}
use Rattle.std.proofs.lemmas.Bool.{and_parts}
use Rattle.std.proofs.lemmas.Bool.Decides.{nat_tests}
use Rattle.hx_base.specs.Memory.{Memory, in_range, byte_at, is_mapped, all_mapped, bytes_at}

-- ---- addresses of a range

-- an address lies in a range, or not
pub data Inside (at n a : ℕ) : Type 0 where
  inside : in_range at n a ≡ true → at ≤ a → a < at + n → Inside at n a
  outside : in_range at n a ≡ false → (a < at) ⊎ (at + n ≤ a) → Inside at n a

pub inside_of : (at n a : ℕ) → Inside at n a
inside_of at n a = pick (nat_le at a) (nat_lt a (at + n)) refl refl
  where
    pick : (b c : Bool) → nat_le at a ≡ b → nat_lt a (at + n) ≡ c → Inside at n a
    pick true true e f = inside (rw (e, f) refl) (grind (arith, nat_tests)) (grind (arith, nat_tests))
    pick true false e f = outside (rw (e, f) refl) (inr (grind (arith, nat_tests)))
    pick false c e f = outside (rw e refl) (inl (grind (arith, nat_tests)))

-- an address of a range is found in it
pub in_range-inside : (at n a : ℕ) → at ≤ a → a < at + n → in_range at n a ≡ true
in_range-inside at n a l h = pick (inside_of at n a)
  where
    pick : Inside at n a → in_range at n a ≡ true
    pick (inside e _ _) = e
    pick (outside e (inl x)) = absurd (omega arith)
    pick (outside e (inr x)) = absurd (omega arith)

-- any other is not
pub in_range-outside : (at n a : ℕ) → (a < at) ⊎ (at + n ≤ a) → in_range at n a ≡ false
in_range-outside at n a h = pick (inside_of at n a) h
  where
    pick : Inside at n a → (a < at) ⊎ (at + n ≤ a) → in_range at n a ≡ false
    pick (outside e _) h = e
    pick (inside e l u) (inl x) = absurd (omega arith)
    pick (inside e l u) (inr x) = absurd (omega arith)

-- ---- ranges that are mapped

and_both : (a b : Bool) → a ≡ true → b ≡ true → (a && b) ≡ true
and_both true b e f = f
and_both false b e f = e

-- a range is mapped where each of its bytes is
pub all_mapped-from : (m : Memory) (at n : ℕ) → ((a : ℕ) → at ≤ a → a < at + n → is_mapped m a ≡ true) → all_mapped m at n ≡ true
all_mapped-from m at zero h = refl
all_mapped-from m at (suc n) h =
    and_both (is_mapped m at) (all_mapped m (suc at) n) (h at (omega arith) (omega arith))
    (all_mapped-from m (suc at) n (λ a l u. h a (omega arith) (omega arith)))

-- and then each of its bytes is
pub all_mapped-each : (m : Memory) (at n a : ℕ) → all_mapped m at n ≡ true → at ≤ a → a < at + n → is_mapped m a ≡ true
all_mapped-each m at zero a h l u = absurd (omega arith)
all_mapped-each m at (suc n) a h l u = pick (nat_eq at a) refl (all_mapped-each m (suc at) n a parts.1)
  where
    parts : (is_mapped m at ≡ true) × (all_mapped m (suc at) n ≡ true)
    parts = and_parts (is_mapped m at) (all_mapped m (suc at) n) h

    pick : (t : Bool) → nat_eq at a ≡ t → (suc at ≤ a → a < suc at + n → is_mapped m a ≡ true) → is_mapped m a ≡ true
    pick true e on =
        let s : at ≡ a = grind (arith, nat_tests) in
        subst (λ (x : ℕ). is_mapped m x ≡ true) s parts.0
    pick false e on =
        let s : at ≢ a = grind (arith, nat_tests) in
        on (omega arith) (omega arith)

-- a part of a mapped range is mapped
pub all_mapped-part : (m : Memory) (at n a k : ℕ) → all_mapped m at n ≡ true → at ≤ a → a + k ≤ at + n → all_mapped m a k ≡ true
all_mapped-part m at n a k h l u = all_mapped-from m a k (λ x f g. all_mapped-each m at n x h (omega arith) (omega arith))

-- a byte that keeps a range from being mapped
pub record Gap (m : Memory) (at n : ℕ) : Type 0 where
  pub address : ℕ
  pub from : at ≤ address
  pub below : address < at + n
  pub unmapped : is_mapped m address ≡ false

pub all_mapped-gap : (m : Memory) (at n : ℕ) → all_mapped m at n ≡ false → Gap m at n
all_mapped-gap m at zero h = cc
all_mapped-gap m at (suc n) h = pick (is_mapped m at) refl h (all_mapped-gap m (suc at) n)
  where
    pick : (b : Bool) → is_mapped m at ≡ b → (b && all_mapped m (suc at) n) ≡ false →
        (all_mapped m (suc at) n ≡ false → Gap m (suc at) n) → Gap m at (suc n)
    pick true e h on =
        let g = on h in
        record { address = g.address; from = omega (arith, g.from); below = omega (arith, g.below); unmapped = g.unmapped }
    pick false e h on = record { address = at; from = omega arith; below = omega arith; unmapped = e }

pub all_mapped-with_gap : (m : Memory) (at n : ℕ) → Gap m at n → all_mapped m at n ≡ false
all_mapped-with_gap m at n g = pick (all_mapped m at n) refl
  where
    pick : (b : Bool) → all_mapped m at n ≡ b → all_mapped m at n ≡ false
    pick true e = let f = all_mapped-each m at n g.address e g.from g.below in let u = g.unmapped in cc
    pick false e = e

-- ---- the bytes of a range

pub length-bytes_at : (m : Memory) (at n : ℕ) → length (bytes_at m at n) ≡ n
length-bytes_at m at zero = refl
length-bytes_at m at (suc n) = ap suc (length-bytes_at m (suc at) n)

pub slice_get-bytes_at : (m : Memory) (at n k : ℕ) → k < n → slice_get (bytes_at m at n) k ≡ Some (byte_at m (at + k))
slice_get-bytes_at m at zero k h = absurd (omega arith)
slice_get-bytes_at m at (suc n) zero h = let e : at + 0 ≡ at = omega arith in rw e refl
slice_get-bytes_at m at (suc n) (suc k) h =
    let e : at + suc k ≡ suc at + k = omega arith in rw e (slice_get-bytes_at m (suc at) n k (omega arith))

-- ---- ranges in two parts

pub bytes_at-append : (m : Memory) (at a b : ℕ) → bytes_at m at (a + b) ≡ bytes_at m at a ++ bytes_at m (at + a) b
bytes_at-append m at zero b = let e : zero + b ≡ b = omega arith in let z : at + zero ≡ at = omega arith in rw (e, z) refl
bytes_at-append m at (suc a) b =
    let e : suc a + b ≡ suc (a + b) = omega arith in
    let s : at + suc a ≡ suc at + a = omega arith in
    rw (e, s, bytes_at-append m (suc at) a b) refl

pub all_mapped-append : (m : Memory) (at a b : ℕ) → all_mapped m at (a + b) ≡ (all_mapped m at a && all_mapped m (at + a) b)
all_mapped-append m at zero b = let e : zero + b ≡ b = omega arith in let z : at + zero ≡ at = omega arith in rw (e, z) refl
all_mapped-append m at (suc a) b =
    let e : suc a + b ≡ suc (a + b) = omega arith in
    let s : at + suc a ≡ suc at + a = omega arith in
    rw (e, s, all_mapped-append m (suc at) a b) (joined (is_mapped m at))
  where
    joined : (x : Bool) →
        (x && (all_mapped m (suc at) a && all_mapped m (suc at + a) b)) ≡ (x && all_mapped m (suc at) a && all_mapped m (suc at + a) b)
    joined true = refl
    joined false = refl
