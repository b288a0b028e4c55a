-- Numbers as bytes, the lowest first, and the next multiple of a number.
use Rattle.std.proofs.Common.{◌≡◌, ℕ, zero, suc, ◌+◌, ◌-◌, ◌*◌, ◌/◌, ◌%◌, ◌^◌, ◌<◌, ◌≤◌, true, List, [], ◌∷◌, length, drop, get_or, Some, refl, sym, ap, ◌∙◌, subst, arith, drop-cons, length-drop}
use Rattle.std.specs.Prelude.{slice_get, bit_or}
use Rattle.std.specs.List.{All}
use Rattle.std.proofs.lemmas.List.{get_or-drop}
use Rattle.std.proofs.lemmas.List.Elements.{All-nil, All-cons, All-tail}
use Rattle.std.proofs.lemmas.Nat.{div-add-mod', div_below, or_shifted}
use Rattle.std.proofs.Math.Arith.{mod-mul}
use Rattle.std.proofs.Math.Nat.{div-div-eq-div-mul, mod-lt, mul_comm, one-le-pow, pow-suc, pow-le-pow_right}
use Rattle.hx_base.specs.Memory.{le_bytes, le_number, round_up, Memory, all_mapped, bytes_at, write, load}
use Rattle.hx_base.proofs.Memory.Written.{bytes_at-write}
use Rattle.hx_base.proofs.Memory.Mapped.{all_mapped-write}

-- ---- the bytes of a number

pub length-le_bytes : (n v : ℕ) → length (le_bytes n v) ≡ n
length-le_bytes zero v = refl
length-le_bytes (suc n) v = ap suc (length-le_bytes n (v / 256))

-- those of a number that fits spell it
pub le_number-le_bytes : (n v : ℕ) → v < 256 ^ n → le_number (le_bytes n v) ≡ v
le_number-le_bytes zero v h = let e : v ≡ 0 = omega arith in sym e
le_number-le_bytes (suc n) v h =
    let big : v < 256 ^ n * 256 = rw (← pow-suc 256 n) h in
    let below : v / 256 < 256 ^ n = div_below v 256 (256 ^ n) (omega arith) big in
    let whole : v % 256 + 256 * (v / 256) ≡ v = omega arith in
    rw (le_number-le_bytes n (v / 256) below) whole

-- a number that fits is loaded as it was stored
pub load-store : (m : Memory) (at n v : ℕ) → all_mapped m at n ≡ true → v < 256 ^ n → load (write m at (le_bytes n v)) at n ≡ Some v
load-store m at n v mapped fits =
    let stored : bytes_at (write m at (le_bytes n v)) at n ≡ le_bytes n v =
    subst (λ (k : ℕ). bytes_at (write m at (le_bytes n v)) at k ≡ le_bytes n v) (length-le_bytes n v)
    (bytes_at-write m at (le_bytes n v)) in
    rw (all_mapped-write m at (le_bytes n v) at n, mapped, stored, le_number-le_bytes n v fits) refl

-- ---- the number that bytes spell

-- bytes spell a number that they have room for
pub le_number-below : (bs : List ℕ) → All (λ b. b < 256) bs → le_number bs < 256 ^ length bs
le_number-below [] h = omega arith
le_number-below (b ∷ bs) h =
    let here : b < 256 = h 0 0 (omega arith) in
    let rest : le_number bs < 256 ^ length bs = le_number-below bs (All-tail (λ b. b < 256) b bs h) in
    rw (pow-suc 256 (length bs)) (omega (arith, here, rest))

-- the low bytes of a number spell what is left of it when it is cut to them
pub le_number-cut : (n v : ℕ) → le_number (le_bytes n v) ≡ v % 256 ^ n
le_number-cut zero v = omega arith
le_number-cut (suc n) v =
    let some : 0 < 256 ^ n = one-le-pow n 256 (omega arith) in
    let split : v % (256 ^ n * 256) ≡ v / 256 % 256 ^ n * 256 + v % 256 = mod-mul v some (omega arith) in
    rw (pow-suc 256 n, split, le_number-cut n (v / 256)) (omega arith)

-- bytes are the bytes of the number that they spell
pub le_bytes-le_number : (bs : List ℕ) → All (λ b. b < 256) bs → le_bytes (length bs) (le_number bs) ≡ bs
le_bytes-le_number [] h = refl
le_bytes-le_number (b ∷ bs) h =
    let here : b < 256 = h 0 0 (omega arith) in
    let low : (b + 256 * le_number bs) % 256 ≡ b = omega arith in
    let high : (b + 256 * le_number bs) / 256 ≡ le_number bs = omega arith in
    rw (low, high, le_bytes-le_number bs (All-tail (λ b. b < 256) b bs h)) refl

pub All-le_bytes : (n v : ℕ) → All (λ b. b < 256) (le_bytes n v)
All-le_bytes zero v = All-nil (λ b. b < 256)
All-le_bytes (suc n) v = All-cons (λ b. b < 256) (v % 256) (le_bytes n (v / 256)) (omega arith) (All-le_bytes n (v / 256))

-- what is above does not count
pub le_bytes-cut : (n v : ℕ) → le_bytes n (v % 256 ^ n) ≡ le_bytes n v
le_bytes-cut n v =
    let same : le_bytes (length (le_bytes n v)) (le_number (le_bytes n v)) ≡ le_bytes n v =
    le_bytes-le_number (le_bytes n v) (All-le_bytes n v) in
    rw (← le_number-cut n v) (subst (λ (k : ℕ). le_bytes k (le_number (le_bytes n v)) ≡ le_bytes n v) (length-le_bytes n v) same)

-- two numbers that fit have the same bytes only where they are equal
pub le_bytes-apart : (n u v : ℕ) → u < 256 ^ n → v < 256 ^ n → le_bytes n u ≡ le_bytes n v → u ≡ v
le_bytes-apart n u v h k e = sym (le_number-le_bytes n u h) ∙ ap le_number e ∙ le_number-le_bytes n v k

-- a byte of a number
pub slice_get-le_bytes : (n v k : ℕ) → k < n → slice_get (le_bytes n v) k ≡ Some (v / 256 ^ k % 256)
slice_get-le_bytes zero v k h = absurd (omega arith)
slice_get-le_bytes (suc n) v zero h = let e : v / 1 % 256 ≡ v % 256 = omega arith in ap Some (sym e)
slice_get-le_bytes (suc n) v (suc k) h =
    slice_get-le_bytes n (v / 256) k (omega arith)
    ∙ ap (λ (x : ℕ). Some (x % 256)) (div-div-eq-div-mul v 256 (256 ^ k)
    ∙ ap (λ (x : ℕ). v / x) (mul_comm 256 (256 ^ k) ∙ sym (pow-suc 256 k)))

-- one byte in front of those from `i` on
pub le_number-drop : (bs : List ℕ) (i : ℕ) → i < length bs → le_number (drop i bs) ≡ get_or bs i 0 + 256 * le_number (drop (suc i) bs)
le_number-drop bs i h = rw (drop-cons bs i 0) refl

All-drop : (bs : List ℕ) (i : ℕ) → All (λ b. b < 256) bs → All (λ b. b < 256) (drop i bs)
All-drop bs i h k d l =
    let size : length (drop i bs) ≡ length bs - i = length-drop i bs in
    rw get_or-drop (h (i + k) d (omega arith))

-- a number of at most seven bytes with one more in front of them
pub le_number-more : (bs : List ℕ) (i n x : ℕ) → All (λ b. b < 256) bs → 0 < i → i ≤ length bs → length bs ≤ 8 →
    n ≡ le_number (drop i bs) → x ≡ get_or bs (i - 1) 0 → bit_or (n * 256 % 2 ^ 64) x ≡ le_number (drop (i - 1) bs)
le_number-more bs i n x all some within few e f =
    let rest : All (λ b. b < 256) (drop i bs) = All-drop bs i all in
    let size : length (drop i bs) ≤ 7 = rw length-drop (omega arith) in
    let most : 256 ^ length (drop i bs) ≤ 256 ^ 7 = pow-le-pow_right (omega arith) size in
    let below : n < 256 ^ 7 = rw e (omega (arith, le_number-below (drop i bs) rest, most)) in
    let byte : x < 256 = rw f (all (i - 1) 0 (omega arith)) in
    let kept : n * 256 % 2 ^ 64 ≡ n * 2 ^ 8 = omega (arith, below) in
    let next : suc (i - 1) ≡ i = omega arith in
    rw kept (or_shifted n 8 x byte ∙ (rw (le_number-drop bs (i - 1) (omega arith), next, ← e, ← f) (omega arith)))

-- ---- the next multiple

-- it is not below the number
pub round_up-reaches : (v a : ℕ) → 1 ≤ a → v ≤ round_up v a
round_up-reaches v a some =
    let whole = div-add-mod' (v + (a - 1)) a in
    let rest : (v + (a - 1)) % a < a = mod-lt (v + (a - 1)) (omega arith) in
    omega arith

-- each number is a multiple of 1
pub round_up-one : (v : ℕ) → round_up v 1 ≡ v
round_up-one v = omega arith
