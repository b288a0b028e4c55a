-- Two memories that agree at addresses, and on the ranges that these make up.
use Rattle.std.proofs.Common.{◌≡◌, ℕ, zero, suc, ◌+◌, ◌<◌, ◌≤◌, true, ◌∷◌, refl, ◌∙◌, arith}
use Rattle.hx_base.specs.Memory.{Memory, byte_at, is_mapped, all_mapped, bytes_at}
use Rattle.hx_base.proofs.Memory.Ranges.{all_mapped-from, all_mapped-each}

-- an address has the same byte in both, and is mapped in both or in neither
pub record IsKept (m m' : Memory) (a : ℕ) : Type 0 where
  pub byte : byte_at m' a ≡ byte_at m a
  pub mapped : is_mapped m' a ≡ is_mapped m a

pub kept_then : (m m' m'' : Memory) (a : ℕ) → IsKept m m' a → IsKept m' m'' a → IsKept m m'' a
kept_then m m' m'' a h g = record { byte = g.byte ∙ h.byte; mapped = g.mapped ∙ h.mapped }

-- the same bytes
pub bytes_at-same : (m m' : Memory) (at n : ℕ) → ((a : ℕ) → at ≤ a → a < at + n → byte_at m' a ≡ byte_at m a) →
    bytes_at m' at n ≡ bytes_at m at n
bytes_at-same m m' at zero h = refl
bytes_at-same m m' at (suc n) h =
    let here = h at (omega arith) (omega arith) in
    let rest = bytes_at-same m m' (suc at) n (λ a l u. h a (omega arith) (omega arith)) in
    let both : byte_at m' at ∷ bytes_at m' (suc at) n ≡ byte_at m at ∷ bytes_at m (suc at) n = rw (here, rest) refl in
    both

-- the same bytes mapped
pub all_mapped-alike : (m m' : Memory) (at n : ℕ) → ((a : ℕ) → at ≤ a → a < at + n → is_mapped m' a ≡ is_mapped m a) →
    all_mapped m' at n ≡ all_mapped m at n
all_mapped-alike m m' at zero h = refl
all_mapped-alike m m' at (suc n) h = rw (
  h at (omega arith) (omega arith),
  all_mapped-alike m m' (suc at) n
      (λ a l u. h a (omega arith) (omega arith)),
) refl

-- a mapped range stays so where what is mapped does
pub all_mapped-stays : (m m' : Memory) (at n : ℕ) → ((a : ℕ) → is_mapped m a ≡ true → is_mapped m' a ≡ true) →
    all_mapped m at n ≡ true → all_mapped m' at n ≡ true
all_mapped-stays m m' at n stays h = all_mapped-from m' at n (λ a l u. stays a (all_mapped-each m at n a h l u))
