-- Ranges of addresses that a copy reads and writes.
use Rattle.std.specs.Prelude.{ℕ, ◌+◌, Bool, ◌&&◌, not, nat_eq, nat_lt}

-- whether two ranges of `n` bytes overlap in part. Equal ranges and ranges that touch do not.
abbrev pub overlap : ℕ → ℕ → ℕ → Bool
overlap a b n = not (nat_eq a b) && nat_lt a (b + n) && nat_lt b (a + n)
