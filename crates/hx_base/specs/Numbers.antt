-- Whole numbers modulo a power of two, over integers without bound.
use Rattle.std.specs.Prelude.{ℕ, ◌-◌, ◌%◌, ◌^◌, ℤ, pos, negsuc, ◌-ℤ◌, Bool, nat_lt, if◌then◌else◌}

-- the number below `m` that differs from an integer by a multiple of `m`
abbrev pub residue : ℕ → ℤ → ℕ
residue m (pos n) = n % m
residue m (negsuc n) = m - 1 - n % m

-- a number of so many bits, read with the sign: from half of 2 ^ bits on it stands for what is 2 ^ bits less
abbrev pub with_sign : ℕ → ℕ → ℤ
with_sign bits n = if nat_lt n (2 ^ (bits - 1)) then pos n else pos n -ℤ pos (2 ^ bits)

-- a number modulo 2 ^ bits: from 0 to 2 ^ bits - 1, or read with the sign, from - 2 ^ (bits - 1) to 2 ^ (bits - 1) - 1
abbrev pub wrap : ℤ → ℕ → Bool → ℤ
wrap v bits signed =
    let rest = residue (2 ^ bits) v in
    if signed then with_sign bits rest else pos rest
