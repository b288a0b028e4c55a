-- A read that failed, and none behind it.
use Rattle.std.proofs.Common.{◌≡◌, ℕ, ◌+◌, ◌^◌, Bool, true, arith}
use Rattle.std.specs.Prelude.{◌-◌, min}
use Rattle.hx_io.specs.Causes.{Rose, StopsAtFault}

-- a count that is one greater, up to its type's end, rose
pub Rose-one_more : (before now : ℕ) → now ≡ min (before + 1) (2 ^ 64 - 1) → Rose before now
Rose-one_more before now e = omega (arith, e)

-- the last read failed, and no other
pub StopsAtFault-one_more : (before now : ℕ) (last : Bool) → now ≡ min (before + 1) (2 ^ 64 - 1) → last ≡ true →
    StopsAtFault before now last
StopsAtFault-one_more before now last e l = record { one = λ h. omega (arith, e, h); last = λ h. l }

-- no read failed
pub StopsAtFault-stands : (before now : ℕ) (last : Bool) → now ≡ before → StopsAtFault before now last
StopsAtFault-stands before now last e = record { one = λ h. absurd (omega (arith, e, h)); last = λ h. absurd (omega (arith, e, h)) }
