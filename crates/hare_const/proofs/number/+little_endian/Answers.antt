-- The number has as many bytes as there are cells, and so at most 64 bits.
use Rattle.std.proofs.Common.{rules, ◌≡◌, ◌+◌, ◌*◌, ◌^◌, ◌<◌, ◌≤◌, ℕ, arith}
use Rattle.hare_const.proofs.NumberLemmas.{below-more, below-eight}
use Rattle.hare_const.proofs.number.+little_endian.Goals as goal

-- a byte with what is above it
fits_with : (b high n m : ℕ) → n ≤ 8 → m + 1 ≡ n → high < 256 ^ m → b < 256 → b + 256 * high < 2 ^ 64
fits_with b high n m few parts h l = below-eight (b + 256 * high) n few (below-more b high n m (omega arith) h l)

pub overflow_mul-result : goal.overflow_mul-result
overflow_mul-result t c =
    let within = c.in-Some-little_endian.ensures.within in
    let fits = fits_with 0 c.in-Some-little_endian.high _ _ c.requires c.in-Some.ensures.cases.1 within (omega arith) in
    omega arith

pub overflow_add-result : goal.overflow_add-result
overflow_add-result t c =
    let within = c.in-Some-little_endian.ensures.within in
    let low : c.from.result < 256 = search rules in
    let fits = fits_with c.from.result c.in-Some-little_endian.high _ _ c.requires c.in-Some.ensures.cases.1 within low in
    omega arith
