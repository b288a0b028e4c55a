use Rattle.std.proofs.Common.{◌≡◌, ◌++◌, filter, drop}
use Rattle.hare_depends.specs.Search.{is_below}
use Rattle.hare_depends.proofs.search.below.Given as goal

-- what is left is put behind those so far
abbrev pub invariant-loop-number : goal.invariant-loop-number
invariant-loop-number l = l.below.items ++ filter (is_below l.bound) (drop l.number-index l.numbers) ≡ filter (is_below l.bound) l.numbers
