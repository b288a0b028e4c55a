use Rattle.std.proofs.Common.{◌≡◌, ◌++◌, drop}
use Rattle.std.specs.Prelude.{map}
use Rattle.hare_flow.specs.Seen.{given_of}
use Rattle.hare_flow.proofs.YieldLemmas.{given_at}
use Rattle.hare_flow.proofs.yields.handed_at.Given as goal

-- those so far, and those that are left
abbrev pub invariant-loop-i : goal.invariant-loop-i
invariant-loop-i l = map given_of l.found ++ given_at l.level (drop l.i l.yields) ≡ given_at l.level (drop l.from l.yields)
