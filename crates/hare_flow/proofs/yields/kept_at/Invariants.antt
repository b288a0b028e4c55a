use Rattle.std.proofs.Common.{◌≡◌, ◌++◌, drop}
use Rattle.std.specs.Prelude.{map}
use Rattle.hare_flow.specs.Seen.{yielded_of}
use Rattle.hare_flow.proofs.YieldLemmas.{others}
use Rattle.hare_flow.proofs.yields.kept_at.Given as goal

-- those so far, and those that are left
abbrev pub invariant-loop-i : goal.invariant-loop-i
invariant-loop-i l = map yielded_of l.kept.items ++ others l.level (drop l.i l.yields) ≡ others l.level (drop l.from l.yields)
