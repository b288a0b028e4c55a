use Rattle.std.proofs.Common.{◌≡◌, drop}
use Rattle.std.specs.Prelude.{map}
use Rattle.hare_rules.specs.Flow.{write_each}
use Rattle.hare_flow.specs.Seen.{settled_of}
use Rattle.hare_flow.proofs.coercions.write_all.Given as goal

-- what is left is written
abbrev pub invariant-loop-s : goal.invariant-loop-s
invariant-loop-s l = write_each (map settled_of (drop l.s-index l.settled)) l.cs ≡ write_each (map settled_of l.settled) l.fn.cs
