use Rattle.std.proofs.Common.{◌≡◌, List, drop, length}
use Rattle.hare_rules.specs.declared.hint.Hint.{Hint}
use Rattle.hare_rules.specs.Control.{level_from, takes_yield, yield_level}
use Rattle.hare_above.specs.Frames.{opens}
use Rattle.hare_above.proofs.jumps.yield_level.Given as goal

abbrev pub invariant-loop-i : goal.invariant-loop-i
invariant-loop-i l =
    (hs : List Hint) → length hs ≡ length l.labels →
    level_from (takes_yield l.name) l.i (drop l.i (opens l.labels hs)) l.nearest ≡ yield_level l.name (opens l.labels hs)
