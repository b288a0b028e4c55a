use Rattle.std.proofs.Common.{◌≡◌, take}
use Rattle.rule_mem.proofs.ids.copied.Given as goal

-- those so far are copied
abbrev pub invariant-loop-t : goal.invariant-loop-t
invariant-loop-t l = l.copy ≡ take l.t-index l.types
