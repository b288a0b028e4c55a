use Rattle.std.proofs.Common.{◌≡◌, drop}
use Rattle.std.specs.Prelude.{find}
use Rattle.hare_rules.specs.Aggregates.{but_last, lacks_default}
use Rattle.rule_mem.proofs.tuples.first_lacking.Given as goal

-- none was found so far
abbrev pub invariant-loop-i : goal.invariant-loop-i
invariant-loop-i l = find lacks_default (but_last (drop l.i l.t.kids.now)) ≡ find lacks_default (but_last l.t.kids.now)
