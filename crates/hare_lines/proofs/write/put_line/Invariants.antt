use Rattle.std.proofs.Common.{◌≡◌, ◌++◌}
use Rattle.std.specs.Prelude.{replicate}
use Rattle.hare_lines.proofs.write.put_line.Given as goal

-- so many tabs are put
abbrev pub invariant-tabs : goal.invariant-tabs
invariant-tabs l = l.out ≡ l.initial.out ++ replicate l.n 9
