use Rattle.std.proofs.Common.{◌≡◌, ◌≤◌, length, take}
use Rattle.hare_lines.specs.Read.{trimmed}
use Rattle.hare_lines.proofs.read.trimmed.Given as goal

-- what was left out is blank
abbrev pub invariant-blanks : goal.invariant-blanks
invariant-blanks l = record { within : l.end ≤ length l.s; same : trimmed (take l.end l.s) ≡ trimmed l.s }

abbrev pub decreases-blanks : goal.decreases-blanks
decreases-blanks l = l.end
