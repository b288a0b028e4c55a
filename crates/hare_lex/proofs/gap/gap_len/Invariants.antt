use Rattle.std.proofs.Common.{◌≡◌, ◌≤◌, ◌-◌, length, drop, false}
use Rattle.hare_lex.specs.Lexing.{skipped}
use Rattle.hare_lex.proofs.gap.gap_len.Given as goal

-- what is left to skip from here is what is left from the start
abbrev pub invariant-parts : goal.invariant-parts
invariant-parts l = record { same : skipped false (drop l.len l.s) ≡ skipped false l.s; within : l.len ≤ length l.s }

abbrev pub decreases-parts : goal.decreases-parts
decreases-parts l = length l.s - l.len
