use Rattle.std.proofs.Common.{◌≡◌, ◌≤◌, length}
use Rattle.hare_lex.specs.Lexing.{bad_escape}
use Rattle.hare_lex.proofs.string.bad_escape.Given as goal

abbrev pub invariant-loop-first : goal.invariant-loop-first
invariant-loop-first l = record { same : bad_escape 0 l.rest ≡ bad_escape 0 l.s; within : length l.rest ≤ length l.s }

abbrev pub decreases-loop-first : goal.decreases-loop-first
decreases-loop-first l = length l.rest
