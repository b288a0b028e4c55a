use Rattle.std.proofs.Common.{◌≡◌, ◌≤◌, ◌+◌, drop}
use Rattle.hare_lex.specs.Lexing.{advanced}
use Rattle.hare_lex.proofs.gap.advanced.Given as goal

-- the bytes so far moved the place by at most their number, and those that are left move it to where all of them do
abbrev pub invariant-loop-c : goal.invariant-loop-c
invariant-loop-c l = record {
  same : advanced (record { file = l.place.file; line = l.line; column = l.column }) (drop l.c-index l.s) ≡ advanced l.place l.s;
  lines : l.line ≤ l.place.line + l.c-index;
  columns : l.column ≤ l.place.column + l.c-index;
}
