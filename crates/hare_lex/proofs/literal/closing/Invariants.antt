use Rattle.std.proofs.Common.{◌≡◌, drop, false}
use Rattle.hare_lex.specs.Lexing.{closing}
use Rattle.hare_lex.proofs.literal.closing.Given as goal

abbrev pub invariant-loop-i : goal.invariant-loop-i
invariant-loop-i l = closing l.quote l.taken l.i (drop l.i l.s) ≡ closing l.quote false 0 l.s
