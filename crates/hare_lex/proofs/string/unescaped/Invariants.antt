use Rattle.std.proofs.Common.{◌≡◌, ◌++◌, length}
use Rattle.hare_lex.specs.Lexing.{unescaped}
use Rattle.hare_lex.proofs.string.unescaped.Given as goal

abbrev pub invariant-loop-first : goal.invariant-loop-first
invariant-loop-first l = l.word ++ unescaped 0 l.rest ≡ unescaped 0 l.s

abbrev pub decreases-loop-first : goal.decreases-loop-first
decreases-loop-first l = length l.rest
