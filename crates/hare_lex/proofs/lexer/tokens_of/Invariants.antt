use Rattle.std.proofs.Common.{length}
use Rattle.hare_lex.proofs.Turns.Progress.{Reached}
use Rattle.hare_lex.proofs.lexer.tokens_of.Given as goal

abbrev pub invariant-loop-text : goal.invariant-loop-text
invariant-loop-text l = Reached l.fn.file l.fn.src l.tokens l.place l.behind_path l.rest

abbrev pub decreases-loop-text : goal.decreases-loop-text
decreases-loop-text l = length l.rest
