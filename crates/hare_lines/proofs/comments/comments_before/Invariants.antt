use Rattle.hare_lines.proofs.Steps.CommentCounts.{Counts}
use Rattle.hare_lines.proofs.comments.comments_before.Given as goal

-- what is counted, and behind it what is left, are the whole
abbrev pub invariant-loop-i : goal.invariant-loop-i
invariant-loop-i l = Counts l.src l.pieces l.i l.counts.items l.count l.behind_string
