use Rattle.std.proofs.Common.{length}
use Rattle.hare_const.proofs.StaticLemmas.{Tables}
use Rattle.hare_const.proofs.table.table_of.Given as goal

-- what is found among those that are left, and else in the table
abbrev pub invariant-loop-o : goal.invariant-loop-o
invariant-loop-o l = Tables l.fn.objects l.objects l.table

abbrev pub decreases-loop-o : goal.decreases-loop-o
decreases-loop-o l = length l.objects
