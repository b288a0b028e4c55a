use Rattle.std.proofs.Common.{length}
use Rattle.hare_const.proofs.words.+are_fragments.Given as goal

abbrev pub decreases-are_fragments : goal.decreases-are_fragments
decreases-are_fragments l = length l.cells.now
