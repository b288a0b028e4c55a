use Rattle.hare_graph.proofs.RankLemmas.{Ranking}
use Rattle.hare_graph.proofs.ranking.ranks.Given as goal

abbrev pub invariant-loop-rank : goal.invariant-loop-rank
invariant-loop-rank l = Ranking l.forward l.ranks.items l.rank
