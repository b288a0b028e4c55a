use Rattle.hare_graph.proofs.RankLemmas.{ranking-on}
use Rattle.hare_graph.proofs.ranking.ranks.Goals as goal

pub loop-rank-preserved : goal.loop-rank-preserved
loop-rank-preserved c =
    ranking-on c.args.forward.now c.args.backward.now _ c.loop-rank.rank c.loop-rank.ranks.items c.flood.new.labels.items c.requires
    c.in_ok-flood.ensures c.loop-rank.invariant
