use Rattle.hare_const.proofs.WalkLemmas.{asked-node}
use Rattle.hare_const.proofs.walk.own_outcome.Goals as goal

pub node_value-requires-clause-asked : goal.node_value-requires-clause-asked
node_value-requires-clause-asked c = asked-node c.args.s.now c.args.t.now c.requires.settled.simple
