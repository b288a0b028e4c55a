use Rattle.hare_declare.proofs.TypesSeen.Graph.{tells}
use Rattle.hare_declare.proofs.lacking.lacking.Goals as goal

pub returns : goal.returns
returns c = tells c.args.outlines.now c.in_ok-graph.graph c.requires.within c.in_ok-graph.ensures _ _ c.in_ok-labels.ensures
    c.in_ok-flood.ensures
