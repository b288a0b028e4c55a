use Rattle.std.proofs.Common.{ap, ◌∙◌}
use Rattle.hare_depends.proofs.DependLemmas.{dependence-is}
use Rattle.hare_depends.proofs.dependence.dependence_of.Goals as goal

pub returns : goal.returns
returns c =
    dependence-is c.args.saids.now c.as_slice.result.now c.in_ok-graph.graph c.requires.within
    (c.as_slice.ensures.value ∙ c.in_ok-edges.ensures) c.in_ok-graph.ensures
