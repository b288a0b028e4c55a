use Rattle.std.proofs.Common.{replicate, None, ap, ◌∙◌}
use Rattle.hare_graph.specs.Graphs.{label_of}
use Rattle.hare_graph.proofs.ReachLemmas.{reached-by-labels}
use Rattle.hare_graph.proofs.reach.leads_to.Goals as goal

pub returns : goal.returns
returns c =
    reached-by-labels c.args.graph.now c.args.from 0 c.in_ok-labels.labels.items c.flood.new.labels.items
    (c.in_ok-labels.ensures ∙ ap (λ n. replicate n None) c.len.ensures) c.requires.stays c.requires.there c.in_ok-flood.ensures
    c.args.to c.label_of.result c.is_some.result
    (c.label_of.ensures ∙ ap (λ ls. label_of ls c.args.to) c.deref.ensures.value) c.is_some.ensures
