use Rattle.std.proofs.Common.{replicate, None, ap, ◌∙◌}
use Rattle.hare_depends.proofs.FindLemmas.{tells-reached}
use Rattle.hare_depends.proofs.circles.reached.Goals as goal

pub returns : goal.returns
returns c =
    tells-reached c.args.graph.now c.args.start 0 c.in_ok-labels.labels.items c.flood.new.labels.items
    (c.in_ok-labels.ensures ∙ ap (λ n. replicate n None) c.len.ensures) c.requires.stays c.requires.there c.in_ok-flood.ensures
