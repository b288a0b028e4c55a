use Rattle.std.proofs.Common.{◌∙◌, ap, drop}
use Rattle.std.proofs.lemmas.List.{drop-drop}
use Rattle.hare_recogniser.proofs.nodes.Nodes.pop_all.Goals as goal

pub loop-turn-preserved : goal.loop-turn-preserved
loop-turn-preserved c = c.pop.ensures ∙ ap (drop 1) c.loop-turn.invariant ∙ drop-drop 1 c.loop-turn._turn c.args.self.now
