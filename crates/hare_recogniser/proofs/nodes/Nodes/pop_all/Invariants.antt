use Rattle.std.proofs.Common.{◌≡◌, drop}
use Rattle.hare_recogniser.proofs.nodes.Nodes.pop_all.Given as goal

abbrev pub invariant-loop-turn : goal.invariant-loop-turn
invariant-loop-turn l = l.self ≡ drop l._turn l.initial.self
