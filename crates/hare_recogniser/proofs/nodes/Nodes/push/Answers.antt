use Rattle.std.proofs.Common.{reverse, arith}
use Rattle.std.proofs.lemmas.List.{length-reverse}
use Rattle.hare_recogniser.proofs.Steps.Opened.{opened_le}
use Rattle.hare_recogniser.proofs.nodes.Nodes.push.Goals as goal

pub overflow_add-self : goal.overflow_add-self
overflow_add-self c =
    let items = c.self.inside.items in
    omega (arith, c.self.invariant, opened_le (reverse items.items), length-reverse items.items, items.ok.0, items.ok.1, items.small)
