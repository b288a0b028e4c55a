use Rattle.hare_parse.proofs.Kids.Heights.{bound_rest, bound_rest_last}
use Rattle.hare_parse.proofs.group.Group.take_last.Goals as goal

pub invariant_of-self : goal.invariant_of-self
invariant_of-self c =
    let b = c.self.inside.highest in
    let ts = c.self.inside.kids.items in
    rw c.pop_last.ensures.left (bound_rest b ts c.self.invariant.0, bound_rest_last b ts c.self.invariant.0)
