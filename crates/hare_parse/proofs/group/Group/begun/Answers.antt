use Rattle.hare_parse.proofs.Kids.Heights.{bound_none}
use Rattle.hare_parse.proofs.group.Group.begun.Goals as goal

pub invariant_of-result : goal.invariant_of-result
invariant_of-result c = rw c.requires (bound_none 0, bound_none 0)
