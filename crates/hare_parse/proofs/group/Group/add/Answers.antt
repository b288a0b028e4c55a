use Rattle.hare_parse.proofs.Kids.Heights.{bound_add, bound_add_last}
use Rattle.hare_parse.proofs.group.Group.add.Goals as goal

pub invariant_of-self-2 : goal.invariant_of-self-2
invariant_of-self-2 c =
    let b = c.self.inside.highest in
    let ts = c.self.inside.kids.items in
    rw (c.max-self-inside.ensures, c.in_ok-push.ensures.items)
    (bound_add b c.args.high ts c.args.tree c.self.invariant.0 c.requires, bound_add_last c.args.high ts c.args.tree c.requires)
