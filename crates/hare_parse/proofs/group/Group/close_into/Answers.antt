use Rattle.std.proofs.Common.{sym, subst}
use Rattle.hare_parse.specs.Heights.{IsBound}
use Rattle.hare_parse.proofs.Kids.Heights.{high, height_branch}
use Rattle.hare_parse.proofs.group.Group.close_into.Goals as goal

pub add-requires : goal.add-requires
add-requires c =
    let ts = c.self.inside.kids.items in
    let b = c.above.ensures (high ts) c.self.invariant.0 in
    rw c.in_ok-taken.ensures.value (subst (IsBound c.above.result) (sym (height_branch _ ts)) b)
