use Rattle.std.proofs.Common.{length}
use Rattle.hare_assign.proofs.MemberLemmas.{below}
use Rattle.hare_assign.proofs.unions.count_const.Goals as goal

pub is_const-requires : goal.is_const-requires
is_const-requires c = below (length c.args.s.now.rows) c.args.members.now c.loop-m.m-index c.m-item.result c.requires c.loop-m-test.true
    c.m-item.is
