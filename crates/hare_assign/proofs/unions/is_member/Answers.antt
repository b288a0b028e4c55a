use Rattle.std.proofs.Common.{length}
use Rattle.hare_assign.proofs.MemberLemmas.{below}
use Rattle.hare_assign.proofs.unions.is_member.Goals as goal

pub is_same-requires-clause-to : goal.is_same-requires-clause-to
is_same-requires-clause-to c = below (length c.args.s.now.rows) c.args.members.now c.loop-m.m-index c.m-item.result c.requires.members
    c.loop-m-test.true c.m-item.is
