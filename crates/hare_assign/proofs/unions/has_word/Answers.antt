use Rattle.std.proofs.Common.{length}
use Rattle.hare_assign.proofs.MemberLemmas.{below}
use Rattle.hare_assign.proofs.unions.has_word.Goals as goal

pub is_word-requires : goal.is_word-requires
is_word-requires c = below (length c.args.s.now.rows) c.args.members.now c.loop-m.m-index c.m-item.result c.requires c.loop-m-test.true
    c.m-item.is
