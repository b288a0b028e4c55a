use Rattle.std.proofs.Common.{length}
use Rattle.hare_assign.proofs.MemberLemmas.{below}
use Rattle.hare_assign.proofs.chosen.first_of.Goals as goal

pub passes-requires-clause-to : goal.passes-requires-clause-to
passes-requires-clause-to c = below (length c.args.s.now.rows) c.args.members.now c.loop-m.m-index c.m-item.result c.requires.members
    c.loop-m-test.true c.m-item.is
