use Rattle.std.proofs.Common.{sym}
use Rattle.rule_judge.proofs.members.values.Goals as goal

pub is_error-requires : goal.is_error-requires
is_error-requires c = c.requires c.member-item.result (c.loop-member.member-index, c.loop-member-test.true, sym c.member-item.is)
