use Rattle.std.proofs.Common.{sym}
use Rattle.rule_judge.proofs.HeldLemmas.{one_of}
use Rattle.rule_judge.proofs.members.joined_or_never.Goals as goal

pub returns-in-Some-clause-defined : goal.returns-in-Some-clause-defined
returns-in-Some-clause-defined c = c.requires.defined c.in-Some.member.now
    (one_of c.args.members 0 c.in-Some.member.now (sym c.in-Some.ensures))
