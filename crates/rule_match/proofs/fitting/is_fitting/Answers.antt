use Rattle.std.proofs.Common.{subst}
use Rattle.rule_match.specs.Patterns.{meant, IsDefinedPattern}
use Rattle.rule_match.specs.declared.patterns.Pattern.{Pattern}
use Rattle.rule_match.proofs.fitting.is_fitting.Goals as goal

pub is_member-requires-clause-member : goal.is_member-requires-clause-member
is_member-requires-clause-member c = subst (λ (p : Pattern). IsDefinedPattern c.args.s.now (meant p)) c.in-Member.is c.requires.pattern
