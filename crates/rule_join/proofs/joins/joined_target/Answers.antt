use Rattle.std.proofs.Common.{ap, sym, ◌∙◌}
use Rattle.hare_rules.specs.Settles.{joined_target}
use Rattle.rule_join.proofs.JoinedLemmas.{unasked}
use Rattle.rule_join.proofs.joins.joined_target.Goals as goal

pub returns-in-Of-clause-value : goal.returns-in-Of-clause-value
returns-in-Of-clause-value c f vs e = sym (ap (λ h. joined_target f h vs) c.in-Of.is)

pub returns-in-Drop-clause-value : goal.returns-in-Drop-clause-value
returns-in-Drop-clause-value c f vs e = sym (ap (λ h. joined_target f h vs) c.in-Drop.is)

pub returns-in-None-clause-value : goal.returns-in-None-clause-value
returns-in-None-clause-value c f vs e = c.id_in.ensures ∙ unasked f c.args.t.now.case.now.hint vs c.args.ty.now c.in-None.is e
