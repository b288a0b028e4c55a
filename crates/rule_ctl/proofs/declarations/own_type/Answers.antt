use Rattle.std.proofs.Common.{sym, ◌∙◌}
use Rattle.rule_judge.specs.Turns.{context_in, kind_in}
use Rattle.rule_ctl.proofs.DeclarationLemmas.{declared_void}
use Rattle.rule_ctl.proofs.declarations.own_type.Goals as goal

pub returns-clause-value : goal.returns-clause-value
returns-clause-value c f l = sym (declared_void (context_in f c.args.t.now) (kind_in c.args.t.now) c.requires) ∙ c.in_ok-void.ensures.value
    f l
