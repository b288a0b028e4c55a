use Rattle.std.proofs.Common.{◌∙◌}
use Rattle.rule_judge.specs.Turns.{context_in, kind_in}
use Rattle.rule_ctl.proofs.DeclarationLemmas.{declared_asked}
use Rattle.rule_ctl.proofs.declarations.asks_type.Goals as goal

pub returns-clause-value : goal.returns-clause-value
returns-clause-value c f l = c.declared_asks.ensures f ∙ declared_asked (context_in f c.args.t.now) c.args.i (kind_in c.args.t.now)
    c.requires
