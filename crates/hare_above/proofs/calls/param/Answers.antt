use Rattle.std.proofs.Common.{refl}
use Rattle.rule_judge.specs.Settings.{setting_of}
use Rattle.hare_above.proofs.ParamLemmas.{known-param}
use Rattle.hare_above.proofs.calls.param.Goals as goal

pub returns-in-Decl-clause-defined : goal.returns-in-Decl-clause-defined
returns-in-Decl-clause-defined c =
    known-param c.args.s.now c.args.decls.now c.in-Decl.n c.args.i c.declared_param.result c.requires
    (c.declared_param.ensures (setting_of c.args.s.now c.args.decls.now) refl)
