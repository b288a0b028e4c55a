use Rattle.std.proofs.Common.{subst}
use Rattle.rule_judge.proofs.UnionLemmas.{name_defined}
use Rattle.rule_types.specs.Known.{IsDefinedMeaning}
use Rattle.rule_types.proofs.scalars.path.Goals as goal

pub returns-clause-defined : goal.returns-clause-defined
returns-clause-defined c h =
    name_defined c.args.s.now c.entered.new.s c.declarations-law.ensures.sound c.entered.ensures.grown.later c.in_ok-made-in-Decl.made
    c.in-Decl.n c.in_ok-made-in-Decl.ensures.row
    (subst (IsDefinedMeaning c.args.s.now) c.in-Decl.is h)
