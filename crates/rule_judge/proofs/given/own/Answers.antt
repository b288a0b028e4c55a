use Rattle.std.proofs.Common.{sym, subst}
use Rattle.rule_judge.specs.Defined.{IsDefinedTy}
use Rattle.rule_judge.proofs.KidLemmas.{own_defined}
use Rattle.rule_judge.proofs.given.own.Goals as goal

pub returns-clause-defined : goal.returns-clause-defined
returns-clause-defined c s h = subst (IsDefinedTy s) (sym c.type_at.ensures) (own_defined s c.args.t.now.kids.now c.args.i h.types)
