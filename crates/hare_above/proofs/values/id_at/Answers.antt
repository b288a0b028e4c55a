use Rattle.std.proofs.Common.{sym, ◌∙◌, subst}
use Rattle.rule_judge.specs.Defined.{IsDefinedTy}
use Rattle.rule_judge.proofs.KidLemmas.{own_defined}
use Rattle.hare_above.proofs.values.id_at.Goals as goal

pub returns-in-Of-clause-defined : goal.returns-in-Of-clause-defined
returns-in-Of-clause-defined c s h =
    subst (IsDefinedTy s) (sym c.type_at.ensures ∙ c.in-Of.is) (own_defined s c.args.kids.now c.args.i h)
