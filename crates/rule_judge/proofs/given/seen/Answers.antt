use Rattle.std.proofs.Common.{sym, subst}
use Rattle.rule_judge.specs.Defined.{IsDefinedTy}
use Rattle.rule_judge.proofs.KidLemmas.{seen_defined}
use Rattle.rule_judge.proofs.given.seen.Goals as goal

pub returns-clause-defined : goal.returns-clause-defined
returns-clause-defined c s h = subst (IsDefinedTy s) (sym c.seen_at.ensures) (seen_defined s c.args.t.now.kids.now c.args.i h.types)
