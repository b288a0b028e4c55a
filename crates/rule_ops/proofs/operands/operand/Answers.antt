use Rattle.std.proofs.Common.{sym, subst}
use Rattle.rule_judge.specs.Defined.{IsDefinedTy}
use Rattle.rule_judge.proofs.KidLemmas.{seen_defined}
use Rattle.rule_ops.proofs.operands.operand.Goals as goal

pub returns-clause-defined : goal.returns-clause-defined
returns-clause-defined c = subst (IsDefinedTy c.args.s.now) (sym c.seen_at.ensures)
    (seen_defined c.args.s.now c.args.t.now.kids.now c.args.i c.requires.types)
