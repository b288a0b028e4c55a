use Rattle.std.proofs.Common.{ap, sym, ◌∙◌, subst}
use Rattle.hare_typed.specs.Given.{given}
use Rattle.rule_judge.specs.Defined.{IsDefinedTy}
use Rattle.rule_judge.proofs.KidLemmas.{seen_defined}
use Rattle.rule_mem.proofs.DeleteLemmas.{kid-front, kids_defined}
use Rattle.rule_mem.proofs.deletes.operand_seen.Goals as goal

pub returns-clause-value : goal.returns-clause-value
returns-clause-value c = c.seen_at.ensures ∙ ap given (kid-front 0 _ _ c.tree.inside.kids c.args.tree.now c.tree.view_is)

pub returns-clause-defined : goal.returns-clause-defined
returns-clause-defined c s d =
    subst (IsDefinedTy s) (sym c.seen_at.ensures)
    (seen_defined s c.tree.inside.kids 0 (kids_defined s _ _ c.tree.inside.kids c.args.tree.now c.tree.view_is d))
