use Rattle.std.proofs.Common.{rules, subst, IsTrue}
use Rattle.rule_judge.specs.Defined.{IsDefinedTree}
use Rattle.judge_table.proofs.ReadyLemmas.{trees-defined}
use Rattle.judge_table.proofs.ready.+trees.Goals as goal

pub is_defined_tree-returns-clause-value : goal.is_defined_tree-returns-clause-value
is_defined_tree-returns-clause-value t c =
    λ yes.
    let s = c.args.s.now in
    let own : IsTrue c.in_ok-is_defined_ty.field-0 = search rules in
    let to : IsTrue c.in_ok-is_defined_ty-2.field-0 = search rules in
    subst (IsDefinedTree s) c.x.view_is (
      c.in_ok-is_defined_ty.ensures.value own,
      c.in_ok-is_defined_ty-2.ensures.value to,
      trees-defined s c.x.inside.kids (c.in_ok-are_defined.ensures.value yes),
    )
