use Rattle.std.proofs.Common.{◌+◌, get_or, ap, sym, ◌∙◌, subst, arith}
use Rattle.hare_rules.specs.declared.judged.Yielded.{Yielded}
use Rattle.rule_judge.specs.Defined.{IsDefinedTy}
use Rattle.rule_judge.specs.Turns.{yields_in}
use Rattle.rule_judge.proofs.KidLemmas.{own_defined}
use Rattle.rule_judge.proofs.YieldLemmas.{yield_defined}
use Rattle.rule_join.proofs.ValueLemmas.{at_branch, branch_within, at_yield, yield_within, at_case, case_within}
use Rattle.rule_join.proofs.values.value_at.Goals as goal

pub overflow_add-i : goal.overflow_add-i
overflow_add-i c = let few = branch_within c.args.v c.args.t.now c.args.i c.in-Branches.is c.requires in omega (arith, few)

pub returns-in-Branches : goal.returns-in-Branches
returns-in-Branches c = record {
  value = at_branch c.args.v c.args.t.now c.args.i c.handed.result c.in-Branches.is c.requires c.handed.ensures;
  defined = λ s d.
      subst (IsDefinedTy s) (sym (ap (λ (y : Yielded). y.ty) c.handed.ensures))
      (own_defined s c.args.t.now.kids.now (c.args.i + 1) d.types);
}

pub returns-in-Yields-clause-value : goal.returns-in-Yields-clause-value
returns-in-Yields-clause-value c =
    at_yield c.args.v c.args.t.now c.args.i c.index-as_slice-i.result c.as_slice.result.now c.in-Yields.is c.requires c.as_slice.ensures
    c.index-as_slice-i.is

pub returns-in-Yields-clause-defined : goal.returns-in-Yields-clause-defined
returns-in-Yields-clause-defined c s d =
    yield_defined s (yields_in c.args.t.now) c.args.i c.index-as_slice-i.result d.yields
    (yield_within c.args.v c.args.t.now c.args.i c.in-Yields.is c.requires)
    (c.index-as_slice-i.is ∙ ap (λ us. get_or us c.args.i c.index-as_slice-i.result) c.as_slice.ensures)

pub prove-unreachable-requires : goal.prove-unreachable-requires
prove-unreachable-requires c = let few = case_within c.args.v c.args.t.now c.args.i c.in-Cases.is c.requires in omega arith

pub returns-in-Cases : goal.returns-in-Cases
returns-in-Cases c = record {
  value = at_case c.args.v c.args.t.now c.args.i c.handed-in-Cases.result c.in-Cases.is c.requires c.handed-in-Cases.ensures;
  defined = λ s d.
      subst (IsDefinedTy s) (sym (ap (λ (y : Yielded). y.ty) c.handed-in-Cases.ensures))
      (own_defined s c.args.t.now.kids.now (c.args.i + 1) d.types);
}
