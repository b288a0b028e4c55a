use Rattle.std.proofs.Common.{arith}
use Rattle.std.proofs.lemmas.Bool.{lt-ltb}
use Rattle.hare_rules.specs.Control.{branches}
use Rattle.rule_judge.specs.Turns.{context_in}
use Rattle.rule_join.proofs.AskedLemmas.{target_without, target_with, branches_typed}
use Rattle.rule_join.proofs.asked.branch_target.Goals as goal

pub returns-then-is_there-clause-value : goal.returns-then-is_there-clause-value
returns-then-is_there-clause-value c f e =
    let x = context_in f c.args.t.now in
    target_with _ _ _ c.joined_target.result (lt-ltb 0 c.args.i (omega arith)) c.if-is_there.ensures
    (c.joined_target.ensures.value f (branches x) (branches_typed x c.args.ty.now c.if-is_there.ensures e))

pub returns-clause-value : goal.returns-clause-value
returns-clause-value c f e = target_without _ _ _ c.if-is_there.ensures
