use Rattle.std.proofs.Common.{drop, subst}
use Rattle.hare_tree.specs.Grammar.{trees_of}
use Rattle.hare_recogniser.specs.Limits.{IsFirstDepth}
use Rattle.hare_parse.proofs.ClosedRun.Answered.{told_is_fault}
use Rattle.hare_parse.proofs.parse.parse.Goals as goal

pub returns-in-Some-clause-err : goal.returns-in-Some-clause-err
returns-in-Some-clause-err c =
    let d = subst (IsFirstDepth (trees_of c.args.sort) (drop c.args.at c.args.t.now) c.args.at) c.in-Some.is c.in_ok-n.ensures.value in
    told_is_fault c.args.sort c.args.t.now c.args.at c.in-Some.n c.fault_up_to.result c.requires.within d c.fault_up_to.ensures
