use Rattle.std.proofs.Common.{subst}
use Rattle.hare_tree.specs.declared.place.Fault.{Fault}
use Rattle.hare_walk.proofs.Steps.{err_same}
use Rattle.rule_types.specs.Contexts.{role_of}
use Rattle.hare_written.specs.Judged.{IsJudged, IsStopped}
use Rattle.hare_written.specs.Program.{program_over}
use Rattle.hare_written.specs.Trees.{IsWrittenStop}
use Rattle.hare_written.proofs.JudgedWhole.Answers.{written-tree, written-stop}
use Rattle.hare_written.proofs.written.judge_written.Goals as goal

pub returns-clause-ok : goal.returns-clause-ok
returns-clause-ok c =
    let w = program_over c.args.names.now c.args.decls.now in
    let s = c.judge_tree.new.s in
    let t = c.args.t.now in
    written-tree w s c.args.own (role_of c.args.bound) t c.in_ok-tree.tree
    (subst (λ r. IsJudged w s r t 0 c.in_ok-tree.tree) c.role_of_type.ensures c.in_ok-tree.ensures.ok)

pub returns-in_err-tree-clause-err : goal.returns-in_err-tree-clause-err
returns-in_err-tree-clause-err c =
    let w = program_over c.args.names.now c.args.decls.now in
    let s = c.judge_tree.new.s in
    let t = c.args.t.now in
    let e = c.in_err-tree.field-0.0 in
    err_same c.from_residual.result e (IsWrittenStop w s c.args.own (role_of c.args.bound) t) c.from_residual.ensures.1
    (written-stop w s c.args.own (role_of c.args.bound) t e
    (subst (λ r. IsStopped w s r t 0 e) c.role_of_type.ensures c.in_err-tree.ensures.err))
