use Rattle.hare_walk.specs.Walks.{IsAnswerLater}
use Rattle.hare_walk.proofs.Steps.{err_same, answered_later, finished_later}
use Rattle.hare_walk.proofs.check.check_by.Goals as goal

pub returns-in_err-tree-clause-err : goal.returns-in_err-tree-clause-err
returns-in_err-tree-clause-err g c =
    let s = c.judge_tree-judged.new.s in
    let w = g.W.Walk.setting c.args.w.now in
    let a = g.W.Walk.above c.args.w.now in
    let f = g.W.Walk.flow c.args.w.now in
    let t = c.args.body.now in
    let e = c.in_err-tree.field-0.0 in
    err_same c.from_residual.result e (λ x. IsAnswerLater w s a f t x) c.from_residual.ensures.1
    (answered_later w s a f t e c.in_err-tree.ensures.err)

pub returns-clause-ok : goal.returns-clause-ok
returns-clause-ok g c =
    let s = c.judge_tree-judged.new.s in
    let w = g.W.Walk.setting c.args.w.now in
    let a = g.W.Walk.above c.args.w.now in
    let f = g.W.Walk.flow c.args.w.now in
    let d = g.W.Walk.flow c.judge_tree-judged.new.w in
    let x = c.in_ok-tree.tree in
    rw c.finish.ensures
    (finished_later w s a f d c.args.body.now x c.requires.start c.requires.shaped c.in_ok-tree.ensures.ok c.in_ok-tree.ensures.hand)
