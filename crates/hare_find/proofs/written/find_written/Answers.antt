use Rattle.hare_types.specs.Store.{Store}
use Rattle.hare_rules.specs.Above.{Above}
use Rattle.hare_rules.specs.Context.{Setting}
use Rattle.hare_rules.specs.Flow.{Flow}
use Rattle.hare_walk.specs.Walks.{IsTurnedBack}
use Rattle.hare_walk.proofs.Steps.{err_same}
use Rattle.rule_types.specs.Contexts.{head_in}
use Rattle.hare_find.specs.Written.{IsAtType}
use Rattle.hare_find.proofs.SettlingNothing.WrittenTypes.{found_written, written_back}
use Rattle.hare_find.proofs.written.find_written.Goals as goal

pub returns-in_err-u-clause-err : goal.returns-in_err-u-clause-err
returns-in_err-u-clause-err c =
    let t = c.args.t.now in
    let s = c.judge.new.s in
    let e = c.in_err-u.field-0.0 in
    err_same c.from_residual.result e
    (λ x. (w : Store → Setting) (a : Above) (f : Flow) → IsAtType w s a f t → IsTurnedBack w s a (head_in t) t.kids.now f x)
    c.from_residual.ensures.1
    (λ w a f q. written_back w s a f t e c.requires.kind c.in_err-u.ensures.err q)

pub returns-clause-ok : goal.returns-clause-ok
returns-clause-ok c w a f q =
    let s = c.judge.new.s in
    let t = c.args.t.now in
    let u = c.in_ok-u.u in
    let x = c.in_ok-found.found in
    let sound = c.judge.ensures.grown.later.sound in
    let defined = c.in_ok-u.ensures.defined c.requires.names in
    found_written w s a f t u c.len.result x sound c.requires.kind c.in_ok-u.ensures.ok defined c.in_ok-found.ensures.found q
