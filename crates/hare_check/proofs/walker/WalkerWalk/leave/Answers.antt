use Rattle.hare_check.proofs.Walks.Steps.{walking-leave, popped-rest}
use Rattle.hare_check.proofs.walker.WalkerWalk.leave.Goals as goal

pub returns-clause-ready : goal.returns-clause-ready
returns-clause-ready c s k p ps walks =
    let w = c.args.self.now in
    walking-leave s k p ps w.decls.now w.standing c.leave.new.self w.seen w.told w.begun c.pop.new.self
    (c.leave.ensures.ready s) c.leave.ensures.above c.leave.ensures.outer
    (popped-rest w.begun c.pop.new.self c.pop.result c.pop.ensures.rest c.pop.ensures.some)
    walks
