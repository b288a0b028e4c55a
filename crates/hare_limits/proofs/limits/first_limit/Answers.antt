use Rattle.std.proofs.Common.{subst, None}
use Rattle.hare_limits.specs.Stops.{TellsPassed}
use Rattle.hare_limits.proofs.LimitsPassed.Within.{limits-sound}
use Rattle.hare_limits.proofs.LimitsPassed.Passed.{entry-stops, passed-limit}
use Rattle.hare_limits.proofs.limits.first_limit.Goals as goal

pub returns-in-Some-clause-err : goal.returns-in-Some-clause-err
returns-in-Some-clause-err c =
    passed-limit c.args.paths.now c.args.s.now c.args.decls.now c.in-Ok.number c.in-Some.fault c.in-Ok.ensures.ok
    (subst (TellsPassed c.args.s.now c.args.decls.now) c.in-Some.is c.in_ok-fault-in-Ok.ensures)

pub returns-in-Err-clause-err : goal.returns-in-Err-clause-err
returns-in-Err-clause-err c = entry-stops c.args.paths.now c.args.s.now c.args.decls.now c.in-Err.stop c.in-Err.ensures.err

pub returns-in-None-clause-sound : goal.returns-in-None-clause-sound
returns-in-None-clause-sound c = λ f h.
    let p : TellsPassed c.args.s.now c.args.decls.now None = subst (TellsPassed c.args.s.now c.args.decls.now) c.in-None.is
    c.in_ok-fault-in-Ok.ensures in
    limits-sound c.args.paths.now c.args.s.now c.args.decls.now c.in-Ok.number f
    (record { entry_is = c.in-Ok.ensures.ok; framed = p.0; sums = p.1 }) h
