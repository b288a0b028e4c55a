use Rattle.std.proofs.Common.{sym, refl}
use Rattle.std.specs.Prelude.{reverse}
use Rattle.hare_above.proofs.FrameLemmas.{framed-append, opens-append, outer-append}
use Rattle.hare_above.proofs.standing.Standing.open.Goals as goal

pub invariant_of-self-in-Ok : goal.invariant_of-self-in-Ok
invariant_of-self-in-Ok c =
    rw (c.in-Ok.ensures.ok, c.in_ok-push.ensures.ok)
    (framed-append c.self.inside.case.inside.labels c.self.inside.hints c.self.inside.frames.items c.args.label c.args.hint
    c.self.invariant)

pub returns-in-Ok : goal.returns-in-Ok
returns-in-Ok c =
    rw (
      sym c.self.view_is,
      c.in-Ok.ensures.ok,
      c.in_ok-push.ensures.ok,
      opens-append c.self.inside.case.inside.labels c.self.inside.hints c.args.label c.args.hint c.self.invariant.hints,
      outer-append c.self.inside.case.inside.own c.self.inside.case.inside.result (reverse c.self.inside.frames.items)
          c.self.inside.case.inside.labels
          c.self.inside.hints c.args.label c.args.hint c.self.invariant.hints c.self.invariant.kept,
    ) refl
