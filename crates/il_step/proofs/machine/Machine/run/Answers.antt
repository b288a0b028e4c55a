-- By what the loop comes to, and by how the run had ended.
use Rattle.std.proofs.Common.{◌+◌, refl, arith}
use Rattle.il_step.specs.declared.progress.Progress.TheVariants as progress
use Rattle.il_step.specs.declared.stop.Stop.TheVariants as stop
use Rattle.il_step.proofs.Answering.{fails_to_read, fails_to_write, read_on_any, write_on_any}
use Rattle.il_step.proofs.Machines.{stood_as, used_at, live_at, ended_at, aborted_at, come_as, runs_by, runs_by_any, run_spent, run_spent_any, run_waits, run_waits_any, run_ends, run_ends_any, run_aborts, run_aborts_any, run_again, run_again_any, abort_again, abort_again_any}
use Rattle.il_step.proofs.machine.Machine.run.Goals as goal

pub returns-in-Ended-clause-done : goal.returns-in-Ended-clause-done
returns-in-Ended-clause-done g c = λ m r at left.
    let a = c.args.self.now in
    let p = c.self.inside.progress in
    let u = c.self.inside.used in
    let view = c.self.view_is in
    let here = stood_as m a r p u view at (progress.Ended c.in-Ended.end) c.in-Ended.is in
    runs_by _ m c.args.units r _ _ _ _ c.answer_of.ensures
    (run_again m c.args.units r _ _ refl _ here c.in-Ended.end (ended_at m a r p u view at c.in-Ended.end c.in-Ended.is) left)

pub returns-in-Aborted-clause-done : goal.returns-in-Aborted-clause-done
returns-in-Aborted-clause-done g c = λ m r at left.
    let a = c.args.self.now in
    let p = c.self.inside.progress in
    let u = c.self.inside.used in
    let view = c.self.view_is in
    let here = stood_as m a r p u view at p refl in
    abort_again m c.args.units r _ _ refl _ here c.in-Aborted.field-0 (aborted_at m a r p u view at c.in-Aborted.field-0 c.in-Aborted.is) left

pub returns-in-Ended-clause-any : goal.returns-in-Ended-clause-any
returns-in-Ended-clause-any g c = λ m r at.
    let a = c.args.self.now in
    let p = c.self.inside.progress in
    let u = c.self.inside.used in
    let view = c.self.view_is in
    let here = stood_as m a r p u view at (progress.Ended c.in-Ended.end) c.in-Ended.is in
    runs_by_any _ m c.args.units r _ _ _ _ c.answer_of.ensures
    (run_again_any m c.args.units r _ _ refl _ here c.in-Ended.end (ended_at m a r p u view at c.in-Ended.end c.in-Ended.is))

pub returns-in-Aborted-clause-any : goal.returns-in-Aborted-clause-any
returns-in-Aborted-clause-any g c = λ m r at.
    let a = c.args.self.now in
    let p = c.self.inside.progress in
    let u = c.self.inside.used in
    let view = c.self.view_is in
    let here = stood_as m a r p u view at p refl in
    abort_again_any m c.args.units r _ _ refl _ here c.in-Aborted.field-0 (aborted_at m a r p u view at c.in-Aborted.field-0 c.in-Aborted.is)

pub returns-in-Err-clause-done : goal.returns-in-Err-clause-done
returns-in-Err-clause-done g c = λ m r at left.
    let a = c.args.self.now in
    let p = c.self.inside.progress in
    let u = c.self.inside.used in
    let view = c.self.view_is in
    let live = live_at m a r p u view at c.in-Live.live c.in-Live.is in
    let rest = c.go-stop.new.left in
    let used = used_at m a r p u view at in
    let falls = c.go-stop.ensures.falls in
    let count = c.saturating_add-self-inside.ensures in
    run_waits m c.args.units rest falls r _ _ u used c.go-stop.new.self _ (omega (arith, count))
    (c.in-Err.ensures.done m r live) left

pub returns-in-Ok-Spent-clause-done : goal.returns-in-Ok-Spent-clause-done
returns-in-Ok-Spent-clause-done g c = λ m r at left.
    let a = c.args.self.now in
    let p = c.self.inside.progress in
    let u = c.self.inside.used in
    let view = c.self.view_is in
    let live = live_at m a r p u view at c.in-Live.live c.in-Live.is in
    let rest = c.go-stop.new.left in
    let used = used_at m a r p u view at in
    let falls = c.go-stop.ensures.falls in
    let count = c.saturating_add-self-inside.ensures in
    let h = come_as m (r.used + c.args.units) r _ _ c.go-stop.new.self rest c.in-Ok-Spent.field-0 (stop.Spent c.in-Ok-Spent.over)
    c.in-Ok-Spent.field-0-is (c.in-Ok-Spent.ensures.done m r live) in
    let over = c.saturating_add-self-inside-in-Ok-Spent.ensures in
    run_spent m c.args.units rest falls r _ _ u used c.go-stop.new.self c.in-Ok-Spent.over _ (omega (arith, count, over)) h left

pub returns-in-Ok-Ends-clause-done : goal.returns-in-Ok-Ends-clause-done
returns-in-Ok-Ends-clause-done g c = λ m r at left.
    let a = c.args.self.now in
    let p = c.self.inside.progress in
    let u = c.self.inside.used in
    let view = c.self.view_is in
    let live = live_at m a r p u view at c.in-Live.live c.in-Live.is in
    let rest = c.go-stop.new.left in
    let used = used_at m a r p u view at in
    let falls = c.go-stop.ensures.falls in
    let count = c.saturating_add-self-inside.ensures in
    let h = come_as m (r.used + c.args.units) r _ _ c.go-stop.new.self rest c.in-Ok-Ends.field-0 (stop.Ends c.in-Ok-Ends.end)
    c.in-Ok-Ends.field-0-is (c.in-Ok-Ends.ensures.done m r live) in
    runs_by _ m c.args.units r _ _ _ _ c.answer_of-in-Ok-Ends.ensures
    (run_ends m c.args.units rest falls r _ _ u used c.in-Ok-Ends.end _ (omega (arith, count)) h left)

pub returns-in-Ok-Aborts-clause-done : goal.returns-in-Ok-Aborts-clause-done
returns-in-Ok-Aborts-clause-done g c = λ m r at left.
    let a = c.args.self.now in
    let p = c.self.inside.progress in
    let u = c.self.inside.used in
    let view = c.self.view_is in
    let live = live_at m a r p u view at c.in-Live.live c.in-Live.is in
    let rest = c.go-stop.new.left in
    let used = used_at m a r p u view at in
    let falls = c.go-stop.ensures.falls in
    let count = c.saturating_add-self-inside.ensures in
    let h = come_as m (r.used + c.args.units) r _ _ c.go-stop.new.self rest c.in-Ok-Aborts.field-0 (stop.Aborts c.in-Ok-Aborts.text)
    c.in-Ok-Aborts.field-0-is (c.in-Ok-Aborts.ensures.done m r live) in
    run_aborts m c.args.units rest falls r _ _ u used c.in-Ok-Aborts.text _ (omega (arith, count)) h left

pub returns-in-Err-clause-any : goal.returns-in-Err-clause-any
returns-in-Err-clause-any g c = λ m r at.
    let a = c.args.self.now in
    let p = c.self.inside.progress in
    let u = c.self.inside.used in
    let view = c.self.view_is in
    let live = live_at m a r p u view at c.in-Live.live c.in-Live.is in
    let rest = c.go-stop.new.left in
    let used = used_at m a r p u view at in
    let falls = c.go-stop.ensures.falls in
    let count = c.saturating_add-self-inside.ensures in
    run_waits_any m c.args.units rest falls r _ _ u used c.go-stop.new.self _ (omega (arith, count))
    (c.in-Err.ensures.done m r live)

pub returns-in-Ok-Spent-clause-any : goal.returns-in-Ok-Spent-clause-any
returns-in-Ok-Spent-clause-any g c = λ m r at.
    let a = c.args.self.now in
    let p = c.self.inside.progress in
    let u = c.self.inside.used in
    let view = c.self.view_is in
    let live = live_at m a r p u view at c.in-Live.live c.in-Live.is in
    let rest = c.go-stop.new.left in
    let used = used_at m a r p u view at in
    let falls = c.go-stop.ensures.falls in
    let count = c.saturating_add-self-inside.ensures in
    let h = come_as m (r.used + c.args.units) r _ _ c.go-stop.new.self rest c.in-Ok-Spent.field-0 (stop.Spent c.in-Ok-Spent.over)
    c.in-Ok-Spent.field-0-is (c.in-Ok-Spent.ensures.done m r live) in
    let over = c.saturating_add-self-inside-in-Ok-Spent.ensures in
    run_spent_any m c.args.units rest falls r _ _ u used c.go-stop.new.self c.in-Ok-Spent.over _ (omega (arith, count, over)) h

pub returns-in-Ok-Ends-clause-any : goal.returns-in-Ok-Ends-clause-any
returns-in-Ok-Ends-clause-any g c = λ m r at.
    let a = c.args.self.now in
    let p = c.self.inside.progress in
    let u = c.self.inside.used in
    let view = c.self.view_is in
    let live = live_at m a r p u view at c.in-Live.live c.in-Live.is in
    let rest = c.go-stop.new.left in
    let used = used_at m a r p u view at in
    let falls = c.go-stop.ensures.falls in
    let count = c.saturating_add-self-inside.ensures in
    let h = come_as m (r.used + c.args.units) r _ _ c.go-stop.new.self rest c.in-Ok-Ends.field-0 (stop.Ends c.in-Ok-Ends.end)
    c.in-Ok-Ends.field-0-is (c.in-Ok-Ends.ensures.done m r live) in
    runs_by_any _ m c.args.units r _ _ _ _ c.answer_of-in-Ok-Ends.ensures
    (run_ends_any m c.args.units rest falls r _ _ u used c.in-Ok-Ends.end _ (omega (arith, count)) h)

pub returns-in-Ok-Aborts-clause-any : goal.returns-in-Ok-Aborts-clause-any
returns-in-Ok-Aborts-clause-any g c = λ m r at.
    let a = c.args.self.now in
    let p = c.self.inside.progress in
    let u = c.self.inside.used in
    let view = c.self.view_is in
    let live = live_at m a r p u view at c.in-Live.live c.in-Live.is in
    let rest = c.go-stop.new.left in
    let used = used_at m a r p u view at in
    let falls = c.go-stop.ensures.falls in
    let count = c.saturating_add-self-inside.ensures in
    let h = come_as m (r.used + c.args.units) r _ _ c.go-stop.new.self rest c.in-Ok-Aborts.field-0 (stop.Aborts c.in-Ok-Aborts.text)
    c.in-Ok-Aborts.field-0-is (c.in-Ok-Aborts.ensures.done m r live) in
    run_aborts_any m c.args.units rest falls r _ _ u used c.in-Ok-Aborts.text _ (omega (arith, count)) h

pub returns-in-Ok-ReadFault-clause-done : goal.returns-in-Ok-ReadFault-clause-done
returns-in-Ok-ReadFault-clause-done g c = λ m r at left.
    let a = c.args.self.now in
    let p = c.self.inside.progress in
    let u = c.self.inside.used in
    let view = c.self.view_is in
    let live = live_at m a r p u view at c.in-Live.live c.in-Live.is in
    let rest = c.go-stop.new.left in
    let h = come_as m (r.used + c.args.units) r _ _ c.go-stop.new.self rest c.in-Ok-ReadFault.field-0 (stop.ReadFault)
    c.in-Ok-ReadFault.field-0-is (c.in-Ok-ReadFault.ensures.done m r live) in
    fails_to_read m c.args.units r _ _ h left

pub returns-in-Ok-ReadFault-clause-any : goal.returns-in-Ok-ReadFault-clause-any
returns-in-Ok-ReadFault-clause-any g c = λ m r at.
    let a = c.args.self.now in
    let p = c.self.inside.progress in
    let u = c.self.inside.used in
    let view = c.self.view_is in
    let live = live_at m a r p u view at c.in-Live.live c.in-Live.is in
    let rest = c.go-stop.new.left in
    let h = come_as m (r.used + c.args.units) r _ _ c.go-stop.new.self rest c.in-Ok-ReadFault.field-0 (stop.ReadFault)
    c.in-Ok-ReadFault.field-0-is (c.in-Ok-ReadFault.ensures.done m r live) in
    read_on_any m c.args.units r _ _ h

pub returns-in-Ok-WriteFault-clause-done : goal.returns-in-Ok-WriteFault-clause-done
returns-in-Ok-WriteFault-clause-done g c = λ m r at left.
    let a = c.args.self.now in
    let p = c.self.inside.progress in
    let u = c.self.inside.used in
    let view = c.self.view_is in
    let live = live_at m a r p u view at c.in-Live.live c.in-Live.is in
    let rest = c.go-stop.new.left in
    let h = come_as m (r.used + c.args.units) r _ _ c.go-stop.new.self rest c.in-Ok-WriteFault.field-0 (stop.WriteFault)
    c.in-Ok-WriteFault.field-0-is (c.in-Ok-WriteFault.ensures.done m r live) in
    fails_to_write m c.args.units r _ _ h left

pub returns-in-Ok-WriteFault-clause-any : goal.returns-in-Ok-WriteFault-clause-any
returns-in-Ok-WriteFault-clause-any g c = λ m r at.
    let a = c.args.self.now in
    let p = c.self.inside.progress in
    let u = c.self.inside.used in
    let view = c.self.view_is in
    let live = live_at m a r p u view at c.in-Live.live c.in-Live.is in
    let rest = c.go-stop.new.left in
    let h = come_as m (r.used + c.args.units) r _ _ c.go-stop.new.self rest c.in-Ok-WriteFault.field-0 (stop.WriteFault)
    c.in-Ok-WriteFault.field-0-is (c.in-Ok-WriteFault.ensures.done m r live) in
    write_on_any m c.args.units r _ _ h
