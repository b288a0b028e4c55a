use Rattle.std.proofs.Common.{◌≡◌, Some, None, subst}
use Rattle.hare_waits.specs.declared.waiting.Late.{Late}
use Rattle.hare_waits.specs.Nodes.{IsFirstOf}
use Rattle.hare_waits.specs.Lists.{Takes, Awaits}
use Rattle.hare_waits.specs.Waits.{IsLate}
use Rattle.hare_waits.proofs.DoneLemmas.{done-none, done-some}
use Rattle.hare_waits.proofs.waits.Waits.done.Goals as goal

pub returns-in-Some-clause-some : goal.returns-in-Some-clause-some
returns-in-Some-clause-some c = λ f e s0 js d a.
    let s = c.args.s.now in
    let ws = c.take-nodes.result.items in
    let told : ◌≡◌ {A = Late} (record { decl = c.in-Some.first.decl; place = c.in-Some.first.place }) f = cc in
    let takes = subst (λ q. Takes q c.take-nodes.new.self c.args.name ws) c.self.view_is c.take-nodes.ensures in
    let first = subst (λ l. IsFirstOf s l (Some c.in-Some.first)) c.as_slice.ensures.value c.in-Some.ensures in
    subst (λ l. IsLate s js l.decl l.place) told
    (done-some s0 s c.args.name d c.args.self.now c.take-nodes.new.self ws takes js a c.in-Some.first first)

pub returns-clause-none : goal.returns-clause-none
returns-clause-none c = λ e s0 js d a.
    let s = c.args.s.now in
    let ws = c.take-nodes.result.items in
    let takes = subst (λ q. Takes q c.take-nodes.new.self c.args.name ws) c.self.view_is c.take-nodes.ensures in
    let first = subst (λ l. IsFirstOf s l None) c.as_slice.ensures.value c.in_default.ensures in
    let each = subst (Awaits s c.take-nodes.new.self c.wait_each.new.lists) c.as_slice-2.ensures.value c.in_ok-wait_each.ensures in
    done-none s0 s c.args.name d c.args.self.now c.take-nodes.new.self ws takes js a c.wait_each.new.lists each first
