use Rattle.std.proofs.Common.{◌∙◌, sym, refl, subst}
use Rattle.hare_const.specs.declared.outcome.Outcome.TheVariants.{Aborts, Undefined}
use Rattle.hare_const.proofs.ArrayLemmas.{Laid, laid-none, laid-more, laid-stopped, laid-all}
use Rattle.hare_const.proofs.array.laid.Goals as goal

pub returns-in-Aborts : goal.returns-in-Aborts
returns-in-Aborts c =
    laid-stopped c.args.s.now c.args.t.now c.args.kids.now c.loop-i.i c.items_in-i-end.result c.loop-i.last c.loop-i.whole Aborts
    c.loop-i.invariant c.loop-i-test.true c.items_in-i-end.ensures (sym c.kid_at.ensures ∙ c.in-Aborts.is) (λ f. refl)

pub returns-in-Undefined : goal.returns-in-Undefined
returns-in-Undefined c =
    laid-stopped c.args.s.now c.args.t.now c.args.kids.now c.loop-i.i c.items_in-i-end.result c.loop-i.last c.loop-i.whole Undefined
    c.loop-i.invariant c.loop-i-test.true c.items_in-i-end.ensures (sym c.kid_at.ensures ∙ c.in-Undefined.is) (λ f. refl)

pub loop-i-preserved : goal.loop-i-preserved
loop-i-preserved c =
    laid-more c.args.s.now c.args.t.now c.args.kids.now c.loop-i.i c.items_in-i-end.result c.loop-i.last c.len-last.result c.loop-i.whole
    c.append.new.self c.in-Known.cells c.loop-i.invariant c.loop-i-test.true (sym c.kid_at.ensures ∙ c.in-Known.is) c.len-last.ensures
    c.in_ok-append-in-Known.ensures.ok

pub returns : goal.returns
returns c =
    laid-all c.args.s.now c.args.t.now c.args.kids.now c.loop-i.i c.items_in-i-end.result c.loop-i.last c.repeats.result c.loop-i.whole
    c.repeat.new.self c.loop-i.invariant c.loop-i-test.false c.items_in-i-end.ensures c.repeats.ensures c.in_ok-repeat.ensures.ok

pub loop-i-init : goal.loop-i-init
loop-i-init c =
    let e = laid-none c.args.s.now c.args.t.now c.args.kids.now c.items_in-i-end.result in
    subst (Laid c.args.s.now c.args.t.now c.args.kids.now 0 c.items_in-i-end.result 0) (sym c.new-whole.ensures) e
