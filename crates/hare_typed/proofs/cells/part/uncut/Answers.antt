use Rattle.hare_typed.proofs.OriginLemmas.{there, ends, traced-plain, traced-repeated}
use Rattle.hare_typed.proofs.cells.part.uncut.Goals as goal

pub origin_of-requires-clause-proper : goal.origin_of-requires-clause-proper
origin_of-requires-clause-proper c =
    (there c.args.repeats.now c.args.written.now c.args.from c.args.to c.loop-left.left c.loop-left.first c.loop-left.end
    c.loop-left.inside.items _ c.loop-left.invariant c.loop-left-test.true c.requires.fit 0 0).0

pub loop-left-preserved-in-Plain : goal.loop-left-preserved-in-Plain
loop-left-preserved-in-Plain c =
    let rs = c.args.repeats.now in
    let cs = c.args.written.now in
    let inside = c.loop-left.inside.items in
    let k = c.loop-left.invariant in
    let p = c.loop-left-test.true in
    let w =
    there rs cs c.args.from c.args.to c.loop-left.left c.loop-left.first c.loop-left.end inside _ k p c.requires.fit 0 0 in
    let e = ends rs cs c.args.from c.args.to c.loop-left.left c.loop-left.first c.loop-left.end inside _ k p c.requires.fit 0 0 in
    traced-plain rs cs c.args.from c.args.to c.loop-left.left c.loop-left.first c.loop-left.end inside _ k p c.requires.fit
    c.in-Plain.before c.in-Plain.behind (c.in-Plain.ensures _ w.1 e)

pub loop-left-preserved : goal.loop-left-preserved
loop-left-preserved c =
    let rs = c.args.repeats.now in
    let cs = c.args.written.now in
    let inside = c.loop-left.inside.items in
    let k = c.loop-left.invariant in
    let p = c.loop-left-test.true in
    let w =
    there rs cs c.args.from c.args.to c.loop-left.left c.loop-left.first c.loop-left.end inside _ k p c.requires.fit 0 0 in
    let e = ends rs cs c.args.from c.args.to c.loop-left.left c.loop-left.first c.loop-left.end inside _ k p c.requires.fit 0 0 in
    traced-repeated rs cs c.args.from c.args.to c.loop-left.left c.loop-left.first c.loop-left.end inside _ k p c.requires.fit
    c.in-Repeated.before c.in-Repeated.behind c.in-Repeated.repeat c.push.new.self.items c.in_ok-push-in-Repeated.ensures.items
    (c.in-Repeated.ensures _ w.1 e)
