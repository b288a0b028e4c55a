use Rattle.std.proofs.Common.{◌≡◌, ◌≤◌, ◌<◌, ◌++◌, ◌∷◌, [], length, get_or, slice_get, None, Some, IfOk, refl, sym, ap, ◌∙◌, subst, arith}
use Rattle.hare_depends.specs.Search.{Stands, Skips, IsNextOn, Continues, work}
use Rattle.hare_depends.proofs.SearchLemmas.{skipped-stands, next-on, next-unentered, all-done, goes-to, got, got-none}
use Rattle.hare_depends.proofs.search.go_on.Goals as goal

pub put_out-requires-clause-stands : goal.put_out-requires-clause-stands
put_out-requires-clause-stands c =
    let sk = subst (λ ls. Skips ls c.args.frame c.skip_done-frame.result) c.deref.ensures.value c.skip_done-frame.ensures in
    skipped-stands c.args.saids.now c.args.graph.now c.args.search.done.items c.args.search.spent.items c.args.search.entered.items
    c.args.search.way.items
    c.args.frame c.skip_done-frame.result c.requires.graph c.requires.stands sk

pub put_out-requires-clause-ready : goal.put_out-requires-clause-ready
put_out-requires-clause-ready c =
    let sk = subst (λ ls. Skips ls c.args.frame c.skip_done-frame.result) c.deref.ensures.value c.skip_done-frame.ensures in
    all-done c.args.saids.now c.args.graph.now c.args.search.done.items c.args.search.spent.items c.args.search.entered.items
    c.args.search.way.items
    c.args.frame c.skip_done-frame.result c.requires.graph c.requires.stands sk
    (got-none c.args.frame.left.items c.deref-2.result.now c.skip_done-frame.result.next (c.deref-2.ensures.value ∙ sk.left)
    (sym c.next_of.ensures ∙ c.in_default.is))

pub enter-requires-clause-stands : goal.enter-requires-clause-stands
enter-requires-clause-stands c =
    let sk = subst (λ ls. Skips ls c.args.frame c.skip_done-frame.result) c.deref.ensures.value c.skip_done-frame.ensures in
    subst (λ fs. Stands c.args.saids.now c.args.graph.now c.args.search.done.items c.args.search.spent.items c.args.search.entered.items fs)
    (sym c.in_ok-push.ensures.items)
    (skipped-stands c.args.saids.now c.args.graph.now c.args.search.done.items c.args.search.spent.items c.args.search.entered.items
    c.args.search.way.items
    c.args.frame c.skip_done-frame.result c.requires.graph c.requires.stands sk)

pub enter-requires-clause-first : goal.enter-requires-clause-first
enter-requires-clause-first c =
    let sk = subst (λ ls. Skips ls c.args.frame c.skip_done-frame.result) c.deref.ensures.value c.skip_done-frame.ensures in
    let x = got c.args.frame.left.items c.deref-2.result.now c.skip_done-frame.result.next c.in-Some.next
    (c.deref-2.ensures.value ∙ sk.left) (sym c.next_of.ensures ∙ c.in-Some.is) in
    subst (λ fs. IsNextOn c.args.saids.now c.args.search.done.items fs c.in-Some.next) (sym c.in_ok-push.ensures.items)
    (next-on c.args.saids.now c.args.graph.now c.args.search.done.items c.args.search.spent.items c.args.search.entered.items
    c.args.search.way.items
    c.args.frame c.skip_done-frame.result c.requires.graph c.requires.stands sk c.in-Some.next x.1 x.0)

pub enter-requires-clause-fresh : goal.enter-requires-clause-fresh
enter-requires-clause-fresh c =
    let sk = subst (λ ls. Skips ls c.args.frame c.skip_done-frame.result) c.deref.ensures.value c.skip_done-frame.ensures in
    let x = got c.args.frame.left.items c.deref-2.result.now c.skip_done-frame.result.next c.in-Some.next
    (c.deref-2.ensures.value ∙ sk.left) (sym c.next_of.ensures ∙ c.in-Some.is) in
    next-unentered c.args.saids.now c.args.graph.now c.args.search.done.items c.args.search.spent.items c.args.search.entered.items
    c.args.search.way.items
    c.args.frame c.skip_done-frame.result c.requires.graph c.requires.stands sk c.in-Some.next x.1 x.0 c.requires.no_circle

pub returns : goal.returns
returns c =
    goes-to c.args.saids.now c.args.graph.now c.args.search _ c.in_ok-search.search c.args.frame c.skip_done-frame.result c.in-Some.next
    (sym c.skip_done-frame.ensures.decl) refl refl c.in_ok-push.ensures.items c.in_ok-search.ensures
