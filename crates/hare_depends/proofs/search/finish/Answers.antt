use Rattle.std.proofs.Common.{◌≡◌, length, refl, subst, arith}
use Rattle.hare_graph.proofs.Elements.{no-elements}
use Rattle.hare_depends.specs.Search.{Stands}
use Rattle.hare_depends.proofs.SearchLemmas.{first-on, first-unentered, finishing-start, finishing-on, finished, goes-less, at-next, tested-true, tested-false}
use Rattle.hare_depends.proofs.search.finish.Goals as goal

pub returns-then-is_some : goal.returns-then-is_some
returns-then-is_some c =
    at-next c.args.saids.now c.args.graph.now c.args.decl c.args.search c.requires.at
    ((c.requires.at.stands.spent.tells c.args.decl c.requires.there).0
    (tested-true c.args.search.spent.items c.deref.result.now c.args.decl c.label_of.result c.is_some.result c.deref.ensures.value
    c.label_of.ensures c.is_some.ensures c.if-is_some.true))

pub enter-requires-clause-first : goal.enter-requires-clause-first
enter-requires-clause-first c =
    first-on c.args.saids.now c.args.graph.now c.args.decl c.args.search c.requires.at c.requires.there
    (tested-false c.args.search.spent.items c.deref.result.now c.args.decl c.label_of.result c.is_some.result c.deref.ensures.value
    c.label_of.ensures c.is_some.ensures c.if-is_some.false)

pub enter-requires-clause-fresh : goal.enter-requires-clause-fresh
enter-requires-clause-fresh c =
    first-unentered c.args.saids.now c.args.graph.now c.args.decl c.args.search c.requires.at c.requires.there
    (tested-false c.args.search.spent.items c.deref.result.now c.args.decl c.label_of.result c.is_some.result c.deref.ensures.value
    c.label_of.ensures c.is_some.ensures c.if-is_some.false)

pub loop-frame-init : goal.loop-frame-init
loop-frame-init c = finishing-start c.args.saids.now c.args.graph.now c.args.decl c.args.search c.in_ok-search.search c.requires.at
    c.in_ok-search.ensures

pub go_on-requires-clause-stands : goal.go_on-requires-clause-stands
go_on-requires-clause-stands c =
    subst (λ fs. Stands c.args.saids.now c.args.graph.now c.loop-frame.search.done.items c.loop-frame.search.spent.items
    c.loop-frame.search.entered.items fs)
    c.in-Some.ensures.items c.loop-frame.invariant.stands

pub loop-frame-smaller : goal.loop-frame-smaller
loop-frame-smaller c = goes-less c.loop-frame.search
    (record {
      done = c.loop-frame.search.done;
      spent = c.loop-frame.search.spent;
      entered = c.loop-frame.search.entered;
      way =
          c.pop.new.self;
    }) c.in_ok-search-2.search c.in-Some.frame refl c.in-Some.ensures.items c.in_ok-search-2.ensures.less

pub loop-frame-preserved : goal.loop-frame-preserved
loop-frame-preserved c =
    finishing-on c.args.saids.now c.args.graph.now c.args.decl c.loop-frame.search _ c.in_ok-search-2.search c.in-Some.frame
    c.loop-frame.invariant refl
    c.in-Some.ensures.items c.in_ok-search-2.ensures

pub returns : goal.returns
returns c =
    let none : length c.loop-frame.search.way.items ≡ 0 = omega (arith, c.in_default.ensures.cases) in
    let still : length c.pop.new.self.items ≡ 0 = omega (arith, c.in_default.ensures.cases, c.in_default.ensures.len) in
    finished c.args.saids.now c.args.graph.now c.args.decl c.loop-frame.search _ refl refl refl c.loop-frame.invariant
    (no-elements c.loop-frame.search.way.items none) (no-elements c.pop.new.self.items still)
