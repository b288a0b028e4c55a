use Rattle.std.proofs.Common.{◌<◌, length, refl, subst, arith}
use Rattle.hare_graph.specs.Graphs.{Spreads}
use Rattle.hare_depends.proofs.SearchLemmas.{last-there, puts-out}
use Rattle.hare_depends.proofs.search.put_out.Goals as goal

pub overflow_cast-decl : goal.overflow_cast-decl
overflow_cast-decl c =
    let there : c.args.frame.decl < length c.args.saids.now =
    last-there c.args.saids.now c.args.graph.now c.args.search.done.items c.args.search.spent.items c.args.search.entered.items
    c.args.search.way.items c.args.frame c.requires.stands in
    omega arith

pub source-requires-clause-there : goal.source-requires-clause-there
source-requires-clause-there c =
    last-there c.args.saids.now c.args.graph.now c.args.search.done.items c.args.search.spent.items c.args.search.entered.items
    c.args.search.way.items c.args.frame c.requires.stands

pub index_mut-requires : goal.index_mut-requires
index_mut-requires c =
    let there : c.args.frame.decl < length c.args.saids.now =
    last-there c.args.saids.now c.args.graph.now c.args.search.done.items c.args.search.spent.items c.args.search.entered.items
    c.args.search.way.items c.args.frame c.requires.stands in
    omega (arith, c.in_ok-flood.ensures.size, c.requires.stands.spent.size, c.requires.graph.nodes)

pub returns : goal.returns
returns c =
    puts-out c.args.saids.now c.args.graph.now c.args.search _ c.args.frame 0 c.flood.new.labels.items c.requires.graph c.requires.no_circle
    c.requires.stands c.requires.ready
    (subst (λ n. Spreads c.args.graph.now n 0 c.args.search.spent.items c.flood.new.labels.items) c.source.ensures c.in_ok-flood.ensures)
    c.in_ok-push.ensures.items refl refl refl
