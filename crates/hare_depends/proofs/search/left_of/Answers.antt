use Rattle.std.proofs.Common.{◌≡◌, ◌<◌, length, filter, ap, ◌∙◌, subst, arith}
use Rattle.std.proofs.lemmas.List.Sorted.{IsNonDecreasingBy-from_sort}
use Rattle.hare_graph.specs.Graphs.{Spreads, AreNew}
use Rattle.hare_depends.specs.Search.{source, is_below}
use Rattle.hare_depends.proofs.SearchLemmas.{left-are}
use Rattle.hare_depends.proofs.search.left_of.Goals as goal

pub returns : goal.returns
returns c =
    let g = c.args.graph.now in
    let old = c.args.spent.now.items in
    let mid = c.spread.new.labels.items in
    let found = c.in_ok-found.found.items in
    let there : source c.args.count c.args.decl < length c.args.graph.now = omega arith in
    left-are g (source c.args.count c.args.decl) 0 old mid found c.requires.stays c.requires.size there c.requires.closed
    (subst (λ n. Spreads g n 0 old mid) c.source.ensures c.in_ok-found.ensures.spreads)
    (subst (λ n. AreNew g n old mid found) c.source.ensures c.in_ok-found.ensures.nodes)
    c.args.count c.clear.new.labels.items c.deref.result.now c.in_ok-left.left.items c.sort_unstable.new.self.items
    c.clear.ensures c.deref.ensures.value (c.in_ok-left.ensures ∙ ap (filter (is_below c.args.count)) c.deref-2.ensures.value)
    c.sort_unstable.ensures.permutation
    (IsNonDecreasingBy-from_sort (λ x. x) c.sort_unstable.new.self.items c.sort_unstable.ensures.sorted)
