use Rattle.std.proofs.Common.{◌≡◌, ◌+◌, ◌-◌, ◌<◌, suc, length, drop, ap, sym, ◌∙◌, arith}
use Rattle.hare_typed.specs.Typed.{typed_nodes, size_of, sizes_of}
use Rattle.hare_typed.specs.Copies.{exits_each}
use Rattle.hare_typed.proofs.KidLemmas.{kid_size}
use Rattle.hare_costs.specs.Amounts.{plus, times}
use Rattle.hare_costs.proofs.CostLemmas.{cost-tree, cost-defer, cost-kids}
use Rattle.hare_costs.proofs.LeavingLemmas.{meets-tree, meets-defer, meets-kids, meets-length}
use Rattle.hare_costs.proofs.costs.+cost.Goals as goal

pub cost_of_tree-returns-clause-value : goal.cost_of_tree-returns-clause-value
cost_of_tree-returns-clause-value t c =
    c.plus.ensures ∙ ap (plus c.in_ok-inner.inner) c.own_cost.ensures
    ∙ cost-tree c.args.s.now c.has_defers.result _ _ (typed_nodes c.t.inside.kids) c.args.t.now c.in_ok-inner.inner c.t.view_is
    c.has_defers.ensures c.in_ok-inner.ensures.value

pub cost_of_tree-returns-clause-met : goal.cost_of_tree-returns-clause-met
cost_of_tree-returns-clause-met t c =
    let l : c.len-before.result ≡ length c.args.exits.now.items = omega arith in
    meets-tree c.args.exits.now.items _ _ _ c.len-before.result c.bytes.result.now _ _ (typed_nodes c.t.inside.kids) c.args.t.now
    c.t.view_is c.bytes.ensures l
    c.in_ok-inner.ensures.met c.in_ok-push_own.ensures c.keep_leaving.ensures

pub cost_of_kid-returns-clause-value : goal.cost_of_kid-returns-clause-value
cost_of_kid-returns-clause-value t c =
    c.plus.ensures ∙ ap (λ x. plus x c.own_cost.result) c.once_and.ensures
    ∙ ap (plus (times (suc c.args.behind) c.in_ok-inner.inner)) c.own_cost.ensures
    ∙ cost-defer c.args.s.now c.args.behind c.args.is_block _ _ (typed_nodes c.t.inside.kids) c.args.t.now c.in_ok-inner.inner c.t.view_is
    (sym c.is_defer.ensures ∙ c.if-not-is_defer.false) c.if-not-is_block.false c.in_ok-inner.ensures.value

pub cost_of_kid-returns-clause-met : goal.cost_of_kid-returns-clause-met
cost_of_kid-returns-clause-met t c =
    let l : c.len-before.result ≡ length c.args.exits.now.items = omega arith in
    meets-defer c.args.exits.now.items _ _ c.len-before.result _ _ _ (typed_nodes c.t.inside.kids) c.args.t.now c.t.view_is
    (sym c.is_defer.ensures ∙ c.if-not-is_defer.false)
    l c.in_ok-inner.ensures.met c.truncate.ensures.items

pub cost_of_kids-cost_of_kid-requires : goal.cost_of_kids-cost_of_kid-requires
cost_of_kids-cost_of_kid-requires t c =
    let h : size_of c.in-Some.t.now < sizes_of (typed_nodes c.args.kids.now)
    = kid_size c.args.kids.now (c.loop-i.i - 1) c.in-Some.t.now c.in-Some.ensures.found in
    (omega arith, tt)

pub cost_of_kids-loop-i-preserved-in-Some : goal.cost_of_kids-loop-i-preserved-in-Some
cost_of_kids-loop-i-preserved-in-Some t c =
    let q : c.loop-i.i ≡ (c.loop-i.i - 1) + 1 = omega arith in
    let n = meets-length _ _ _ c.loop-i.invariant.met in
    let l : c.len.result - c.len-before.result ≡ length (exits_each (typed_nodes (drop c.loop-i.i c.args.kids.now))) = omega (arith, n) in
    record {
      cost =
          c.plus-all.ensures
          ∙ cost-kids c.args.s.now c.args.is_block c.args.kids.now (c.loop-i.i - 1) c.loop-i.i _ c.in-Some.t.now _ _ q
          c.in-Some.ensures.found l c.in_ok-cost_of_kid.ensures.value c.loop-i.invariant.cost;
      met = meets-kids _ _ _ c.args.kids.now (c.loop-i.i - 1) c.loop-i.i c.in-Some.t.now q c.in-Some.ensures.found c.loop-i.invariant.met
          c.in_ok-cost_of_kid.ensures.met;
    }
