use Rattle.std.proofs.Common.{◌<◌, arith}
use Rattle.std.proofs.lemmas.Result.{on_ok_weaker}
use Rattle.hare_typed.specs.Typed.{typed_nodes, size_of, sizes_of}
use Rattle.hare_typed.proofs.KidLemmas.{kid_size}
use Rattle.hare_whole.specs.Tags.{allocated_in}
use Rattle.hare_tags.specs.Lists.{allocated_among}
use Rattle.hare_tags.proofs.ListLemmas.{one-more}
use Rattle.hare_tags.proofs.TreeLemmas.{allocated-step, allocated-tree}
use Rattle.hare_tags.proofs.allocated.+allocated.Goals as goal

pub push_allocated-returns : goal.push_allocated-returns
push_allocated-returns t c =
    on_ok_weaker c.push_own.result
    (allocated-tree c.args.s.now _ _ c.t.inside.kids c.args.t.now _ _ _ c.t.view_is c.in_ok-push_allocated_among.ensures)
    c.push_own.ensures

pub push_allocated_among-push_allocated-requires : goal.push_allocated_among-push_allocated-requires
push_allocated_among-push_allocated-requires t c =
    let h : size_of c.in-Some.t.now < sizes_of (typed_nodes c.args.kids.now)
    = kid_size c.args.kids.now c.loop-i.i c.in-Some.t.now c.in-Some.ensures.found in
    (omega arith, tt)

pub push_allocated_among-loop-i-preserved : goal.push_allocated_among-loop-i-preserved
push_allocated_among-loop-i-preserved t c =
    let s = c.args.s.now in
    one-more (allocated_in s) (λ us. allocated_among s (typed_nodes us)) (allocated-step s) _ _ _ c.args.kids.now c.loop-i.i c.in-Some.t.now
    c.in-Some.ensures.found c.in_ok-push_allocated.ensures c.loop-i.invariant
