use Rattle.std.proofs.Common.{◌≡◌, ◌+◌, ◌-◌, ◌<◌, arith}
use Rattle.hare_typed.specs.Typed.{typed_nodes, size_of, sizes_of}
use Rattle.hare_typed.proofs.KidLemmas.{kid_size}
use Rattle.hare_bytes.proofs.ByteLemmas.{under-tree, among-more}
use Rattle.hare_bytes.proofs.slices.+slices.Goals as goal

pub slices_in-returns : goal.slices_in-returns
slices_in-returns t c =
    under-tree c.args.s.now _ _ c.t.inside.kids c.args.t.now _ _ _ c.t.view_is c.in_ok-inner.ensures c.in_ok-own.ensures c.sum.ensures

pub slices_among-slices_in-requires : goal.slices_among-slices_in-requires
slices_among-slices_in-requires t c =
    let h : size_of c.in-Some.t.now < sizes_of (typed_nodes c.args.kids.now)
    = kid_size c.args.kids.now (c.loop-i.i - 1) c.in-Some.t.now c.in-Some.ensures.found in
    (omega arith, tt)

pub slices_among-loop-i-preserved-in-Some : goal.slices_among-loop-i-preserved-in-Some
slices_among-loop-i-preserved-in-Some t c =
    let q : c.loop-i.i ≡ (c.loop-i.i - 1) + 1 = omega arith in
    among-more c.args.s.now c.args.kids.now (c.loop-i.i - 1) c.loop-i.i c.in-Some.t.now _ _ _ q c.in-Some.ensures.found
    c.in_ok-slices_in.ensures c.sum-all.ensures c.loop-i.invariant
