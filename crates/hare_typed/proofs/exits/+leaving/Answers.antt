use Rattle.std.proofs.Common.{◌<◌, arith}
use Rattle.hare_typed.specs.Typed.{typed_nodes, size_of, sizes_of}
use Rattle.hare_typed.specs.Rounds.{frames}
use Rattle.hare_typed.proofs.KidLemmas.{kid_size}
use Rattle.hare_typed.proofs.ExitLemmas.{frames-Inside, leaving-node, leaving-more, leaving-done}
use Rattle.hare_typed.proofs.exits.+leaving.Goals as goal

pub leaving-returns : goal.leaving-returns
leaving-returns t c =
    let inner = frames-Inside c.t.inside.kind c.bytes-label.result c.args.round in
    leaving-node (frames c.args.round.now) _ _ _ c.t.inside.kids c.args.t.now c.bytes-label.result.now c.own_leaving-own.result
    c.leaving_from.result c.saturating_add.result _ c.t.view_is c.bytes-label.ensures inner c.own_leaving-own.ensures
    c.leaving_from.ensures c.saturating_add.ensures

pub leaving_from-leaving-requires : goal.leaving_from-leaving-requires
leaving_from-leaving-requires t c =
    let h : size_of c.in-Some.t.now < sizes_of (typed_nodes c.args.kids.now) =
    kid_size c.args.kids.now c.loop-i.i c.in-Some.t.now c.in-Some.ensures.found in
    (omega arith, tt)

pub leaving_from-loop-i-preserved : goal.leaving_from-loop-i-preserved
leaving_from-loop-i-preserved t c = record {
  within = omega arith;
  counted = leaving-more (frames c.args.round.now) c.args.kids.now c.loop-i.i c.in-Some.t.now c.loop-i.count c.leaving.result
      c.saturating_add-count.result _ _ c.in-Some.ensures.found c.leaving.ensures c.saturating_add-count.ensures c.loop-i.invariant.counted;
}

pub leaving_from-returns : goal.leaving_from-returns
leaving_from-returns t c =
    leaving-done (frames c.args.round.now) c.args.kids.now c.loop-i.i c.loop-i.count _ _ (omega arith) c.loop-i.invariant.within
    c.loop-i.invariant.counted
