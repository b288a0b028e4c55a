use Rattle.std.proofs.Common.{◌<◌, true, false, drop, sym, ◌∙◌, arith}
use Rattle.hare_typed.specs.Typed.{typed_nodes, size_of, sizes_of}
use Rattle.hare_typed.proofs.KidLemmas.{kid_size}
use Rattle.hare_typed.proofs.ExitLemmas.{frames-Nothing}
use Rattle.hare_typed.proofs.CopyLemmas.{same-number, other-number, found-among, found-itself, found-deferred, found-defer, found-here, found-later}
use Rattle.hare_typed.proofs.copied.+times.Goals as goal

pub times_among-times_in_kid-requires : goal.times_among-times_in_kid-requires
times_among-times_in_kid-requires t c =
    let h : size_of c.in-Some.t.now < sizes_of (typed_nodes c.args.kids.now) =
    kid_size c.args.kids.now c.loop-i.i c.in-Some.t.now c.in-Some.ensures.found in
    (omega arith, tt)

pub times_among-returns-in-Some-times_in_kid : goal.times_among-returns-in-Some-times_in_kid
times_among-returns-in-Some-times_in_kid t c =
    found-here c.args.is_block c.args.node c.in-Some-times_in_kid.times c.args.kids.now c.loop-i.i c.in-Some.t.now c.in-Some.ensures.found
    c.in-Some-times_in_kid.ensures c.loop-i.invariant

pub times_among-loop-i-preserved : goal.times_among-loop-i-preserved
times_among-loop-i-preserved t c =
    found-later c.args.is_block c.args.node c.args.kids.now c.loop-i.i c.in-Some.t.now c.in-Some.ensures.found
    c.in_default-times_in_kid.ensures c.loop-i.invariant

pub times_in-returns-in-Some : goal.times_in-returns-in-Some
times_in-returns-in-Some t c =
    found-among c.args.node c.in-Some.times c.has_defers.result _ _ (typed_nodes c.t.inside.kids) c.args.t.now c.t.view_is
    c.has_defers.ensures c.in-Some.ensures

pub times_in-returns-then-t-node : goal.times_in-returns-then-t-node
times_in-returns-then-t-node t c =
    found-itself c.args.node true c.has_defers.result _ _ (typed_nodes c.t.inside.kids) c.args.t.now c.t.view_is c.has_defers.ensures
    c.in_default.ensures (same-number _ _ c.if-t-node.true)

pub times_in-returns-else-t-node : goal.times_in-returns-else-t-node
times_in-returns-else-t-node t c =
    found-itself c.args.node false c.has_defers.result _ _ (typed_nodes c.t.inside.kids) c.args.t.now c.t.view_is c.has_defers.ensures
    c.in_default.ensures (other-number _ _ c.if-t-node.false)

pub times_in_kid-returns-in-Some : goal.times_in_kid-returns-in-Some
times_in_kid-returns-in-Some t c =
    found-deferred c.args.node c.in-Some.times c.leaving_from.result c.saturating_add-runs.result c.saturating_mul.result c.args.is_block _
    _ _ (typed_nodes c.t.inside.kids) (typed_nodes (drop c.args.behind c.args.kids.now)) c.args.t.now c.t.view_is
    (sym c.is_defer.ensures ∙ c.if-not-is_defer.false) c.in-Some.ensures frames-Nothing c.leaving_from.ensures
    c.saturating_add-runs.ensures c.saturating_mul.ensures c.if-not-is_block.false

pub times_in_kid-returns-then-t-node : goal.times_in_kid-returns-then-t-node
times_in_kid-returns-then-t-node t c =
    found-defer c.args.node _ true _ _ (typed_nodes c.t.inside.kids) c.args.t.now c.t.view_is
    (sym c.is_defer.ensures ∙ c.if-not-is_defer.false) c.in_default.ensures (same-number _ _ c.if-t-node.true)

pub times_in_kid-returns-else-t-node : goal.times_in_kid-returns-else-t-node
times_in_kid-returns-else-t-node t c =
    found-defer c.args.node _ false _ _ (typed_nodes c.t.inside.kids) c.args.t.now c.t.view_is
    (sym c.is_defer.ensures ∙ c.if-not-is_defer.false) c.in_default.ensures (other-number _ _ c.if-t-node.false)
