use Rattle.std.proofs.Common.{◌<◌, ◌∙◌, arith}
use Rattle.hare_typed.specs.Typed.{typed_nodes, size_of, sizes_of}
use Rattle.hare_typed.proofs.KidLemmas.{kid_size}
use Rattle.hare_finish.proofs.PutTogether.Copies.{marked-map_unnumbered, map_unnumbered-push}
use Rattle.hare_finish.proofs.unnumbered.+unnumbered.Goals as goal

pub copy_unnumbered-returns : goal.copy_unnumbered-returns
copy_unnumbered-returns t c =
    marked-map_unnumbered _ _ c.in_ok-text.text c.in_ok-value.value c.t.inside.kids c.in_ok-kids.kids c.args.t.now c.t.view_is
    (c.in_ok-text.ensures ∙ c.bytes.ensures) c.in_ok-value.ensures c.in_ok-kids.ensures

pub copy_each-copy_unnumbered-requires : goal.copy_each-copy_unnumbered-requires
copy_each-copy_unnumbered-requires t c =
    let h : size_of c.in-Some.t.now < sizes_of (typed_nodes c.args.ts.now) =
    kid_size c.args.ts.now c.loop-i.i c.in-Some.t.now c.in-Some.ensures.found in
    (omega arith, tt)

pub copy_each-loop-i-preserved : goal.copy_each-loop-i-preserved
copy_each-loop-i-preserved t c =
    map_unnumbered-push c.args.ts.now c.loop-i.kids c.push.new.self c.loop-i.i c.in-Some.t.now c.in_ok-copy_unnumbered.field-0
    c.in-Some.ensures.found c.loop-i.invariant c.in_ok-copy_unnumbered.ensures c.in_ok-push.ensures.ok
