use Rattle.std.proofs.Common.{◌<◌, ◌∙◌, arith}
use Rattle.hare_typed.specs.Typed.{typed_nodes, size_of, sizes_of}
use Rattle.hare_typed.proofs.KidLemmas.{kid_size, branch-map_erase, map_erase-push}
use Rattle.hare_typed.proofs.erased.+erase.Goals as goal

pub erase-returns : goal.erase-returns
erase-returns t c =
    branch-map_erase _ _ c.in_ok-text.text c.t.inside.kids c.args.t.now c.in_ok-kids.kids c.t.view_is
    (c.in_ok-text.ensures ∙ c.bytes.ensures) c.in_ok-kids.ensures

pub erase_kids-erase-requires : goal.erase_kids-erase-requires
erase_kids-erase-requires t c =
    let h : size_of c.in-Some.t.now < sizes_of (typed_nodes c.args.ts.now) =
    kid_size c.args.ts.now c.loop-i.i c.in-Some.t.now c.in-Some.ensures.found in
    (omega arith, tt)

pub erase_kids-loop-i-preserved : goal.erase_kids-loop-i-preserved
erase_kids-loop-i-preserved t c =
    map_erase-push c.args.ts.now c.loop-i.kids c.push.new.self c.loop-i.i c.in-Some.t.now c.in_ok-erase.field-0 c.in-Some.ensures.found
    c.loop-i.invariant c.in_ok-erase.ensures c.in_ok-push.ensures.ok
