use Rattle.std.proofs.Common.{◌<◌, arith}
use Rattle.hare_typed.specs.Typed.{typed_nodes, size_of, sizes_of}
use Rattle.hare_typed.proofs.KidLemmas.{kid_size}
use Rattle.hare_whole.specs.Tags.{written_in, written_among}
use Rattle.hare_tags.proofs.ListLemmas.{one-more}
use Rattle.hare_tags.proofs.TreeLemmas.{written-step}
use Rattle.hare_tags.proofs.written.+written.Goals as goal

pub push_written_among-push_written-requires : goal.push_written_among-push_written-requires
push_written_among-push_written-requires t c =
    let h : size_of c.in-Some.t.now < sizes_of (typed_nodes c.args.kids.now)
    = kid_size c.args.kids.now c.loop-i.i c.in-Some.t.now c.in-Some.ensures.found in
    (omega arith, tt)

pub push_written_among-loop-i-preserved : goal.push_written_among-loop-i-preserved
push_written_among-loop-i-preserved t c =
    let s = c.args.s.now in
    let b = c.args.are_members in
    one-more (written_in s b) (λ us. written_among s b (typed_nodes us)) (written-step s b) _ _ _ c.args.kids.now c.loop-i.i c.in-Some.t.now
    c.in-Some.ensures.found c.in_ok-push_written.ensures c.loop-i.invariant
