use Rattle.std.proofs.Common.{◌<◌, ap, ◌∙◌, sym, arith}
use Rattle.std.specs.Prelude.{bytes_eq}
use Rattle.hare_typed.specs.Typed.{typed_nodes, size_of, sizes_of}
use Rattle.hare_typed.proofs.KidLemmas.{kid_size}
use Rattle.rule_join.specs.Breaks.{is_break}
use Rattle.rule_join.proofs.BreakLemmas.{empty_is, loop_quiet, loop_hidden, breaks_here, breaks_next}
use Rattle.rule_join.proofs.loops.+breaks.Goals as goal

pub breaks-returns-then-is_empty : goal.breaks-returns-then-is_empty
breaks-returns-then-is_empty t c =
    loop_quiet c.args.name.now c.args.is_nearest _ _ _ c.args.tree.now c.tree.view_is
    (c.if-is_break.ensures ∙ ap (is_break c.args.name.now c.args.is_nearest c.tree.inside.kind) c.bytes-text.ensures)
    c.if-not-is_loop.ensures
    (empty_is c.args.name.now c.if-is_empty.ensures)

pub breaks-returns-then-eq : goal.breaks-returns-then-eq
breaks-returns-then-eq t c =
    loop_hidden c.args.name.now c.args.is_nearest _ _ _ c.args.tree.now c.tree.view_is
    (c.if-is_break.ensures ∙ ap (is_break c.args.name.now c.args.is_nearest c.tree.inside.kind) c.bytes-text.ensures)
    c.if-not-is_loop.ensures c.if-is_empty.ensures
    (c.if-eq.ensures ∙ ap (λ x. bytes_eq x c.args.name.now) c.bytes-text.ensures)

pub breaks_in-breaks-requires : goal.breaks_in-breaks-requires
breaks_in-breaks-requires t c =
    let h : size_of c.in-Some.tree.now < sizes_of (typed_nodes c.args.trees.now) =
    kid_size c.args.trees.now c.loop-i.i c.in-Some.tree.now c.in-Some.ensures.found in
    (omega arith, tt)

pub breaks_in-loop-i-preserved : goal.breaks_in-loop-i-preserved
breaks_in-loop-i-preserved t c =
    c.loop-i.invariant ∙ breaks_next c.args.name.now c.args.is_nearest c.args.trees.now c.loop-i.i c.in-Some.tree.now
    c.in-Some.ensures.found c.if-breaks.ensures

pub breaks_in-returns-then-breaks : goal.breaks_in-returns-then-breaks
breaks_in-returns-then-breaks t c =
    breaks_here c.args.name.now c.args.is_nearest c.args.trees.now c.loop-i.i c.in-Some.tree.now c.in-Some.ensures.found c.if-breaks.ensures
    ∙ sym c.loop-i.invariant
