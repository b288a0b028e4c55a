use Rattle.std.proofs.Common.{◌∙◌, ◌<◌, sym, arith}
use Rattle.hare_typed.specs.Typed.{typed_nodes, size_of, sizes_of}
use Rattle.hare_typed.proofs.KidLemmas.{kid_size}
use Rattle.hare_const.proofs.TextLemmas.{equality_here, equality_behind}
use Rattle.hare_const.proofs.coherent.+equalities.Goals as goal

pub compares_texts_each-compares_texts-requires : goal.compares_texts_each-compares_texts-requires
compares_texts_each-compares_texts-requires t c =
    let h : size_of c.in-Some.kid.now < sizes_of (typed_nodes c.args.kids.now) =
    kid_size c.args.kids.now c.loop-i.i c.in-Some.kid.now c.in-Some.ensures.found in
    (omega arith, tt)

pub compares_texts_each-returns-then-compares_texts : goal.compares_texts_each-returns-then-compares_texts
compares_texts_each-returns-then-compares_texts t c =
    sym (c.loop-i.invariant
    ∙ equality_here c.args.s.now c.args.kids.now c.loop-i.i c.in-Some.kid.now c.in-Some.ensures.found
    (sym c.compares_texts.ensures ∙ c.if-compares_texts.true))

pub compares_texts_each-loop-i-preserved : goal.compares_texts_each-loop-i-preserved
compares_texts_each-loop-i-preserved t c =
    c.loop-i.invariant
    ∙ equality_behind c.args.s.now c.args.kids.now c.loop-i.i c.in-Some.kid.now c.in-Some.ensures.found
    (sym c.compares_texts.ensures ∙ c.if-compares_texts.false)
