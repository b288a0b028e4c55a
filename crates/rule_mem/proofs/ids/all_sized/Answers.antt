use Rattle.std.proofs.Common.{sym, arith}
use Rattle.rule_mem.proofs.IdsLemmas.{sized-not, sized-next, sized-end}
use Rattle.rule_mem.proofs.ids.all_sized.Goals as goal

pub has_size-requires : goal.has_size-requires
has_size-requires c = c.requires c.t-item.result (c.loop-t.t-index, c.loop-t-test.true, sym c.t-item.is)

pub returns-then-not-has_size : goal.returns-then-not-has_size
returns-then-not-has_size c f l =
    sized-not f c.args.types.now c.loop-t.t-index c.t-item.result c.has_size.result _ c.loop-t-test.true c.t-item.is c.if-not-has_size.true
    (c.has_size.ensures f l) (c.loop-t.invariant f l)

pub loop-t-preserved : goal.loop-t-preserved
loop-t-preserved c f l =
    sized-next f c.args.types.now c.loop-t.t-index c.t-item.result c.has_size.result _ c.loop-t-test.true c.t-item.is
    c.if-not-has_size.false (c.has_size.ensures f l) (c.loop-t.invariant f l)

pub returns : goal.returns
returns c f l = sized-end f c.args.types.now c.loop-t.t-index _ c.loop-t-test.false (c.loop-t.invariant f l)
