use Rattle.std.proofs.Common.{ℕ, ap, arith}
use Rattle.std.specs.Prelude.{not}
use Rattle.hx_base.specs.Memory.{in_range}
use Rattle.il_mem.proofs.StackCuts.{cut_keeps, cut_ends, all_below}
use Rattle.il_mem.proofs.stack.cut.Goals as goal

pub loop-k-preserved : goal.loop-k-preserved
loop-k-preserved c =
    let i = c.loop-k.invariant in
    let most = i.0 in (
      omega (arith, most),
      cut_keeps c.args.at c.args.n c.args.stack.now.items c.loop-k.stack.items c.loop-k.k c.index-in-loop-k.result.now c.requires
          c.loop-k-test.true most i.1 c.index-in-loop-k.ensures
          (λ short. omega (arith, short, c.if-index-end.false, c.saturating_add-end.ensures)),
    )

pub returns-else-index-at : goal.returns-else-index-at
returns-else-index-at c =
    let i = c.loop-k.invariant in
    let start = ap (λ (x : ℕ × ℕ). x.0) c.index.ensures in
    cut_ends c.args.at c.args.n c.args.stack.now.items c.loop-k.stack.items c.loop-k.k c.requires i.0 i.1
    (all_below (λ r. not (in_range c.args.at c.args.n r.0)) c.args.at c.args.stack.now.items c.loop-k.stack.items c.loop-k.k
    c.index.result.now c.requires c.loop-k-test.true i.0 i.1 (omega (arith, start, c.if-index-at.false)))
