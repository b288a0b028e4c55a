use Rattle.std.proofs.Common.{◌+◌, ◌-◌, ◌/◌, length, arith}
use Rattle.il_mem.proofs.StackLists.{laid_starts}
use Rattle.il_mem.proofs.stack.begin_by.Goals as goal

pub returns-then-stack-high : goal.returns-then-stack-high
returns-then-stack-high c = record {
  within = omega arith;
  below = λ j d l.
      let start = laid_starts 0 c.args.stack.now j (length c.args.stack.now - 1) d (0, 0) c.requires (omega (arith, l))
      (omega (arith, c.if-high-gt0.true)) in
      omega (arith, start, c.if-stack-high.true);
  above = λ j d l u. absurd (omega (arith, l, u));
}

pub loop-low-preserved-then-stack-middle : goal.loop-low-preserved-then-stack-middle
loop-low-preserved-then-stack-middle c =
    let i = c.loop-low.invariant in
    let most = i.1 in
    let less = c.loop-low-test.true in
    let middle = c.loop-low.low + (c.loop-low.high - c.loop-low.low) / 2 in (
      omega (arith, less),
      most,
      λ j d l.
          let start = laid_starts 0 c.args.stack.now j middle d (0, 0) c.requires (omega (arith, l)) (omega (arith, less, most)) in
          omega (arith, start, c.if-stack-middle.true),
      i.3,
    )

pub loop-low-preserved : goal.loop-low-preserved
loop-low-preserved c =
    let i = c.loop-low.invariant in
    let most = i.1 in
    let less = c.loop-low-test.true in
    let middle = c.loop-low.low + (c.loop-low.high - c.loop-low.low) / 2 in (
      omega (arith, less),
      omega (arith, less, most),
      i.2,
      λ j d l u.
          let start = laid_starts 0 c.args.stack.now middle j (0, 0) d c.requires l u in
          omega (arith, start, c.if-stack-middle.false),
    )
