use Rattle.std.proofs.Common.{◌≡◌, ◌+◌, ◌*◌, ◌-◌, ◌≤◌, length, refl, arith}
use Rattle.hare_typed.specs.Repeats.{with_repeat}
use Rattle.hare_typed.proofs.RepeatLemmas.{length-with_repeat}
use Rattle.hare_typed.proofs.OriginLemmas.{within-before, within-behind, within-around, copies-fit}
use Rattle.hare_typed.proofs.cells.part.origin_of.Goals as goal

pub returns-then-to-r : goal.returns-then-to-r
returns-then-to-r c cs h k = (
  c.requires.order,
  omega (arith, c.if-to-r.true, h),
  within-before c.args.r cs c.args.from c.args.to c.requires.order c.if-to-r.true h,
)

pub returns-then-from-r : goal.returns-then-from-r
returns-then-from-r c cs h k =
    let r = c.args.r in
    let m = r.more * (r.to - r.from) in
    let copies : m ≤ c.args.to - r.to = copies-fit (c.args.to - r.to) (r.to - r.from) r.more c.if-to-r-2.false in
    let long : length (with_repeat r cs) ≡ length cs + m = length-with_repeat r cs h in (
      omega (arith, copies, c.if-to-r.false, c.if-from-r.true, c.requires.proper),
      omega (arith, long, k),
      omega (arith, c.requires.proper, c.if-from-r.true),
      omega (arith, copies, c.if-to-r.false, c.if-from-r.true, c.requires.proper),
      within-around r cs c.args.from c.args.to m c.requires.proper h refl c.if-from-r.true
          (omega (arith, copies, c.if-to-r.false)) k,
    )

pub returns-then-from-r-2 : goal.returns-then-from-r-2
returns-then-from-r-2 c cs h k =
    let r = c.args.r in
    let m = r.more * (r.to - r.from) in
    let long : length (with_repeat r cs) ≡ length cs + m = length-with_repeat r cs h in (
      omega (arith, c.requires.order),
      omega (arith, long, k),
      within-behind r cs c.args.from c.args.to m h refl c.if-from-r-2.true c.requires.order,
    )
