use Rattle.std.proofs.Common.{◌≡◌, ◌+◌, ◌-◌, ℕ, ◌∙◌, subst, arith}
use Rattle.hx_base.specs.Memory.{bytes_at, write}
use Rattle.il_mem.specs.Holds.{HoldsBytes}
use Rattle.il_mem.proofs.Pieces.{up_more}
use Rattle.il_mem.proofs.copies.move_up.Goals as goal

pub loop-left-preserved : goal.loop-left-preserved
loop-left-preserved c =
    let old = c.loop-left.left in
    let len = c.min-len.result in
    let left = old - len in
    let n = c.args.n in
    let to = c.args.to in
    let from = c.args.from in
    let i = c.loop-left.invariant in
    let split : old ≡ left + len = omega (arith, c.min-len.ensures) in
    let more : len + (n - old) ≡ n - left = omega (arith, c.min-len.ensures, i.0) in (
      omega (arith, i.0),
      λ m holds.
          let before = subst (λ (x : ℕ). HoldsBytes c.loop-left.pages (write m (to + x) (bytes_at m (from + x) (n - old)))) split
          (i.1 m holds) in
          let copied = c.copy.ensures.bytes (write m (to + (left + len)) (bytes_at m (from + (left + len)) (n - old))) before in
          let after = up_more c.copy.new.pages m to from left len (n - old) c.requires.above copied in
          subst (λ (x : ℕ). HoldsBytes c.copy.new.pages (write m (to + left) (bytes_at m (from + left) x))) more after,
      c.copy.ensures.pages ∙ i.2,
    )

pub returns-clause-bytes : goal.returns-clause-bytes
returns-clause-bytes c = λ m holds.
    let none : c.loop-left.left ≡ 0 = omega (arith, c.loop-left-test.false) in
    let done = subst (λ (x : ℕ). HoldsBytes c.loop-left.pages (write m (c.args.to + x) (bytes_at m (c.args.from + x) (c.args.n - x)))) none
    (c.loop-left.invariant.1 m holds) in
    let to : c.args.to + 0 ≡ c.args.to = omega arith in
    let from : c.args.from + 0 ≡ c.args.from = omega arith in
    let all : c.args.n - 0 ≡ c.args.n = omega arith in
    let done' = subst (λ (x : ℕ). HoldsBytes c.loop-left.pages (write m x (bytes_at m (c.args.from + 0) (c.args.n - 0)))) to done in
    let done'' = subst (λ (x : ℕ). HoldsBytes c.loop-left.pages (write m c.args.to (bytes_at m (c.args.from + 0) x))) all done' in
    subst (λ (x : ℕ). HoldsBytes c.loop-left.pages (write m c.args.to (bytes_at m x c.args.n))) from done''
