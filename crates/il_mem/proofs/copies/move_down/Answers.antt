use Rattle.std.proofs.Common.{◌≡◌, ℕ, ◌∙◌, subst, arith}
use Rattle.hx_base.specs.Memory.{bytes_at, write}
use Rattle.il_mem.specs.Holds.{HoldsBytes}
use Rattle.il_mem.proofs.Pieces.{down_more}
use Rattle.il_mem.proofs.copies.move_down.Goals as goal

pub loop-done-preserved : goal.loop-done-preserved
loop-done-preserved c =
    let done = c.loop-done.done in
    let len = c.min-len.result in
    let i = c.loop-done.invariant in (
      omega (arith, c.min-len.ensures, c.loop-done-test.true),
      λ m holds. down_more c.copy.new.pages m c.args.to c.args.from done len c.requires.below
          (c.copy.ensures.bytes (write m c.args.to (bytes_at m c.args.from done)) (i.1 m holds)),
      c.copy.ensures.pages ∙ i.2,
    )

pub returns-clause-bytes : goal.returns-clause-bytes
returns-clause-bytes c = λ m holds.
    let all : c.loop-done.done ≡ c.args.n = omega (arith, c.loop-done.invariant.0, c.loop-done-test.false) in
    subst (λ (k : ℕ). HoldsBytes c.loop-done.pages (write m c.args.to (bytes_at m c.args.from k))) all (c.loop-done.invariant.1 m holds)
