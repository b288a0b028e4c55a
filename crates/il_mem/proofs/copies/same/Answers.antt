use Rattle.std.proofs.Common.{◌≡◌, ◌+◌, ◌-◌, ℕ, false, sym, ◌∙◌, subst, arith}
use Rattle.std.specs.Prelude.{bytes_eq}
use Rattle.hx_base.specs.Memory.{bytes_at}
use Rattle.il_mem.proofs.Pieces.{same_more, differs_more}
use Rattle.il_mem.proofs.copies.same.Goals as goal

pub loop-done-preserved : goal.loop-done-preserved
loop-done-preserved c =
    let done = c.loop-done.done in
    let len = c.min-len.result in (
      omega (arith, c.min-len.ensures, c.loop-done-test.true),
      λ m holds. same_more m c.args.a c.args.b done len (c.loop-done.invariant.1 m holds) ∙ sym (c.same_piece.ensures m holds)
          ∙ c.if-not-same_piece.false,
    )

pub returns-then-not-same_piece : goal.returns-then-not-same_piece
returns-then-not-same_piece c = λ m holds.
    let done = c.loop-done.done in
    let len = c.min-len.result in
    let all : done + len + (c.args.n - (done + len)) ≡ c.args.n = omega (arith, c.min-len.ensures, c.loop-done-test.true) in
    let piece = same_more m c.args.a c.args.b done len (c.loop-done.invariant.1 m holds) ∙ sym (c.same_piece.ensures m holds)
    ∙ c.if-not-same_piece.true in
    let differs = differs_more m c.args.a c.args.b (done + len) (c.args.n - (done + len)) piece in
    sym (subst (λ (k : ℕ). bytes_eq (bytes_at m c.args.a k) (bytes_at m c.args.b k) ≡ false) all differs)
