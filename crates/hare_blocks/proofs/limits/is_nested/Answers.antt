use Rattle.std.proofs.Common.{arith}
use Rattle.hare_blocks.proofs.ReadExpressions.Nested.{most_open_behind}
use Rattle.hare_blocks.proofs.limits.is_nested.Goals as goal

pub returns-then-depth-gt64 : goal.returns-then-depth-gt64
returns-then-depth-gt64 c = (
  λ h. absurd (cc),
  λ h.
      let kept = c.loop-token.invariant.1.1 h in
      let now = most_open_behind c.loop-token.depth c.args.tokens.now c.loop-token.token-index c.token-item.result c.loop-token-test.true in
      let here = rw (← c.token-item.is) at now in
      absurd (omega (arith, kept, here, c.open_behind-depth.ensures)),
)
