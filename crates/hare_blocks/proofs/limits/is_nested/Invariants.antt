use Rattle.std.proofs.Common.{◌≤◌, ◌↔◌, drop}
use Rattle.hare_blocks.specs.Class.{most_open}
use Rattle.hare_blocks.proofs.limits.is_nested.Given as goal

-- the limit is kept so far, and what is left decides
abbrev pub invariant-loop-token : goal.invariant-loop-token
invariant-loop-token l = (l.depth ≤ 64) × (most_open l.depth (drop l.token-index l.tokens) ≤ 64 ↔ most_open 0 l.tokens ≤ 64)
