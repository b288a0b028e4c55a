use Rattle.std.proofs.Common.{arith}
use Rattle.hare_flow.proofs.YieldLemmas.{kept_end}
use Rattle.hare_flow.proofs.yields.kept_at.Goals as goal

pub returns : goal.returns
returns c = kept_end c.args.level c.args.yields.now c.loop-i.i c.loop-i.kept.items _ (omega arith) c.loop-i.invariant
