use Rattle.std.proofs.Common.{arith}
use Rattle.hare_flow.proofs.WriteLemmas.{written_end}
use Rattle.hare_flow.proofs.coercions.write_all.Goals as goal

pub returns : goal.returns
returns c = written_end c.args.settled.now c.loop-s.s-index c.loop-s.cs _ (omega arith) c.loop-s.invariant
