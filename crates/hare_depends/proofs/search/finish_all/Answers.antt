use Rattle.std.proofs.Common.{arith}
use Rattle.hare_depends.proofs.SearchLemmas.{in-order}
use Rattle.hare_depends.proofs.search.finish_all.Goals as goal

pub returns : goal.returns
returns c = in-order c.args.saids.now c.args.graph.now c.loop-decl.decl c.loop-decl.search c.loop-decl.invariant (omega arith)
