use Rattle.std.proofs.Common.{refl, arith}
use Rattle.hare_ways.proofs.Puts.{starting-set, starting-none}
use Rattle.hare_ways.proofs.walk.begin.Goals as goal

pub returns-then-first-len : goal.returns-then-first-len
returns-then-first-len c = λ front rest e k.
    starting-set c.args.start c.args.out.now.items _ front rest c.index-way.result.now c.index-way.result.now c.args.first (omega arith)
    c.index-way.ensures refl e k

pub returns-else-first-len : goal.returns-else-first-len
returns-else-first-len c = λ front rest e k. starting-none c.args.start c.args.out.now.items front rest c.args.first (omega arith) e k
