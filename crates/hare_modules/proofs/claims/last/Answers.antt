use Rattle.std.proofs.Common.{arith}
use Rattle.hare_modules.proofs.CollectLemmas.{if_some, last_of-there}
use Rattle.hare_modules.proofs.claims.last.Goals as goal

pub returns-clause-found : goal.returns-clause-found
returns-clause-found c = if_some c.get.result c.get.ensures.found
    (λ t e. last_of-there c.args.trees.now _ t.now e (omega (arith, c.len-count.ensures, c.if-count-eq0.false)))
