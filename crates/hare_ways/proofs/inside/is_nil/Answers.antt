use Rattle.hare_ways.proofs.KidLemmas.{nil-is}
use Rattle.hare_ways.proofs.inside.is_nil.Goals as goal

pub returns : goal.returns
returns c = nil-is c.args.kids.now c.args.from c.len.result c.len.ensures
