use Rattle.hare_layout.proofs.SpreadLemmas.{id-tree_at}
use Rattle.body_table.proofs.types.admitted.Goals as goal

pub returns-clause-within : goal.returns-clause-within
returns-clause-within c = (id-tree_at c.admit.new.s c.in-Ok.t c.in-Ok.ensures.ok.0 c.in-Ok.ensures.ok.2).0
