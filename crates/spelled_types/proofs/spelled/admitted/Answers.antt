use Rattle.hare_layout.proofs.SpreadLemmas.{id-tree_at}
use Rattle.spelled_types.proofs.spelled.admitted.Goals as goal

pub returns-in-Ok-clause-within : goal.returns-in-Ok-clause-within
returns-in-Ok-clause-within c = (id-tree_at c.admit.new.s c.in-Ok.t c.in-Ok.ensures.ok.0 c.in-Ok.ensures.ok.2).0
