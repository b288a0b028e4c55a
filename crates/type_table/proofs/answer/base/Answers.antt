use Rattle.hare_layout.proofs.SpreadLemmas.{id-tree_at}
use Rattle.type_table.proofs.answer.base.Goals as goal

pub listing-requires : goal.listing-requires
listing-requires c = (id-tree_at c.type_in.new.table.store c.in-Some.base c.in-Some.ensures.some.1 c.in-Some.ensures.some.3).0
