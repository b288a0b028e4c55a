use Rattle.hare_layout.proofs.SpreadLemmas.{id-tree_at}
use Rattle.type_table.proofs.unions.is_union_type.Goals as goal

pub row-requires : goal.row-requires
row-requires c = (id-tree_at c.args.store.now c.in-Some.base c.in-Some.ensures.some.1 c.in-Some.ensures.some.3).0
