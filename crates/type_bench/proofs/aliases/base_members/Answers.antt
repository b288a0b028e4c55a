use Rattle.type_bench.proofs.AliasLemmas.{based_within}
use Rattle.type_bench.proofs.aliases.base_members.Goals as goal

pub row-requires : goal.row-requires
row-requires c = based_within c.args.store.now c.args.t c.in-Some.base c.in-Some.ensures.some
