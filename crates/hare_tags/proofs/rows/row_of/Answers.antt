use Rattle.hare_tags.proofs.TreeLemmas.{based_within}
use Rattle.hare_tags.proofs.rows.row_of.Goals as goal

pub row-requires : goal.row-requires
row-requires c = based_within c.args.s.now c.args.t _ c.in-Some.ensures.some
