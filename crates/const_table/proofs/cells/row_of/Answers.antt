-- A base is in the store.
use Rattle.hare_typed.proofs.GivenLemmas.{base_within}
use Rattle.const_table.proofs.cells.row_of.Goals as goal

pub row-requires : goal.row-requires
row-requires c = base_within c.args.s.now _ c.in_ok-base.base c.in_ok-base.ensures.some
