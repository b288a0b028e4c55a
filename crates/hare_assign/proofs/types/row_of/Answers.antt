use Rattle.hare_assign.proofs.TypeLemmas.{type_at_row, row_within}
use Rattle.hare_assign.proofs.types.row_of.Goals as goal

pub returns : goal.returns
returns c = record {
  row = c.row.ensures.row;
  tree = type_at_row c.args.s.now c.row.ensures.sound c.args.t c.row.result.now c.row.ensures.row;
  within = row_within c.args.s.now c.row.ensures.sound c.args.t c.row.result.now c.row.ensures.row;
}
