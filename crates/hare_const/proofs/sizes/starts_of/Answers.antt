use Rattle.std.proofs.Common.{sym}
use Rattle.hare_const.proofs.SizeLemmas.{few_row}
use Rattle.hare_const.proofs.sizes.starts_of.Goals as goal

pub starts_in-requires : goal.starts_in-requires
starts_in-requires c = few_row c.args.s.now c.args.t c.in-Some.row.now c.requires (sym c.in-Some.ensures)
