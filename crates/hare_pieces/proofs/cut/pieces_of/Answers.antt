use Rattle.hare_pieces.proofs.OneList.Once.{only_pieces}
use Rattle.hare_pieces.proofs.cut.pieces_of.Goals as goal

pub returns-clause-only : goal.returns-clause-only
returns-clause-only c = only_pieces c.args.src.now c.cut.result c.cut.ensures
