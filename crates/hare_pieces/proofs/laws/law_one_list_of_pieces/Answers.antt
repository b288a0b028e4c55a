use Rattle.hare_pieces.proofs.OneList.Once.{one_list_of_pieces}
use Rattle.hare_pieces.proofs.laws.law_one_list_of_pieces.Goals as goal

pub returns : goal.returns
returns c = one_list_of_pieces
