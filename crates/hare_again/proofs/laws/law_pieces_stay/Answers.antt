use Rattle.hare_again.proofs.LaidAsBefore.PiecesAgain.{pieces-stay}
use Rattle.hare_again.proofs.laws.law_pieces_stay.Goals as goal

pub returns : goal.returns
returns c = pieces-stay
