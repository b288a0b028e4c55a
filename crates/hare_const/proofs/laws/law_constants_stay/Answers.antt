use Rattle.hare_const.proofs.LaterTrees.{constants_stay}
use Rattle.hare_const.proofs.laws.law_constants_stay.Goals as goal

pub returns : goal.returns
returns c = constants_stay
