use Rattle.hare_again.proofs.LaidAsBefore.Comments.{comments-stay}
use Rattle.hare_again.proofs.laws.law_comments_stay.Goals as goal

pub returns : goal.returns
returns c = comments-stay
