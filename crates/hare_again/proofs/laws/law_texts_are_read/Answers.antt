use Rattle.hare_again.proofs.ReadBack.Reading.{texts-are-read}
use Rattle.hare_again.proofs.laws.law_texts_are_read.Goals as goal

pub returns : goal.returns
returns c = texts-are-read
