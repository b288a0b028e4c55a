use Rattle.hare_commas.proofs.WholeFiles.Marks.{ways-ask-at-marks}
use Rattle.hare_commas.proofs.laws.law_ways_ask_at_marks.Goals as goal

pub returns : goal.returns
returns c = ways-ask-at-marks
