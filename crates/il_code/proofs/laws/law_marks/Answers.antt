use Rattle.il_code.proofs.MarksAndRules.{marks_are_the_rules}
use Rattle.il_code.proofs.laws.law_marks.Goals as goal

pub returns : goal.returns
returns c = marks_are_the_rules
