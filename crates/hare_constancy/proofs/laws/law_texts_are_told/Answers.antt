use Rattle.hare_constancy.proofs.Texts.Told.{traced_texts_are_told}
use Rattle.hare_constancy.proofs.Well.Whole.{well-traced, asked-traced}
use Rattle.hare_constancy.proofs.laws.law_texts_are_told.Goals as goal

pub returns-clause-well : goal.returns-clause-well
returns-clause-well c = well-traced

pub returns-clause-asked : goal.returns-clause-asked
returns-clause-asked c = asked-traced

pub returns-clause-told : goal.returns-clause-told
returns-clause-told c = traced_texts_are_told
