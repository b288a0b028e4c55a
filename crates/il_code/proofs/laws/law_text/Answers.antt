use Rattle.il_code.proofs.UniqueModules.{texts_spell_one}
use Rattle.il_code.proofs.laws.law_text.Goals as goal

pub returns : goal.returns
returns c = texts_spell_one
