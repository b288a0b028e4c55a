use Rattle.hare_const.proofs.WordLemmas.{no_capacity}
use Rattle.hare_const.proofs.words.text_words.Goals as goal

pub returns-in-None : goal.returns-in-None
returns-in-None c w o d e = absurd (no_capacity c.args.cells.now w c.in-None.ensures e)
