use Rattle.harec_words.specs.Reading.{is_dashes}
use Rattle.harec_words.proofs.PartsOfWords.Lists.{position_or_len-none}
use Rattle.harec_words.proofs.reading.dashes_from.Goals as goal

pub returns-in-None-clause-value : goal.returns-in-None-clause-value
returns-in-None-clause-value c = position_or_len-none is_dashes c.args.from c.args.words.now c.requires c.in-None.ensures.value
