use Rattle.hare_automaton.specs.Classes.{keyword_signs}
use Rattle.hare_ll_table.proofs.SeenTokens.Classified.{sign_or_other}
use Rattle.hare_ll_table.proofs.class.keyword_class.Goals as goal

pub returns-in-None-clause-value : goal.returns-in-None-clause-value
returns-in-None-clause-value c = sign_or_other _ keyword_signs c.args.text.now _ _ c.keyword_sign.ensures c.in-None.is
    c.word_class.ensures.value
