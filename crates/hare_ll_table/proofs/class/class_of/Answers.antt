use Rattle.hare_ll_table.proofs.SeenTokens.Classified.{class_of_name, class_of_keyword}
use Rattle.hare_ll_table.proofs.class.class_of.Goals as goal

pub returns-in-Name-clause-value : goal.returns-in-Name-clause-value
returns-in-Name-clause-value c = class_of_name c.args.token.now _ _ _ _ c.in-Name.is c.bytes-text.ensures c.has_text_alone.ensures
    c.name_class.ensures.value c.when.ensures.value

pub returns-in-Keyword-clause-value : goal.returns-in-Keyword-clause-value
returns-in-Keyword-clause-value c =
    class_of_keyword c.args.token.now _ _ _ _ c.in-Keyword.is c.bytes-text.ensures c.has_text_alone-in-Keyword.ensures
    c.keyword_class.ensures.value c.when-in-Keyword.ensures.value
