use Rattle.rule_switch.proofs.TextLemmas.{text_whole}
use Rattle.rule_switch.proofs.texts.text_words.Goals as goal

pub returns : goal.returns
returns c os =
    text_whole c.args.cells.now os c.pointer_of.result c.in_ok-at.at c.in_ok-at.was c.pointer_of.ensures c.size_at.result
    c.in_ok-length.length c.size_at-2.result
    c.in_ok-_capacity._capacity c.in_ok-length.was c.size_at.ensures c.in_ok-_capacity.was c.size_at-2.ensures
