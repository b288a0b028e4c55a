use Rattle.hare_const.proofs.NumberLemmas.{eight_bytes}
use Rattle.hare_const.proofs.number.word_of.Goals as goal

pub returns : goal.returns
returns c =
    eight_bytes c.args.number c.le_byte.result c.le_byte-2.result c.le_byte-3.result c.le_byte-4.result c.le_byte-5.result c.le_byte-6.result
    c.le_byte-7.result c.le_byte-8.result c.le_byte.ensures c.le_byte-2.ensures c.le_byte-3.ensures c.le_byte-4.ensures c.le_byte-5.ensures
    c.le_byte-6.ensures c.le_byte-7.ensures c.le_byte-8.ensures
