use Rattle.std.proofs.Common.{◌<◌, ◌+◌, length, arith}
use Rattle.hare_const.proofs.WordLemmas.{no_size_short}
use Rattle.hare_const.proofs.words.size_at.Goals as goal

pub returns-else-read : goal.returns-else-read
returns-else-read c n =
    let short : length c.args.cells.now < c.args.at + 8 = grind (arith, c.read.ensures.known, c.if-read.false) in
    no_size_short c.args.at c.args.cells.now n short
