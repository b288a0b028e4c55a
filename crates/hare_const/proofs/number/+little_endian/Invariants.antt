use Rattle.std.proofs.Common.{length}
use Rattle.hare_const.proofs.number.+little_endian.Given as goal

abbrev pub decreases-little_endian : goal.decreases-little_endian
decreases-little_endian l = length l.cells.now
