-- 8, 16 and 1 are powers of two.
use Rattle.std.proofs.Common.{refl}
use Rattle.il_tests.proofs.base.numbers_are_cut_and_put_together.Goals as goal

pub round_up-requires-clause-power : goal.round_up-requires-clause-power
round_up-requires-clause-power g c = (3, refl)

pub round_up-requires-2-clause-power : goal.round_up-requires-2-clause-power
round_up-requires-2-clause-power g c = (4, refl)
