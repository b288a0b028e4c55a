use Rattle.std.proofs.Common.{arith}
use Rattle.hare_const.proofs.SettledLemmas.{lower_part}
use Rattle.hare_const.proofs.settled.has_parts.Goals as goal

pub returns-else-count-eq0 : goal.returns-else-count-eq0
returns-else-count-eq0 c = (
  λ e k l. lower_part c.args.s.now c.args.of k _ c.requires (c.has_part.ensures.0 e) (omega (arith, l)),
  λ h. c.has_part.ensures.1 (h _ (omega arith)),
)
