use Rattle.std.proofs.Common.{map, take}
use Rattle.hare_modules.specs.Order.{TellsFirst}
use Rattle.hare_modules.specs.Takings.{using}
use Rattle.hare_modules.specs.CirclesIn.{IsCircleIn}
use Rattle.hare_modules.proofs.circles.follow_all.Given as goal

-- the imports so far were followed
abbrev pub invariant-loop-used : goal.invariant-loop-used
invariant-loop-used l = TellsFirst (IsCircleIn l.forward (map using (take l.used-index l.uses))) l.first
