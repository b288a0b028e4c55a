use Rattle.std.proofs.Common.{take}
use Rattle.hare_layout.specs.Ids.{Gains}
use Rattle.hare_layout.proofs.members_left.push_members.Given as goal

abbrev pub invariant-loop-t : goal.invariant-loop-t
invariant-loop-t l = Gains l.s l.initial.left.items l.left.items (take l.t-index l.types)
