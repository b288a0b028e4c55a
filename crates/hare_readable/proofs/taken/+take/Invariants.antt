use Rattle.std.proofs.Common.{◌≤◌, length, take}
use Rattle.hare_defined.specs.Known.{AreDefined}
use Rattle.hare_readable.specs.Heads.{InKids}
use Rattle.hare_readable.specs.Taking.{TakesMore, IsEnoughHead}
use Rattle.hare_readable.proofs.taken.+take.Given as goal

abbrev pub decreases-take_tree : goal.decreases-take_tree
decreases-take_tree l = goal.size-take_tree l

abbrev pub decreases-take_kids : goal.decreases-take_kids
decreases-take_kids l = goal.size-take_kids l

-- what is ready is enough for the trees so far
abbrev pub invariant-take_kids-loop-i : goal.invariant-take_kids-loop-i
invariant-take_kids-loop-i l = record {
  within : l.i ≤ length l.ts;
  defined : AreDefined l.s l.defined;
  more : TakesMore l.s l.known l.initial.ready l.ready;
  enough : InKids (IsEnoughHead l.names l.known l.ready) (take l.i l.ts);
}
