use Rattle.std.proofs.Common.{◌≡◌, take}
use Rattle.std.specs.Ordering.{nat_cmp}
use Rattle.std.specs.BTreeMap.{get}
use Rattle.hare_const.specs.Statics.{listed_by}
use Rattle.hare_const.proofs.reached.listed.Given as goal

-- the objects so far
abbrev pub invariant-loop-n : goal.invariant-loop-n
invariant-loop-n l = l.objects ≡ listed_by (get nat_cmp l.table) (take l.n-index l.numbers)
