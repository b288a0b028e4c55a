use Rattle.std.proofs.Common.{◌≡◌, ◌++◌, take}
use Rattle.hare_const.proofs.statics.put_listed.Given as goal

-- the objects so far
abbrev pub invariant-loop-i : goal.invariant-loop-i
invariant-loop-i l = l.objects ≡ l.initial.objects ++ take l.i l.listed
