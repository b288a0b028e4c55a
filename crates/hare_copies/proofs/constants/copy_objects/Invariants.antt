use Rattle.std.proofs.Common.{◌≡◌, ◌≤◌, length, take}
use Rattle.hare_copies.proofs.constants.copy_objects.Given as goal

abbrev pub invariant-loop-i : goal.invariant-loop-i
invariant-loop-i l = record {
  within : l.i ≤ length l.objects;
  copied : l.copy ≡ take l.i l.objects;
}
