use Rattle.std.proofs.Common.{◌≡◌, map, Some}
use Rattle.hare_declarations.proofs.end.parts_of.Given as goal

abbrev pub invariant-loop-slot : goal.invariant-loop-slot
invariant-loop-slot l = map Some l.parts ≡ l.yielded
