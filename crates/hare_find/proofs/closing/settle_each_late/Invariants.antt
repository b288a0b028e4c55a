use Rattle.std.proofs.Common.{◌≡◌, ◌≤◌, ◌++◌, length, map, take}
use Rattle.hare_find.specs.Late.{settled_in}
use Rattle.hare_find.proofs.closing.settle_each_late.Given as goal

abbrev pub invariant-loop-i : goal.invariant-loop-i
invariant-loop-i l = record {
  within : l.i ≤ length l.late;
  locals : l.seen.locals ≡ l.initial.seen.locals;
  yields : l.seen.yields ≡ l.initial.seen.yields;
  coercions : l.seen.coercions ≡ l.initial.seen.coercions;
  late : l.seen.late ≡ l.initial.seen.late ++ map settled_in (take l.i l.late);
}
