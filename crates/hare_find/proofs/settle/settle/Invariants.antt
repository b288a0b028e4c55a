use Rattle.std.proofs.Common.{◌≡◌, ◌≤◌, ◌++◌, length, map, take, drop}
use Rattle.hare_find.specs.Settling.{option_in}
use Rattle.hare_rules.specs.Flow.{write_each}
use Rattle.hare_find.specs.Listed.{written_each, coated_each}
use Rattle.hare_find.proofs.settle.settle.Given as goal

abbrev pub invariant-loop-i : goal.invariant-loop-i
invariant-loop-i l = record {
  within : l.i ≤ length l.initial.kids;
  many : length l.kids ≡ length l.initial.kids;
  locals : l.seen.locals ≡ l.initial.seen.locals;
  yields : l.seen.yields ≡ l.initial.seen.yields;
  late : l.seen.late ≡ l.initial.seen.late;
  rest : write_each (written_each (drop l.i l.kids) (drop l.i (map option_in l.settlings))) l.seen.coercions
      ≡ write_each (written_each l.initial.kids (map option_in l.settlings)) l.initial.seen.coercions;
  kids : take l.i l.kids ++ coated_each (drop l.i l.kids) (drop l.i (map option_in l.settlings)) ≡ coated_each l.initial.kids
      (map option_in l.settlings);
}
