use Rattle.std.proofs.Common.{◌≡◌, ◌≤◌, ◌++◌, length, map, drop}
use Rattle.hare_told.specs.Settled.{listed_late}
use Rattle.hare_flow.specs.Seen.{given_of}
use Rattle.hare_find.specs.Late.{settled_in}
use Rattle.hare_find.proofs.late.late_each.Given as goal

abbrev pub invariant-loop-i : goal.invariant-loop-i
invariant-loop-i l = record {
  within : l.i ≤ length l.gs;
  rest : map settled_in l.late ++ listed_late (map given_of (drop l.i l.gs)) (drop l.i l.rest) ≡ listed_late (map given_of l.gs) l.rest;
}
