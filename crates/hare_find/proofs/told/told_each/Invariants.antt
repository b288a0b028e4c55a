use Rattle.std.proofs.Common.{◌≤◌, length, take}
use Rattle.std.specs.Prelude.{map}
use Rattle.hare_types.specs.Store.{Store}
use Rattle.hare_told.specs.Told.{IsVoidOf, AreToldYields}
use Rattle.rule_judge.specs.Defined.{IsDefined, AreDefinedYields}
use Rattle.hare_flow.specs.Seen.{given_of}
use Rattle.hare_find.specs.Yields.{AreDefinedGivens}
use Rattle.hare_find.proofs.told.told_each.Given as goal

abbrev pub invariant-loop-i : goal.invariant-loop-i
invariant-loop-i l = record {
  within : l.i ≤ length l.gs;
  told : (f : Store) → IsVoidOf f l.void → AreToldYields f (map given_of (take l.i l.gs)) l.told;
  defined : (s : Store) → IsDefined s l.void → AreDefinedGivens s (map given_of l.gs) → AreDefinedYields s l.told;
}
