use Rattle.std.proofs.Common.{take}
use Rattle.hare_defined.specs.Search.{HoldsAll, TakesIn}
use Rattle.hare_defined.proofs.parts.meet_all.Given as goal

abbrev pub invariant-loop-t : goal.invariant-loop-t
invariant-loop-t l = record {
  takes : TakesIn l.initial.met.keys l.met.keys l.types;
  holds : HoldsAll l.met.keys (take l.t-index l.types);
}
