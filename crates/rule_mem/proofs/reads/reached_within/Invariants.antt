use Rattle.std.proofs.Common.{◌≡◌, ◌-◌}
use Rattle.hare_types.specs.Store.{Store}
use Rattle.hare_types.specs.Later.{IsLater}
use Rattle.hare_typed.specs.Followed.{reached_within}
use Rattle.rule_judge.specs.Defined.{IsDefinedTy}
use Rattle.rule_mem.proofs.reads.reached_within.Given as goal

-- what is reached from here is what is reached from the start
abbrev pub invariant-loop-passed : goal.invariant-loop-passed
invariant-loop-passed l = record {
  defined : IsDefinedTy l.s l.at;
  rest : (f : Store) → IsLater l.s f → reached_within (l.most - l.passed) f l.at ≡ reached_within l.most f l.fn.a;
}
