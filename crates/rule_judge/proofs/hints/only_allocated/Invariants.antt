use Rattle.std.proofs.Common.{◌≡◌, drop, filter}
use Rattle.std.specs.Prelude.{IfSome}
use Rattle.hare_types.specs.Store.{Store}
use Rattle.hare_types.specs.Later.{IsLater}
use Rattle.hare_rules.specs.Words.{is_allocated, only_one}
use Rattle.rule_judge.specs.Defined.{IsDefined}
use Rattle.rule_judge.proofs.HintLemmas.{one_with}
use Rattle.rule_judge.proofs.hints.only_allocated.Given as goal

-- what was found, and what is left
abbrev pub invariant-loop-t : goal.invariant-loop-t
invariant-loop-t l = record {
  defined : IfSome l.found (λ t. IsDefined l.s t);
  rest : (f : Store) → IsLater l.s f → only_one (filter (is_allocated f) l.types) ≡
      one_with l.found (filter (is_allocated f) (drop l.t-index l.types));
}
