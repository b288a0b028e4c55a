use Rattle.std.proofs.Common.{◌≡◌, ◌++◌, map, take}
use Rattle.hare_types.specs.Store.{Store}
use Rattle.hare_types.specs.Later.{IsLater}
use Rattle.hare_rules.specs.Settles.{to_type}
use Rattle.rule_judge.specs.Defined.{AreDefinedCoercions}
use Rattle.rule_judge.proofs.yields.put_yields.Given as goal

abbrev pub invariant-loop-y : goal.invariant-loop-y
invariant-loop-y l = record {
  value : (f : Store) → IsLater l.s f → l.coercions ≡ l.initial.coercions ++ map (λ y. to_type f y.ty l.to) (take l.y-index l.y-items);
  defined : AreDefinedCoercions l.s l.coercions;
}
