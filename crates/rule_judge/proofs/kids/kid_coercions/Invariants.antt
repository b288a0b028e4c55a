use Rattle.std.proofs.Common.{◌≡◌, ◌++◌, drop}
use Rattle.hare_types.specs.Store.{Store}
use Rattle.hare_types.specs.Later.{IsLater}
use Rattle.hare_rules.specs.Judged.{coercions_from}
use Rattle.rule_judge.specs.Defined.{AreDefinedCoercions}
use Rattle.rule_judge.specs.Grown.{IsGrown}
use Rattle.rule_judge.specs.Turns.{context_in}
use Rattle.rule_judge.proofs.kids.kid_coercions.Given as goal

abbrev pub invariant-loop-i : goal.invariant-loop-i
invariant-loop-i g l = record {
  grown : IsGrown l.initial.s l.s;
  defined : AreDefinedCoercions l.s l.coercions;
  rest : (f : Store) → IsLater l.s f → coercions_from (context_in f l.t) 0 l.t.kids.now ≡
      l.coercions ++ coercions_from (context_in f l.t) l.i (drop l.i l.t.kids.now);
}
