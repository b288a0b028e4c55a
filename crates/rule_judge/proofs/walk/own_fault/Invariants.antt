use Rattle.std.proofs.Common.{◌≡◌, true, drop}
use Rattle.hare_types.specs.Store.{Store}
use Rattle.hare_types.specs.Later.{IsLater}
use Rattle.rule_judge.specs.Asked.{are_asked, own_failing}
use Rattle.rule_judge.specs.Grown.{IsGrown}
use Rattle.rule_judge.specs.Turns.{context_in}
use Rattle.rule_judge.proofs.WalkLemmas.{failing}
use Rattle.rule_judge.proofs.walk.own_fault.Given as goal

abbrev pub invariant-loop-row : goal.invariant-loop-row
invariant-loop-row g l = record {
  grown : IsGrown l.initial.s l.s;
  asked : are_asked g.R.Rules.asks (drop l.row-index l.row-items) ≡ true;
  rest : (f : Store) → IsLater l.s f → own_failing (context_in f l.t) ≡ failing (context_in f l.t) (drop l.row-index l.row-items);
}
