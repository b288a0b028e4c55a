use Rattle.std.proofs.Common.{drop}
use Rattle.hare_typed.specs.Typed.{typed_nodes}
use Rattle.hare_defined.specs.Known.{AreDefined}
use Rattle.rule_judge.specs.Defined.{AreDefinedTrees}
use Rattle.hare_bindings.proofs.known.+known.Given as goal

abbrev pub decreases-are_known : goal.decreases-are_known
decreases-are_known l = goal.size-are_known l

abbrev pub decreases-is_known : goal.decreases-is_known
decreases-is_known l = goal.size-is_known l

-- all are known where those are that are left
abbrev pub invariant-are_known-loop-i : goal.invariant-are_known-loop-i
invariant-are_known-loop-i l =
    record {
      defined : AreDefined l.s l.defined;
      rest : AreDefinedTrees l.s (typed_nodes (drop l.i l.kids)) → AreDefinedTrees l.s (typed_nodes l.kids);
    }
