use Rattle.std.proofs.Common.{◌≡◌, ℕ, ◌<◌, Some}
use Rattle.std.specs.Prelude.{slice_get}
use Rattle.hare_typed.specs.Typed.{TypedNode}
use Rattle.hare_defined.specs.Known.{AreDefined}
use Rattle.rule_judge.specs.Defined.{IsDefinedTree}
use Rattle.judge_table.proofs.ready.+trees.Given as goal

abbrev pub invariant-are_defined_trees-loop-i : goal.invariant-are_defined_trees-loop-i
invariant-are_defined_trees-loop-i l = record {
  known : AreDefined l.s l.defined;
  before : (k : ℕ) (x : TypedNode) → k < l.i → slice_get l.kids k ≡ Some x → IsDefinedTree l.s x;
}
