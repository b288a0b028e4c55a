use Rattle.std.proofs.Common.{◌≡◌, ℕ, ◌<◌, Some}
use Rattle.std.specs.Prelude.{slice_get}
use Rattle.hare_rules.specs.declared.judged.Yielded.{Yielded}
use Rattle.hare_defined.specs.Known.{AreDefined}
use Rattle.rule_judge.specs.Defined.{IsDefinedTy}
use Rattle.judge_table.proofs.ready.are_defined_yields.Given as goal

abbrev pub invariant-loop-i : goal.invariant-loop-i
invariant-loop-i l = record {
  known : AreDefined l.s l.defined;
  before : (k : ℕ) (y : Yielded) → k < l.i → slice_get l.yields k ≡ Some y → IsDefinedTy l.s y.ty;
}
