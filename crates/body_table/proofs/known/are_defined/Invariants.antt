use Rattle.std.proofs.Common.{◌<◌, ◌≡◌, ℕ, Some}
use Rattle.std.specs.Prelude.{slice_get}
use Rattle.rule_judge.specs.Defined.{IsDefined}
use Rattle.hare_defined.specs.Known.{AreDefined}
use Rattle.body_table.proofs.known.are_defined.Given as goal

abbrev pub invariant-loop-i : goal.invariant-loop-i
invariant-loop-i l = record {
  known : AreDefined l.s l.defined;
  before : (k t : ℕ) → k < l.i → slice_get l.types k ≡ Some t → IsDefined l.s t;
}
