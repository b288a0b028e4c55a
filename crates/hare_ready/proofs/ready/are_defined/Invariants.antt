use Rattle.std.proofs.Common.{◌≡◌, ℕ, ◌<◌, slice_get, Some}
use Rattle.hare_defined.specs.Known.{AreDefined}
use Rattle.rule_judge.specs.Defined.{IsDefined}
use Rattle.hare_ready.proofs.ready.are_defined.Given as goal

-- the types before the one at hand are defined
abbrev pub invariant-loop-t : goal.invariant-loop-t
invariant-loop-t l = record {
  known : AreDefined l.s l.defined;
  before : (i t : ℕ) → i < l.t-index → slice_get l.types i ≡ Some t → IsDefined l.s t;
}
