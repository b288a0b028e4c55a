-- The parameters that are left set the temporary as all do.
use Rattle.std.proofs.Common.{◌≡◌, drop}
use Rattle.flat_code.specs.Temps.{params_set}
use Rattle.flat_code.proofs.rules.temps.params_set.Given as goal

abbrev pub invariant-loop-at : goal.invariant-loop-at
invariant-loop-at l = params_set l.t l.class l.at (drop l.at l.params) ≡ params_set l.t l.class 0 l.params
