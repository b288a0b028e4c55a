-- The parameters that are left pass as all do.
use Rattle.std.proofs.Common.{◌≡◌, drop}
use Rattle.flat_code.specs.WellFormed.{params_have_one_class}
use Rattle.flat_code.proofs.rules.function.params_have_one_class.Given as goal

abbrev pub invariant-loop-at : goal.invariant-loop-at
invariant-loop-at l = params_have_one_class l.p l.f l.at (drop l.at l.f.params) ≡ params_have_one_class l.p l.f 0 l.f.params
