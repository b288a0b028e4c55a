-- The statements that are left set the temporary as all do.
use Rattle.std.proofs.Common.{◌≡◌, drop}
use Rattle.flat_code.specs.Code.{codes_of}
use Rattle.flat_code.specs.Temps.{one_sets}
use Rattle.flat_code.proofs.rules.temps.+sets.Given as goal

abbrev pub invariant-one_sets-loop-i : goal.invariant-one_sets-loop-i
invariant-one_sets-loop-i l = one_sets l.target.program.now l.target.temp l.target.class (codes_of (drop l.i l.kids)) ≡
    one_sets l.target.program.now l.target.temp l.target.class (codes_of l.kids)
