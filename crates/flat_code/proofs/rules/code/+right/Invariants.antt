-- The statements that are left pass as all do.
use Rattle.std.proofs.Common.{◌≡◌, drop}
use Rattle.flat_code.specs.Code.{codes_of}
use Rattle.flat_code.specs.WellFormed.{are_right}
use Rattle.flat_code.proofs.rules.code.+right.Given as goal

abbrev pub invariant-are_right-loop-i : goal.invariant-are_right-loop-i
invariant-are_right-loop-i l = are_right l.place.program.now l.place.function.now l.around (codes_of (drop l.i l.kids)) ≡
    are_right l.place.program.now l.place.function.now l.around (codes_of l.kids)
