-- The statements that are left pass as all do.
use Rattle.std.proofs.Common.{◌≡◌, drop}
use Rattle.flat_code.specs.Code.{codes_of}
use Rattle.flat_code.specs.WellFormed.{each_nests_within}
use Rattle.flat_code.proofs.rules.code.+nests.Given as goal

abbrev pub invariant-each_nests_within-loop-i : goal.invariant-each_nests_within-loop-i
invariant-each_nests_within-loop-i l = each_nests_within (codes_of (drop l.i l.kids)) l.left ≡ each_nests_within (codes_of l.kids) l.left
