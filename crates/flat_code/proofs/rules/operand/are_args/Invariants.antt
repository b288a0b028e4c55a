-- The arguments that are left pass as all do.
use Rattle.std.proofs.Common.{◌≡◌, length}
use Rattle.flat_code.specs.WellFormed.{are_args}
use Rattle.flat_code.proofs.rules.operand.are_args.Given as goal

abbrev pub invariant-each : goal.invariant-each
invariant-each l = are_args l.p l.f l.classes_left l.args_left ≡ are_args l.p l.f l.initial.classes_left l.initial.args_left

abbrev pub decreases-each : goal.decreases-each
decreases-each l = length l.classes_left
