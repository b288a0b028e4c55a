use Rattle.std.proofs.Common.{◌≡◌}
use Rattle.hare_modules.specs.Taken.{empty_tables}
use Rattle.hare_modules.proofs.taken.tables.Given as goal

abbrev pub invariant-loop : goal.invariant-loop
invariant-loop g l = l.tables.items ≡ empty_tables l.counter
