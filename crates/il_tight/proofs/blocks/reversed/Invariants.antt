-- What is turned and what is left are all.
use Rattle.std.proofs.Common.{◌≡◌, ◌++◌, length}
use Rattle.std.specs.Prelude.{reverse}
use Rattle.il_tight.proofs.blocks.reversed.Given as goal

abbrev pub invariant-each : goal.invariant-each
invariant-each l = l.to ++ reverse l.from ≡ l.initial.to ++ reverse l.initial.from

abbrev pub decreases-each : goal.decreases-each
decreases-each l = length l.from
