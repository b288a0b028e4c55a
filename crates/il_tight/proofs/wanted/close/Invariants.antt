-- What is added and what is added in the turns that are left is all.
use Rattle.std.proofs.Common.{◌≡◌, length}
use Rattle.il_tight.specs.Tight.{closed_from}
use Rattle.il_tight.proofs.wanted.close.Given as goal

abbrev pub invariant-each : goal.invariant-each
invariant-each l = closed_from l.turns l.known l.blocks ≡ closed_from l.initial.turns l.initial.known l.blocks

abbrev pub decreases-each : goal.decreases-each
decreases-each l = length l.turns
