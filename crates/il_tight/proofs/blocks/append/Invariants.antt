-- What is turned and what is left are all, and then what is put and what is left.
use Rattle.std.proofs.Common.{◌≡◌, ◌++◌, length}
use Rattle.std.specs.Prelude.{reverse}
use Rattle.il_tight.proofs.blocks.append.Given as goal

abbrev pub invariant-turn : goal.invariant-turn
invariant-turn l = l.turned ++ reverse l.from ≡ l.initial.turned ++ reverse l.initial.from

abbrev pub decreases-turn : goal.decreases-turn
decreases-turn l = length l.from

abbrev pub invariant-each : goal.invariant-each
invariant-each l = l.to ++ reverse l.turned ≡ l.initial.to ++ reverse l.initial.turned

abbrev pub decreases-each : goal.decreases-each
decreases-each l = length l.turned
