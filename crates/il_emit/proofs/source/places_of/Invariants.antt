-- The places so far and those of what is left are all places.
use Rattle.std.proofs.Common.{◌≡◌, [], length}
use Rattle.hx_table.specs.Tables.{with_entries}
use Rattle.il_emit.specs.Sources.{places_from}
use Rattle.il_emit.proofs.source.places_of.Given as goal

abbrev pub invariant-each : goal.invariant-each
invariant-each l = with_entries l.places (places_from l.at l.left) ≡ with_entries [] (places_from 0 l.initial.left)

abbrev pub decreases-each : goal.decreases-each
decreases-each l = length l.left
