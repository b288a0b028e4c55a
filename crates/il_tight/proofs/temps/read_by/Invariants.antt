-- What is added and what is left to be added is all.
use Rattle.std.proofs.Common.{◌≡◌, length}
use Rattle.il_tight.specs.Tight.{is_known, reached, with_reads}
use Rattle.il_tight.proofs.temps.read_by.Given as goal

abbrev pub invariant-each : goal.invariant-each
invariant-each l = with_reads l.known (reached (is_known l.labels) l.into l.left) ≡
    with_reads l.initial.known (reached (is_known l.labels) l.initial.into l.initial.left)

abbrev pub decreases-each : goal.decreases-each
decreases-each l = length l.left
