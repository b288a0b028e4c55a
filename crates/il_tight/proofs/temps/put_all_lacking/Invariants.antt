-- What is put and what is left to be put is all.
use Rattle.std.proofs.Common.{◌≡◌, ◌++◌, length}
use Rattle.il_tight.specs.Tight.{all_lacking, dropped, is_known}
use Rattle.il_tight.proofs.temps.put_all_lacking.Given as goal

abbrev pub invariant-each : goal.invariant-each
invariant-each l = l.out ++ all_lacking l.read l.set (dropped (is_known l.labels) l.into l.left) ≡
    l.initial.out ++ all_lacking l.read l.initial.set (dropped (is_known l.labels) l.initial.into l.initial.left)

abbrev pub decreases-each : goal.decreases-each
decreases-each l = length l.left
