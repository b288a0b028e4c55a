-- What is left keeps settings exactly where all does.
use Rattle.std.proofs.Common.{◌≡◌, length}
use Rattle.il_tight.specs.Tight.{is_known, keeps_settings}
use Rattle.il_tight.proofs.temps.keeps_settings.Given as goal

abbrev pub invariant-each : goal.invariant-each
invariant-each l = keeps_settings (is_known l.known) l.into l.left ≡ keeps_settings (is_known l.known) l.initial.into l.initial.left

abbrev pub decreases-each : goal.decreases-each
decreases-each l = length l.left
