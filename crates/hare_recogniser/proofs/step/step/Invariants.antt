use Rattle.std.proofs.Common.{◌≡◌, length}
use Rattle.hare_nesting.specs.Gauge.{step}
use Rattle.hare_recogniser.specs.Agenda.{IsPaired}
use Rattle.hare_recogniser.specs.Capped.{capped_step}
use Rattle.hare_ll_table.specs.Seen.{waited}
use Rattle.hare_recogniser.proofs.step.step.Given as goal

abbrev pub invariant-loop-symbol : goal.invariant-loop-symbol
invariant-loop-symbol l =
    record {
      same : capped_step (step l.number l.class (waited l.fn.agenda.waits) l.fn.frames) ≡
          capped_step (step l.number l.class (waited l.agenda.waits) l.frames);
      paired : IsPaired l.agenda;
    }

abbrev pub decreases-loop-symbol : goal.decreases-loop-symbol
decreases-loop-symbol l = length (waited l.agenda.waits)
