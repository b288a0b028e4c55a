use Rattle.std.proofs.Common.{◌+◌, ◌-◌, length, drop}
use Rattle.hare_nesting.specs.Gauge.{gauge}
use Rattle.hare_recogniser.specs.Agenda.{IsPaired}
use Rattle.hare_recogniser.specs.Gauged.{seen_from}
use Rattle.hare_ll_table.specs.Places.{IsPlace}
use Rattle.hare_ll_table.specs.Seen.{waited}
use Rattle.hare_recogniser.proofs.GaugedRun.GaugedRuns.{Continues}
use Rattle.hare_recogniser.proofs.run.run.Given as goal

abbrev pub invariant-loop-token : goal.invariant-loop-token
invariant-loop-token l =
    record {
      run :
          Continues
          (gauge (seen_from 1 (drop l.from l.tokens)) (waited l.fn.agenda.waits) l.fn.frames)
          l.told
          (gauge (seen_from (l.at - l.from + 1) (drop l.at l.tokens)) (waited l.agenda.waits) l.frames);
      paired : IsPaired l.agenda;
      place : IsPlace l.tokens l.from l.at;
    }

abbrev pub decreases-loop-token : goal.decreases-loop-token
decreases-loop-token l = length l.tokens - l.at
