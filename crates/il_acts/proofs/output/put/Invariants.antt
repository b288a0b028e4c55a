use Rattle.std.proofs.Common.{◌≡◌, ◌≤◌, ◌-◌}
use Rattle.std.specs.Io.KnownBytes.{Appends}
use Rattle.hx_base.specs.Memory.{Memory, bytes_at}
use Rattle.il_mem.specs.Holds.{Holds}
use Rattle.il_acts.proofs.output.put.Given as goal

-- so many bytes were put, and no fault came
abbrev pub invariant-pieces : goal.invariant-pieces
invariant-pieces g l = record {
  within : l.done ≤ l.n;
  put : (m : Memory) → Holds l.memory m →
      Appends (g.O.Sink.written l.initial.out) (g.O.Sink.written l.out) (bytes_at m l.at l.done);
  kept : g.O.Sink.faults l.out ≡ g.O.Sink.faults l.initial.out;
}

abbrev pub decreases-pieces : goal.decreases-pieces
decreases-pieces g l = l.n - l.done
