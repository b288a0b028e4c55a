use Rattle.std.proofs.Common.{◌≡◌, ◌≤◌, ◌-◌}
use Rattle.hx_base.specs.Memory.{Memory, bytes_at}
use Rattle.il_mem.specs.Holds.{Holds}
use Rattle.il_acts.proofs.bytes.abort.Given as goal

-- so many bytes of the text were read
abbrev pub invariant-pieces : goal.invariant-pieces
invariant-pieces l = record {
  within : l.done ≤ l.n;
  text : (m : Memory) → Holds l.memory m → l.text ≡ bytes_at m l.at l.done;
}

abbrev pub decreases-pieces : goal.decreases-pieces
decreases-pieces l = l.n - l.done
