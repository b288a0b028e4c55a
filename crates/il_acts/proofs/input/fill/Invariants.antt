use Rattle.std.proofs.Common.{◌≡◌, ◌≤◌, ◌-◌}
use Rattle.il_mem.specs.Holds.{AllHeld}
use Rattle.il_acts.specs.Filling.{Filled}
use Rattle.il_acts.proofs.input.fill.Given as goal

-- so many bytes were taken and written to pages that are held, and no fault came
abbrev pub invariant-pieces : goal.invariant-pieces
invariant-pieces g l = record {
  within : l.done ≤ l.n;
  filled : Filled l.initial.memory l.memory (g.I.Source.left l.initial.input) (g.I.Source.left l.input) l.at l.n l.done;
  held : AllHeld l.memory l.at l.n;
  ranges : l.memory.ranges ≡ l.initial.memory.ranges;
  kept : g.I.Source.faults l.input ≡ g.I.Source.faults l.initial.input;
}

abbrev pub decreases-pieces : goal.decreases-pieces
decreases-pieces g l = l.n - l.done
