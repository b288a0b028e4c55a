use Rattle.std.proofs.Common.{◌≡◌, ◌≤◌, length, drop}
use Rattle.hare_layout.specs.Members.{all_among}
use Rattle.hare_layout.proofs.members.all_among.Given as goal

abbrev pub invariant-loop-u : goal.invariant-loop-u
invariant-loop-u l =
    record {
      within : l.met ≤ length l.types;
      value : all_among (drop l.met l.types) (drop l.u-index l.others) ≡ all_among l.types l.others;
    }
