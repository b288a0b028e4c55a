use Rattle.std.proofs.Common.{◌≡◌, ◌≤◌, ◌*◌, drop}
use Rattle.std.specs.Prelude.{option_map}
use Rattle.hare_types.specs.Waiting.{extents}
use Rattle.hare_types.specs.Kept.{parts_of, known, all_known}
use Rattle.hare_types.specs.Run.{no_parts, with_parts, IsRun}
use Rattle.hare_types.proofs.measure.parts.Given as goal

abbrev pub invariant-loop-i : goal.invariant-loop-i
invariant-loop-i l =
    record {
      run : IsRun l.run;
      end : l.run.end ≤ l.i * 2199023255552;
      value : option_map (with_parts l.run) (all_known (known (extents l.kept)) (drop l.i (parts_of l.row))) ≡ option_map
          (with_parts no_parts) (all_known (known (extents l.kept)) (parts_of l.row));
    }
