use Rattle.std.proofs.Common.{take, drop}
use Rattle.std.specs.Prelude.{flat_map, sum_by}
use Rattle.il_code.specs.Addresses.{part_size}
use Rattle.il_load.specs.Data.{part_in}
use Rattle.il_load.specs.Puts.{IsReady, PutsBefore}
use Rattle.il_load.proofs.data.put_parts.Given as goal

-- those behind have been put
abbrev pub invariant-loop-i : goal.invariant-loop-i
invariant-loop-i l =
    (IsReady l.memory l.at (sum_by part_size (take l.i l.parts)))
    × (PutsBefore l.initial.memory l.memory l.end (flat_map (part_in l.symbols) (drop l.i l.parts)) l.at)
