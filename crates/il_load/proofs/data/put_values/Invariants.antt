use Rattle.std.proofs.Common.{take, drop}
use Rattle.std.specs.Prelude.{flat_map, sum_by}
use Rattle.il_code.specs.Addresses.{value_size}
use Rattle.il_load.specs.Data.{value_in}
use Rattle.il_load.specs.Puts.{IsReady, PutsBefore}
use Rattle.il_load.proofs.data.put_values.Given as goal

-- those behind have been put
abbrev pub invariant-loop-i : goal.invariant-loop-i
invariant-loop-i l =
    (IsReady l.memory l.at (sum_by (value_size l.width) (take l.i l.values)))
    × (PutsBefore l.initial.memory l.memory l.end (flat_map (value_in l.symbols l.width) (drop l.i l.values)) l.at)
