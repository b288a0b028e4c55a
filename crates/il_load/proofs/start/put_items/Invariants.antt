use Rattle.std.proofs.Common.{take}
use Rattle.std.specs.List.{All}
use Rattle.hx_base.specs.Memory.{Memory}
use Rattle.hx_base.specs.Runtime.{data_start}
use Rattle.il_code.specs.Addresses.{with_data}
use Rattle.il_load.specs.Puts.{Stands}
use Rattle.il_load.specs.Start.{LiesBefore}
use Rattle.il_load.proofs.SymbolLemmas.{data_after}
use Rattle.il_load.proofs.start.put_items.Given as goal

-- the items before have been put, and nothing is mapped behind them
abbrev pub invariant-loop-item : goal.invariant-loop-item
invariant-loop-item l =
    (All (LiesBefore (data_after data_start (take l.item-index l.m.items))) l.memory.ranges)
    × ((memory : Memory) → Stands l.initial.memory memory → Stands l.memory (with_data l.m memory (take l.item-index l.m.items)))
