-- What stands in memory when a run begins.
use Rattle.std.specs.Prelude.{ℕ, ◌<◌, ◌≤◌}
use Rattle.std.specs.List.{All}
use Rattle.hx_base.specs.Memory.{Memory}
use Rattle.hx_base.specs.Runtime.{arguments_start, stack_start}
use Rattle.il_code.specs.declared.types.Module.{Module}
use Rattle.il_code.specs.Addresses.{with_data}
use Rattle.il_mem.specs.Kept.{Kept}
use Rattle.il_load.specs.Puts.{Stands}

-- a range that lies below the stack has an address
pub record LiesBelow (r : ℕ × ℕ) : Type 0 where
  pub some : r.0 < r.1
  pub below : r.1 ≤ stack_start

-- a range that lies below the arguments does
pub record LiesBefore (end : ℕ) (r : ℕ × ℕ) : Type 0 where
  pub some : r.0 < r.1
  pub below : r.1 ≤ end

-- the data of a module was put into memory, below where the arguments stand
pub record HoldsData (m : Module) (old new : Kept) : Type 0 where
  pub stands : (memory : Memory) → Stands old memory → Stands new (with_data m memory m.items)
  pub below : All (LiesBefore arguments_start) new.ranges
