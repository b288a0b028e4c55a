-- What code counts, however it ends.
use Rattle.std.specs.Prelude.{◌≡◌, ◌≤◌}
use Rattle.flat_code.specs.State.{State, Result}

-- of a state and a later one
pub record IsCounted (s s' : State) : Type 0 where
  -- memory that was never written has the same byte
  pub fill : s'.world.memory.fill ≡ s.world.memory.fill
  pub steps : s.steps ≤ s'.steps
  pub most : s.most ≤ s'.most
  -- the most that active calls cost is what they cost, or more
  pub cost : s.cost ≤ s.most → s'.cost ≤ s'.most

abbrev pub Counts : State → Result → Type 0
Counts s r = IsCounted s r.1
