-- How high trees are at the most.
use Rattle.std.specs.Prelude.{ℕ, ◌≤◌}

-- The number is a bound of the height. From 257 on heights are not counted.
pub record IsBound (bound height : ℕ) : Type 0 where
  pub up_to : bound ≤ 256 → height ≤ bound
