-- Which row of a table counts.
use Rattle.std.specs.Prelude.{◌≡◌, ◌≢◌, ℕ, ◌<◌, ◌-◌, ◌≤◌, Bool, true, false, List, slice_get, Some}

-- of these rows the one with the number n, counted from 1, admits, and none before it does
pub record IsFirst (rows : List Bool) (n : ℕ) : Type 0 where
  pub counted : 1 ≤ n
  pub admits : slice_get rows (n - 1) ≡ Some true
  pub before : (k : ℕ) → k < n - 1 → slice_get rows k ≡ Some false

-- none of these rows admits
abbrev pub NoneAdmits : List Bool → Type 0
NoneAdmits rows = (k : ℕ) → slice_get rows k ≢ Some true
