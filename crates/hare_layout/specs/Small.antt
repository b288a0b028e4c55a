-- Types that are not too large.
use Rattle.std.specs.Prelude.{◌≡◌, ℕ, ◌≤◌, Some}
use Rattle.hare_types.specs.declared.extent.Extent.{Extent}
use Rattle.hare_types.specs.Store.{Store}
use Rattle.hare_types.specs.ByIds.{extent_at}

-- The type is admitted and sized: each name that it is or holds by value is defined, and it has at most 67,108,864 bytes. What it holds by
-- value has no more bytes than the type itself, but for the items of an array that has none.
pub record IsSmall (s : Store) (t : ℕ) : Type 0 where
  pub extent : Extent
  pub at : extent_at s t ≡ Some extent
  pub few : extent.size ≤ 67108864

-- an extent that no sum of two overflows
pub record IsModest (x : Extent) : Type 0 where
  pub size : x.size ≤ 67108864
  pub low : 1 ≤ x.align
  pub high : x.align ≤ 8
