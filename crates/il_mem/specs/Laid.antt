-- Ranges in the order of their addresses. No public clause cites it.
use Rattle.std.specs.Prelude.{◌≡◌, ℕ, ◌^◌, ◌<◌, ◌≤◌, ◌⊎◌, Bool, true, false, ◌&&◌, List, [], ◌∷◌, length, nat_lt, nat_le, slice_index_or}
use Rattle.std.specs.List.{All}
use Rattle.std.specs.Ordering.{nat_cmp}
use Rattle.std.specs.BTreeMap.{insert_entry}
use Rattle.il_mem.specs.Kept.{covers}

-- each range has an address, begins at or behind the end of the one before it, and ends below 2 ^ 64
abbrev pub are_laid : ℕ → List (ℕ × ℕ) → Bool
are_laid low [] = true
are_laid low (r ∷ rs) = nat_le low r.0 && nat_lt r.0 r.1 && nat_lt r.1 (2 ^ 64) && are_laid r.1 rs

-- each address from `at` up to `end` lies in a range
abbrev pub IsCovered : List (ℕ × ℕ) → ℕ → ℕ → Type 0
IsCovered ranges at end = (a : ℕ) → at ≤ a → a < end → covers ranges a ≡ true

-- one of them does not
pub record HasGap (ranges : List (ℕ × ℕ)) (at end : ℕ) : Type 0 where
  pub address : ℕ
  pub from : at ≤ address
  pub below : address < end
  pub bare : covers ranges address ≡ false

-- ---- ranges of a stack beside others

-- the ranges of a list among others, in the order of their addresses
abbrev pub with_all : List (ℕ × ℕ) → List (ℕ × ℕ) → List (ℕ × ℕ)
with_all [] es = es
with_all (r ∷ rs) es = with_all rs (insert_entry nat_cmp es r.0 r.1)

-- both stand in order, and have no address in common
pub record AreApart (ranges others : List (ℕ × ℕ)) : Type 0 where
  pub stack : are_laid 0 ranges ≡ true
  pub ends : are_laid 0 others ≡ true
  pub apart : (a : ℕ) → covers ranges a ≡ true → covers others a ≡ false

-- no range begins at an address of `from` up to `end`
abbrev pub LeavesOut : ℕ → ℕ → List (ℕ × ℕ) → Type 0
LeavesOut from end [] = Unit {0}
LeavesOut from end (r ∷ rs) = ((r.0 < from) ⊎ (end ≤ r.0)) × LeavesOut from end rs

-- each range ends at an address or below it
abbrev pub EndsBy : ℕ → List (ℕ × ℕ) → Type 0
EndsBy at rs = All (λ r. r.1 ≤ at) rs

-- just the first `k` ranges begin at an address or below it
pub record SplitsAt (at : ℕ) (rs : List (ℕ × ℕ)) (k : ℕ) : Type 0 where
  pub within : k ≤ length rs
  pub below : (j : ℕ) (d : ℕ × ℕ) → j < k → (slice_index_or rs j d).0 ≤ at
  pub above : (j : ℕ) (d : ℕ × ℕ) → k ≤ j → j < length rs → at < (slice_index_or rs j d).0
