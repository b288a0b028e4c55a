-- Lists of cells in which a part that stands there often is kept once: each cell that was written, and what is repeated of them.
use Rattle.std.specs.Prelude.{◌≡◌, ℕ, zero, suc, ◌+◌, ◌-◌, ◌<◌, ◌≤◌, List, [], ◌∷◌, ◌++◌, length, take, drop, slice_get}
use Rattle.hare_typed.specs.declared.cell.Cell.{Cell}
use Rattle.hare_typed.specs.declared.cells.Repeat.{Repeat}
use Rattle.hare_typed.specs.declared.cells.part.Origin.{Origin}
use Rattle.hare_typed.specs.declared.cells.part.Origin.TheVariants.{Plain, Repeated, Cut}
use Rattle.hare_typed.specs.declared.cells.same.Stretch.{Stretch}
use Rattle.hare_typed.specs.Cells.{cells_within}

-- so many copies, one behind the other
abbrev pub again : ℕ → List Cell → List Cell
again zero c = []
again (suc n) c = c ++ again n c

-- behind the first `to` cells, those of them from `from` on stand so many times more
abbrev pub with_repeat : Repeat → List Cell → List Cell
with_repeat r cs = take r.to cs ++ (again r.more (drop r.from (take r.to cs)) ++ drop r.to cs)

-- what the cells become when they are repeated so, one repetition after another
abbrev pub repeated : List Repeat → List Cell → List Cell
repeated [] cs = cs
repeated (r ∷ rs) cs = repeated rs (with_repeat r cs)

-- each repetition repeats some cells, which are there when it comes
abbrev pub FitIn : List Repeat → List Cell → Type 0
FitIn [] cs = Unit {0}
FitIn (r ∷ rs) cs = (r.from < r.to) × (r.to ≤ length cs) × FitIn rs (with_repeat r cs)

-- the same repetition behind so many other cells
abbrev pub moved : ℕ → Repeat → Repeat
moved n r = record { from = n + r.from; to = n + r.to; more = r.more }

-- what the part from one place up to another behind a repetition is of the cells before it; of one that is cut nothing is said
abbrev pub IsOrigin : Repeat → (from to : ℕ) → Origin → List Cell → Type 0
IsOrigin r from to (Plain a b) cs =
    (a ≤ b) × (b ≤ length cs) × (cells_within from (to - from) (with_repeat r cs) ≡ cells_within a (b - a) cs)
IsOrigin r from to (Repeated a b q) cs =
    (a ≤ b) × (b ≤ length cs) × (q.from < q.to) × (q.to ≤ b - a) ×
    (cells_within from (to - from) (with_repeat r cs) ≡ with_repeat q (cells_within a (b - a) cs))
IsOrigin r from to Cut cs = Unit {0}

-- the stretch holds the place
pub record IsAround (place : ℕ) (s : Stretch) : Type 0 where
  pub behind : s.begin ≤ place
  pub before : place < s.end

-- in the stretch of these cells each is the one that stands so many places before it
pub record Recurs (s : Stretch) (cs : List Cell) : Type 0 where
  pub proper : 0 < s.distance
  pub within : s.distance ≤ s.begin
  pub same : (i : ℕ) → s.begin ≤ i → i < s.end → slice_get cs i ≡ slice_get cs (i - s.distance)

-- two lists have the same cells before a place
abbrev pub AgreeTo : (place : ℕ) → List Cell → List Cell → Type 0
AgreeTo place cs ds = (i : ℕ) → i < place → slice_get cs i ≡ slice_get ds i
