-- Parts of a value at their places, as `placing` lays them. No public clause cites them.
use Rattle.std.specs.Prelude.{ℕ, ◌+◌, ◌<◌, ◌≤◌, List, [], ◌∷◌, length}
use Rattle.hare_typed.specs.declared.cell.Cell.{Cell}
use Rattle.hare_typed.specs.Cells.{with_cells}
use Rattle.hare_const.specs.declared.outcome.Outcome.{Outcome}
use Rattle.hare_const.specs.declared.outcome.Outcome.TheVariants.{Known, Aborts, Undefined}
use Rattle.hare_const.specs.declared.placing.Part.{Part}
use Rattle.hare_const.specs.NodeValues.{kid_at}

-- the cells that an outcome is; another has none
abbrev pub cells_of : Outcome → List Cell
cells_of (Known cs) = cs
cells_of Aborts = []
cells_of Undefined = []

-- those of a part, which is the value of a kid
abbrev pub cells_in : List Outcome → Part → List Cell
cells_in os p = cells_of (kid_at p.kid os)

-- the cells with those of each part in the place of the ones from its start on, one part after another
abbrev pub placed : List Outcome → List Part → List Cell → List Cell
placed os [] cs = cs
placed os (p ∷ ps) cs = placed os ps (with_cells p.start (cells_in os p) cs)

-- a part that begins at `start` holds the place
abbrev pub Holds : (start : ℕ) → List Cell → (place : ℕ) → Type 0
Holds start cs place = (start ≤ place) × (place < start + length cs)
