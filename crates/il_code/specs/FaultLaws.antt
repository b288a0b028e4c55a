-- What holds of the first fault of a text.
use Rattle.std.specs.Prelude.{◌≡◌, ℕ, List}
use Rattle.il_code.specs.Faults.{IsFirstFault}

-- a text has no two first faults
abbrev pub FirstFaultIsOne : Type 0
FirstFaultIsOne = (text : List ℕ) (number line column other other_line other_column : ℕ) → IsFirstFault text number line column →
    IsFirstFault text other other_line other_column → (number ≡ other) × (line ≡ other_line) × (column ≡ other_column)
