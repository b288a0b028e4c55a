-- The lines of faults.
use Rattle.std.specs.Prelude.{◌≡◌, ℕ, List, slice_get, Some}
use Rattle.hare_tree.specs.declared.place.Fault.{Fault}
use Rattle.harec_check.specs.declared.stopped.Stopped.{Stopped}
use Rattle.harec_check.specs.declared.stopped.Stopped.TheVariants.{Refused, Unread, Memory}
use Rattle.harec_words.specs.Faults.{fault_line}

-- the letter E, of the faults of the language
abbrev pub letter : ℕ
letter = 69

-- the line of a fault, with the word that names its file
pub record IsFaultLine (paths : List (List ℕ)) (f : Fault) (line : List ℕ) : Type 0 where
  pub path : List ℕ
  pub word : slice_get paths f.place.file ≡ Some path
  pub text : line ≡ fault_line path letter f.number f.place.line f.place.column

-- a refusal is that of this fault, with its line; or memory for the line ran out
abbrev pub IsRefusal : List (List ℕ) → Fault → Stopped → Type 0
IsRefusal paths f (Refused r) = (r.fault ≡ f) × IsFaultLine paths f r.line
IsRefusal paths f (Unread number) = ⊥
IsRefusal paths f Memory = Unit {0}
