-- What a loop that reads input to memory has done. No public clause cites it.
use Rattle.std.specs.Prelude.{◌≡◌, ℕ, ◌<◌, ◌≤◌, List, length, true, Option}
use Rattle.std.specs.Io.KnownBytes.{Consumes, IsAtEnd}
use Rattle.hx_base.specs.Memory.{Memory, all_mapped, write}
use Rattle.il_mem.specs.Kept.{Kept}
use Rattle.il_mem.specs.Holds.{Holds}
use Rattle.il_mem.specs.Touched.{HoldsTouched}
use Rattle.il_acts.specs.declared.acted.Acted.{Acted}
use Rattle.il_acts.specs.declared.acted.Acted.TheVariants as acted

-- the memory that is kept came from one to another by a write of bytes from an address on, all of which are mapped in a range
pub record Fills (it it' : Kept) (at n : ℕ) (bytes : List ℕ) : Type 0 where
  pub holds : (m : Memory) → Holds it m → all_mapped m at n ≡ true → Holds it' (write m at bytes)
  pub pages : (m : Memory) → HoldsTouched it m → HoldsTouched it' (write m at bytes)

-- so many bytes of the input were taken and written
pub record Filled (it it' : Kept) (left left' : Option (List ℕ)) (at n count : ℕ) : Type 0 where
  pub bytes : List ℕ
  pub sized : length bytes ≡ count
  pub fills : Fills it it' at n bytes
  pub lost : Consumes left left' bytes

-- all that were asked for, or all that were left
pub record FilledAll (it it' : Kept) (left left' : Option (List ℕ)) (at n count : ℕ) : Type 0 where
  pub filled : Filled it it' left left' at n count
  pub few : count ≤ n
  pub end : count < n → IsAtEnd left'

-- what the loop answers
abbrev pub FillsOr : Kept → Kept → Option (List ℕ) → Option (List ℕ) → (at n : ℕ) → Acted → Type 0
FillsOr it it' left left' at n (acted.Gives value moved) = FilledAll it it' left left' at n value × (moved ≡ value)
FillsOr it it' left left' at n (acted.Exits status) = ⊥
FillsOr it it' left left' at n (acted.Aborts text) = ⊥
FillsOr it it' left left' at n (acted.Faults x) = (m : Memory) → Holds it m → all_mapped m at n ≡ true → ⊥
FillsOr it it' left left' at n acted.Full = ⊥
FillsOr it it' left left' at n acted.ReadFault = 0 < n
FillsOr it it' left left' at n acted.WriteFault = ⊥
