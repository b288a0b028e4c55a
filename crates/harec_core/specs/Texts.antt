-- What comes of a file with a text of the intermediate language, by its bytes: its module, or its fault.
use Rattle.std.specs.Prelude.{◌≡◌, ◌≢◌, ℕ, ◌<◌, ◌≤◌, List, length}
use Rattle.il_code.specs.declared.types.Module.{Module}
use Rattle.il_code.specs.Print.{module_text}
use Rattle.il_code.specs.Rules.{IsValid}
use Rattle.harec_core.specs.declared.answer.IlFault.{IlFault}

-- the most bytes of such a file
abbrev pub most_of_text : ℕ
most_of_text = 67108864

-- The bytes are the printed text of a valid module, this one. There are not too many.
pub record IsPrinted (source : List ℕ) (m : Module) : Type 0 where
  pub small : length source ≤ most_of_text
  pub valid : IsValid m
  pub printed : source ≡ module_text m

-- the bytes are the printed text of no valid module
abbrev pub IsNotPrinted : List ℕ → Type 0
IsNotPrinted source = (m : Module) → IsValid m → source ≢ module_text m

-- a fault at the start of the file
abbrev pub at_start : ℕ → IlFault
at_start number = record { number = number; line = 1; column = 1 }

-- the fault of such a file: I1 where it has too many bytes; or else I13 where it is not the printed text of a valid module
pub data IsTextFault (source : List ℕ) (f : IlFault) : Type 0 where
  too_large : most_of_text < length source → f ≡ at_start 1 → IsTextFault source f
  not_printed : length source ≤ most_of_text → IsNotPrinted source → f ≡ at_start 13 → IsTextFault source f
