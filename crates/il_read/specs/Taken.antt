-- What a reading answers. No public clause cites it.
use Rattle.std.specs.Prelude.{◌≡◌, ◌≢◌, ℕ, List, Option, Some, None, Result, Ok, Err}
use Rattle.std.specs.Borrow.{Bor}
use Rattle.il_code.specs.declared.stop.Stop.{Stop}
use Rattle.il_code.specs.declared.stop.Stop.TheVariants.{Memory}
use Rattle.il_read.specs.declared.taken.NotPrinted.{NotPrinted}

-- what was read and what stands behind it, want of memory aside
abbrev pub Takes : {A : Type 0} → Result (A × Bor (List ℕ)) (Stop NotPrinted) → Option (A × List ℕ) → Type 0
Takes (Ok x) o = o ≡ Some (x.0, x.1.now)
Takes (Err e) o = e ≢ Memory → o ≡ None

-- what stands behind known bytes
abbrev pub Skips : Result (Bor (List ℕ)) (Stop NotPrinted) → Option (List ℕ) → Type 0
Skips (Ok rest) o = o ≡ Some rest.now
Skips (Err e) o = e ≢ Memory → o ≡ None

-- what was made of a whole text
abbrev pub Makes : {A : Type 0} → Result A (Stop NotPrinted) → Option A → Type 0
Makes (Ok x) o = o ≡ Some x
Makes (Err e) o = e ≢ Memory → o ≡ None
