-- What a call takes of the input and puts to the output, where these tell their bytes, and how often they failed in it.
use Rattle.std.specs.Prelude.{◌≡◌, ℕ, List, ◌++◌, Option, Some}
use Rattle.std.specs.Io.KnownBytes.{Appends, Consumes}
use Rattle.hx_io.specs.Causes.{Rose}

-- what is known of the input and the output at one moment: the bytes that are left and those that were written
pub record Streams : Type 0 where
  pub left : Option (List ℕ)
  pub written : Option (List ℕ)

-- between two inputs the outside has lost what was taken
pub record IsTaken (from to : List ℕ) (before now : Option (List ℕ)) : Type 0 where
  pub bytes : List ℕ
  pub taken : bytes ++ to ≡ from
  pub lost : Consumes before now bytes

-- what was added between two outputs stands behind what the outside had
pub record IsPut (from to : List ℕ) (before now : Option (List ℕ)) : Type 0 where
  pub bytes : List ℕ
  pub added : from ++ bytes ≡ to
  pub put : Appends before now bytes

-- some input is found: the one that is told, else any
pub record Finds (left : Option (List ℕ)) (Of : List ℕ → Type 0) : Type 0 where
  pub input : List ℕ
  pub told : (bytes : List ℕ) → left ≡ Some bytes → input ≡ bytes
  pub does : Of input

-- ---- counts of faults

-- neither the input nor the output failed
pub record NoneFailed (reads reads' writes writes' : ℕ) : Type 0 where
  pub read : reads' ≡ reads
  pub write : writes' ≡ writes

-- the input failed
pub record ReadFailed (reads reads' writes writes' : ℕ) : Type 0 where
  pub read : Rose reads reads'
  pub write : writes' ≡ writes

-- the output failed
pub record WriteFailed (reads reads' writes writes' : ℕ) : Type 0 where
  pub read : reads' ≡ reads
  pub write : Rose writes writes'
