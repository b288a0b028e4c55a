-- What a call of the top saw of the objects of the outside: their counts of faults, and the bytes that they told, before and after it.
use Rattle.std.specs.Prelude.{◌≡◌, ℕ, ◌<◌, List, take, Option, Result, Ok, Err}
use Rattle.std.specs.Io.KnownBytes.{Appends}

-- a count of faults before and after the call
pub record Count : Type 0 where
  pub before : ℕ
  pub now : ℕ

-- some call of the object failed
abbrev pub HasRisen : Count → Type 0
HasRisen c = c.before < c.now

-- none did
abbrev pub Stands : Count → Type 0
Stands c = c.now ≡ c.before

-- what was written to an object: its count, and the bytes that it held before and that it holds now, where it tells them
pub record Sent : Type 0 where
  pub faults : Count
  pub before : Option (List ℕ)
  pub now : Option (List ℕ)

-- the same, from its parts
abbrev pub sent : ℕ → ℕ → Option (List ℕ) → Option (List ℕ) → Sent
sent faults_before faults_now before now = record
    { faults = record { before = faults_before; now = faults_now }; before = before; now = now }

-- what was read of an object: its count, and the bytes that it had left before and that it has left now, where it tells them
pub record Received : Type 0 where
  pub faults : Count
  pub before : Option (List ℕ)
  pub now : Option (List ℕ)

-- the same, from its parts
abbrev pub received : ℕ → ℕ → Option (List ℕ) → Option (List ℕ) → Received
received faults_before faults_now before now = record
    { faults = record { before = faults_before; now = faults_now }; before = before; now = now }

-- just these bytes were written, and no write failed
pub record IsSent (bytes : List ℕ) (s : Sent) : Type 0 where
  pub stands : Stands s.faults
  pub written : Appends s.before s.now bytes

-- a write failed, and a front of these bytes was written
pub record IsCutOff (bytes : List ℕ) (s : Sent) : Type 0 where
  pub risen : HasRisen s.faults
  pub count : ℕ
  pub written : Appends s.before s.now (take count bytes)

-- what a write of these bytes did, by its result
abbrev pub Writes : {T E : Type 0} → List ℕ → Sent → Result T E → Type 0
Writes bytes s (Ok done) = IsSent bytes s
Writes bytes s (Err failed) = IsCutOff bytes s
