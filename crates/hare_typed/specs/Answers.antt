-- What an operation gives.
use Rattle.std.specs.Prelude.{ℕ, Option, Some, None}

infixl 20 ◌then◌
-- A result, an abort with its reason, or an undefined act with its number. The numbers of both are those of docs/LANGUAGE.md.
pub data Answer (A : Type 0) : Type 0 where
  Gives : A → Answer A
  Aborts : ℕ → Answer A
  IsUndefined : ℕ → Answer A

-- what was found, and an undefined act where nothing was
abbrev pub or_undefined : {A : Type 0} → (act : ℕ) → Option A → Answer A
or_undefined u None = IsUndefined u
or_undefined u (Some a) = Gives a

-- goes on unless there is an undefined act
abbrev pub unless : {A : Type 0} → Option ℕ → Answer A → Answer A
unless None a = a
unless (Some u) a = IsUndefined u

-- goes on with the result; anything else stands
abbrev pub ◌then◌ : {A B : Type 0} → Answer A → (A → Answer B) → Answer B
Gives a then f = f a
Aborts r then f = Aborts r
IsUndefined u then f = IsUndefined u
