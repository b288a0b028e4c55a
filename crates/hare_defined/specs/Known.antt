-- Types of which it is known that they mention no name that is not defined.
use Rattle.std.specs.Prelude.{ℕ, List, Contains}
use Rattle.hare_types.specs.Store.{Store}
use Rattle.hare_types.specs.Sound.{IsStore}
use Rattle.hare_types.specs.Later.{IsLater}
use Rattle.rule_judge.specs.Defined.{IsDefined}

-- each of these types is in the store, and mentions no name that is not defined
abbrev pub AreDefined : Store → List ℕ → Type 0
AreDefined s ts = (t : ℕ) → Contains ts t → IsDefined s t

-- they stay so as the store grows
abbrev pub DefinedTypesStay : Type 0
DefinedTypesStay = (now later : Store) (ts : List ℕ) → IsStore now → IsLater now later → AreDefined now ts → AreDefined later ts
