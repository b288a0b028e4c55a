-- What the call that lays out a file answers.
use Rattle.std.specs.Prelude.{◌≡◌, ℕ, List, ◌⊎◌, Result, MatchResult}
use Rattle.hare_tree.specs.declared.place.Fault as fault
use Rattle.hare_tree.specs.declared.stop.Stop.{Stop}
use Rattle.hare_tree.specs.declared.stop.Stop.TheVariants.{Fault, Memory}

-- the call gives this text, or there was not enough memory
abbrev pub GivesText : List ℕ → Result (List ℕ) (Stop fault.Fault) → Type 0
GivesText text result = MatchResult result (λ found. found ≡ text) (λ e. e ≡ Memory)

-- the call gives this fault, or there was not enough memory
abbrev pub GivesFault : fault.Fault → Result (List ℕ) (Stop fault.Fault) → Type 0
GivesFault f result = MatchResult result (λ found. ⊥) (λ e. (e ≡ Memory) ⊎ (e ≡ Fault f))
