-- In which call code goes on.
use Rattle.std.specs.Prelude.{◌≡◌}
use Rattle.flat_code.specs.State.{State, Result}
use Rattle.flat_laws.specs.Runs.{GoesOn}

-- two states in the same call, with the same frame and the same calls round it
pub record IsSameCall (s s' : State) : Type 0 where
  pub frame : s'.frame ≡ s.frame
  pub top : s'.top ≡ s.top
  pub cost : s'.cost ≡ s.cost

abbrev pub KeepsItsCall : State → Result → Type 0
KeepsItsCall s r = GoesOn r.0 → IsSameCall s r.1
