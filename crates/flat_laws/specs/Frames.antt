-- What a call of a function maps and leaves mapped.
use Rattle.std.specs.Prelude.{◌≡◌, ℕ, ◌+◌, ◌%◌, ◌<◌, ◌≤◌, ◌⊎◌, List, true, false}
use Rattle.hx_base.specs.Memory.{byte_at, is_mapped, round_up}
use Rattle.flat_code.specs.declared.program.FlatFn.{FlatFn}
use Rattle.flat_code.specs.declared.program.FlatProgram.{FlatProgram}
use Rattle.flat_code.specs.Costs.{call_cost}
use Rattle.flat_code.specs.Shape.{code_of}
use Rattle.flat_code.specs.State.{State, Result}
use Rattle.flat_code.specs.Evaluation.{entered, left, flat_below}
use Rattle.flat_laws.specs.Runs.{GoesOn}
use Rattle.flat_laws.specs.Calls.{IsSameCall}

-- what a call maps as the function begins
pub record IsEntered (s : State) (f : FlatFn) (s' : State) : Type 0 where
  pub frame : s'.frame ≡ s.top
  pub mapped : (a : ℕ) → s.top ≤ a → a < s.top + f.frame → is_mapped s'.world.memory a ≡ true
  pub others : (a : ℕ) → (a < s.top) ⊎ (s.top + f.frame ≤ a) → is_mapped s'.world.memory a ≡ is_mapped s.world.memory a
  pub bytes : (a : ℕ) → byte_at s'.world.memory a ≡ byte_at s.world.memory a
  -- the next frame begins behind its own, at a multiple of 16 if its own does, and the cost of the call is added
  pub top : s'.top ≡ s.top + round_up f.frame 16
  pub aligned : s.top % 16 ≡ 0 → s'.top % 16 ≡ 0
  pub cost : s'.cost ≡ s.cost + call_cost f
  -- all else is as the caller left it
  pub heap : s'.world.heap ≡ s.world.heap
  pub input : s'.world.input ≡ s.world.input
  pub output : s'.world.output ≡ s.world.output
  pub steps : s'.steps ≡ s.steps

-- and what it leaves mapped as the caller goes on, from `s'` in which the function ended
pub record IsLeft (s : State) (f : FlatFn) (s' s'' : State) : Type 0 where
  pub unmapped : (a : ℕ) → s.top ≤ a → a < s.top + round_up f.frame 16 → is_mapped s''.world.memory a ≡ false
  pub others : (a : ℕ) → (a < s.top) ⊎ (s.top + round_up f.frame 16 ≤ a) → is_mapped s''.world.memory a ≡ is_mapped s'.world.memory a
  pub bytes : (a : ℕ) → byte_at s''.world.memory a ≡ byte_at s'.world.memory a
  -- the frame that was mapped is within what is unmapped
  pub within : f.frame ≤ round_up f.frame 16
  -- all else is as the function left it
  pub heap : s''.world.heap ≡ s'.world.heap
  pub input : s''.world.input ≡ s'.world.input
  pub output : s''.world.output ≡ s'.world.output
  pub steps : s''.steps ≡ s'.steps
  pub most : s''.most ≡ s'.most
  -- but the caller goes on in its own call, with its own temporaries
  pub call : IsSameCall s s''
  pub temps : s''.temps ≡ s.temps

-- a call of a function of the program: how its body begins, and how the caller goes on behind it
pub record IsApart (s : State) (f : FlatFn) (begun : State) (r : Result) : Type 0 where
  pub enters : IsEntered s f begun
  pub leaves : GoesOn r.0 → IsLeft s f r.1 (left s r.1)

abbrev pub CallsStayApart : Type 0
CallsStayApart =
    (p : FlatProgram) (n : ℕ) (s : State) (f : FlatFn) (vs : List ℕ)
    → IsApart s f (entered s f vs) (flat_below p n (code_of f.body) (entered s f vs))
