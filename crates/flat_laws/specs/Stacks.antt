-- What is mapped below the heap.
use Rattle.std.specs.Prelude.{◌≡◌, ℕ, ◌<◌, ◌≤◌, false}
use Rattle.hx_base.specs.Memory.{is_mapped}
use Rattle.hx_base.specs.Runtime.{heap_start}
use Rattle.flat_code.specs.State.{State, Result}
use Rattle.flat_laws.specs.Runs.{GoesOn}
use Rattle.flat_laws.specs.Heaps.{IsHeap}

-- from where the next frame begins up to the heap nothing is mapped
abbrev pub IsClear : State → Type 0
IsClear s = (a : ℕ) → s.top ≤ a → a < heap_start → is_mapped s.world.memory a ≡ false

-- the same is mapped in both states below where the next frame begins, as far as that is below the heap
abbrev pub IsSameBelow : State → State → Type 0
IsSameBelow s s' = (a : ℕ) → a < s.top → a < heap_start → is_mapped s'.world.memory a ≡ is_mapped s.world.memory a

-- of a state with a heap as programs make it, and what code gives in it
pub record IsStackKept (s : State) (r : Result) : Type 0 where
  -- however the code ends
  pub below : IsSameBelow s r.1
  pub clear : GoesOn r.0 → IsClear s → IsClear r.1
  -- so what calls mapped is unmapped again, and nothing else
  pub same : GoesOn r.0 → IsClear s → (a : ℕ) → a < heap_start → is_mapped r.1.world.memory a ≡ is_mapped s.world.memory a

abbrev pub KeepsTheStack : State → Result → Type 0
KeepsTheStack s r = IsHeap s.world.heap → IsStackKept s r
