-- What flat code acts on, how a statement ends, and what operands are worth.
use Rattle.std.specs.Prelude.{ℕ, zero, suc, ◌+◌, ◌*◌, ◌%◌, ◌^◌, List, [], ◌∷◌, Option, None, Some, nat_eq, if◌then◌else◌}
use Rattle.hx_base.specs.declared.Class.{Class}
use Rattle.hx_base.specs.Memory.{Memory}
pub use Rattle.hx_base.specs.Operations.{cut}
use Rattle.hx_base.specs.Runtime.{World}
use Rattle.flat_code.specs.declared.program.FlatProgram.{FlatProgram}
use Rattle.flat_code.specs.declared.value.Value.{Value}
use Rattle.flat_code.specs.declared.value.Value.TheVariants.{Temp, Number, Symbol, Frame}
use Rattle.flat_code.specs.Addresses.{address_at}

-- ---- states

-- what flat code acts on
pub record State : Type 0 where
  pub world : World
  pub temps : List (ℕ × ℕ)  -- what the call's temporaries hold, the newest first
  pub frame : ℕ  -- where the frame of the call begins
  pub top : ℕ  -- where the next frame begins
  pub steps : ℕ  -- the flat steps so far
  pub cost : ℕ  -- what the calls that are active cost the stack
  pub most : ℕ  -- the most that they cost it so far

-- what a temporary holds. One that was not set has the fill byte in each of its eight bytes: 72340172838076673 is eight bytes of 1.
abbrev pub temp_value : ℕ → List (ℕ × ℕ) → ℕ → ℕ
temp_value fill [] t = fill * 72340172838076673
temp_value fill (x ∷ more) t = if nat_eq x.0 t then x.1 else temp_value fill more t

-- the value of an operand
abbrev pub value_of : FlatProgram → State → Value → ℕ
value_of p s (Temp t) = temp_value s.world.memory.fill s.temps t
value_of p s (Number n) = n
value_of p s (Symbol i offset) = (address_at p i + offset) % 2 ^ 64
value_of p s (Frame offset) = (s.frame + offset) % 2 ^ 64

-- the state with a temporary set to a value, cut to a class
abbrev pub set_temp : State → ℕ → Class → ℕ → State
set_temp s t class v = record s { temps = (t, cut class v) ∷ s.temps }

-- the same where a temporary is named and a value of some class is given
abbrev pub give : State → Option ℕ → Option Class → ℕ → State
give s None class v = s
give s (Some t) None v = s
give s (Some t) (Some class) v = set_temp s t class v

-- the state with other memory
abbrev pub with_memory : State → Memory → State
with_memory s m = record s { world = record s.world { memory = m } }

-- the state after so many flat steps more
abbrev pub stepped : ℕ → State → State
stepped n s = record s { steps = s.steps + n }

-- ---- ends

-- what is found wrong. NoFunction, a call of a function that is neither in the program nor in the runtime, never comes of a well formed
-- program.
pub data FlatFault : Type 0 where
  Wild Overlap BadFree BadArg ZeroDivisor NoFunction : FlatFault

-- how a statement ends: it goes on behind itself or behind a Seq or Loop round it, it returns from its function with a value, 0 where it
-- has none, or it ends the program
pub data Flow : Type 0 where
  Next : Flow
  Left : (k : ℕ) → Flow
  Returned : (value : ℕ) → Flow
  Exit : (status : ℕ) → Flow
  Abort : (text : List ℕ) → Flow
  Fault : FlatFault → Flow
  HeapFull : Flow  -- a block of the heap would end too high
  Spent : Flow  -- no turn was left

-- how a statement ends, and the state then
abbrev pub Result : Type 0
Result = Flow × State

-- ---- ends put together

-- what a statement and all behind it give
abbrev pub then_go : Result → (State → Result) → Result
then_go (Next, s) go = go s
then_go (Left k, s) go = (Left k, s)
then_go (Returned v, s) go = (Returned v, s)
then_go (Exit k, s) go = (Exit k, s)
then_go (Abort b, s) go = (Abort b, s)
then_go (Fault f, s) go = (Fault f, s)
then_go (HeapFull, s) go = (HeapFull, s)
then_go (Spent, s) go = (Spent, s)

-- what a Seq gives, whose statements give this
abbrev pub caught : Result → Result
caught (Next, s) = (Next, s)
caught (Left zero, s) = (Next, s)
caught (Left (suc k), s) = (Left k, s)
caught (Returned v, s) = (Returned v, s)
caught (Exit k, s) = (Exit k, s)
caught (Abort b, s) = (Abort b, s)
caught (Fault f, s) = (Fault f, s)
caught (HeapFull, s) = (HeapFull, s)
caught (Spent, s) = (Spent, s)

-- what a Loop gives, whose body gives this and which then turns again
abbrev pub then_turn : Result → (State → Result) → Result
then_turn (Next, s) go = go s
then_turn (Left zero, s) go = (Next, s)
then_turn (Left (suc k), s) go = (Left k, s)
then_turn (Returned v, s) go = (Returned v, s)
then_turn (Exit k, s) go = (Exit k, s)
then_turn (Abort b, s) go = (Abort b, s)
then_turn (Fault f, s) go = (Fault f, s)
then_turn (HeapFull, s) go = (HeapFull, s)
then_turn (Spent, s) go = (Spent, s)

-- the first where no turn is left, else the second
abbrev pub spends : ℕ → Result → Result → Result
spends zero spent r = spent
spends (suc n) spent r = r
