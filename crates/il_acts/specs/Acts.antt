-- What an answer says of what a function of the runtime does.
use Rattle.std.specs.Prelude.{◌≡◌, ◌≢◌, ℕ, ◌<◌, ◌++◌, true, false, List, [], Option, Result, Ok, Err, slice_index_or, if◌then◌else◌}
use Rattle.std.specs.declared.alloc.AllocError.{AllocError}
use Rattle.std.specs.Io.KnownBytes.{Keeps}
use Rattle.hx_base.specs.Memory.{Memory, all_mapped}
use Rattle.hx_base.specs.Runtime as runtime
use Rattle.hx_base.specs.Runtime.{World, Act}
use Rattle.hx_io.specs.Fronts.{AppendsFront}
use Rattle.hx_runtime.specs.Functions.{act}
use Rattle.hx_runtime.specs.declared.runtime.RuntimeFunction.{RuntimeFunction}
use Rattle.hx_runtime.specs.declared.runtime.RuntimeFunction.TheVariants as function
use Rattle.il_mem.specs.Kept.{Kept, meets}
use Rattle.il_mem.specs.Holds.{Holds}
use Rattle.il_mem.specs.Touched.{is_touched, HoldsTouched}
use Rattle.il_acts.specs.declared.acted.Acted.{Acted}
use Rattle.il_acts.specs.declared.acted.Acted.TheVariants as acted
use Rattle.il_acts.specs.declared.acted.RuntimeFault.{RuntimeFault}
use Rattle.il_acts.specs.declared.acted.RuntimeFault.TheVariants as fault
use Rattle.il_acts.specs.Blocks.{Blocks, HeapHolds}
use Rattle.il_acts.specs.Outside.{Streams, IsTaken, IsPut, Finds, NoneFailed, ReadFailed, WriteFailed}

-- ---- what a function acts on

-- memory, the heap and the number of arguments are those of a world. Of its input and output nothing is said.
pub record IsKept (it : Kept) (h : Blocks) (count : ℕ) (w : World) : Type 0 where
  pub memory : Holds it w.memory
  pub pages : HoldsTouched it w.memory
  pub heap : HeapHolds h w.heap
  pub arguments : count ≡ w.arguments

-- ---- what an answer says

-- what a call leaves: memory, the heap and the number of arguments, and the outside before and behind it
pub record Left : Type 0 where
  pub memory : Kept
  pub heap : Blocks
  pub arguments : ℕ
  pub before : Streams
  pub now : Streams

-- it leaves a world: that is kept, what its input has lost was taken, and what its output has more was put
pub record Leaves (l : Left) (from to : World) : Type 0 where
  pub kept : IsKept l.memory l.heap l.arguments to
  pub read : IsTaken from.input to.input l.before.left l.now.left
  pub written : IsPut from.output to.output l.before.written l.now.written

-- the function gives this value, having moved so many bytes
pub record GivesValue (l : Left) (does : Act) (value moved : ℕ) (w : World) : Type 0 where
  pub to : World
  pub is : does ≡ runtime.Gives value moved to
  pub leaves : Leaves l w to

-- the function ends the program so, and nothing changes
pub record EndsBy (l : Left) (does end : Act) (w : World) : Type 0 where
  pub is : does ≡ end
  pub leaves : Leaves l w w

-- how many bytes of input a function asks for: a read as many as it is to read, where all are mapped where they go
abbrev pub asked : RuntimeFunction → List ℕ → World → ℕ
asked function.Puts args w = 0
asked function.Write args w = 0
asked function.Read args w = if all_mapped w.memory (slice_index_or args 0 0) (slice_index_or args 1 0) then slice_index_or args 1 0 else 0
asked function.Malloc args w = 0
asked function.Free args w = 0
asked function.Move args w = 0
asked function.Same args w = 0
asked function.Abort args w = 0
asked function.Exit args w = 0
asked function.Nargs args w = 0
asked function.Arg args w = 0

-- a read failed: the function asks for so many bytes, and nothing was put
pub record FailsToRead (l : Left) (bytes : ℕ) : Type 0 where
  pub asks : 0 < bytes
  pub put : Keeps l.before.written l.now.written

-- a write failed: the function has new output, of which a front was put, and nothing was taken
pub record FailsToWrite (l : Left) (does : Act) (w : World) : Type 0 where
  pub value : ℕ
  pub moved : ℕ
  pub to : World
  pub is : does ≡ runtime.Gives value moved to
  pub bytes : List ℕ
  pub some : bytes ≢ []
  pub added : w.output ++ bytes ≡ to.output
  pub front : AppendsFront l.before.written l.now.written bytes
  pub taken : Keeps l.before.left l.now.left

-- the fault of the definition
abbrev pub fault_of : RuntimeFault → runtime.RuntimeFault
fault_of fault.Wild = runtime.Wild
fault_of fault.BadFree = runtime.BadFree
fault_of fault.BadArg = runtime.BadArg

-- what an answer says of what a function does from a world
abbrev pub Does : Left → RuntimeFunction → List ℕ → World → Acted → Type 0
Does l f args w (acted.Gives value moved) = GivesValue l (act f args w) value moved w
Does l f args w (acted.Exits status) = EndsBy l (act f args w) (runtime.Exits status) w
Does l f args w (acted.Aborts text) = EndsBy l (act f args w) (runtime.Aborts text) w
Does l f args w (acted.Faults x) = EndsBy l (act f args w) (runtime.Faults (fault_of x)) w
Does l f args w acted.Full = EndsBy l (act f args w) runtime.Full w
Does l f args w acted.ReadFault = FailsToRead l (asked f args w)
Does l f args w acted.WriteFault = FailsToWrite l (act f args w) w

-- ---- want of memory

-- a function gives a value, and does not end the program
abbrev pub GoesOn : Act → Type 0
GoesOn (runtime.Gives value moved w) = Unit {0}
GoesOn (runtime.Exits status) = ⊥
GoesOn (runtime.Aborts text) = ⊥
GoesOn (runtime.Faults x) = ⊥
GoesOn runtime.Full = ⊥

-- a function that goes on is to write to the `n` addresses from `at` on, and one of them lies in a page of which no byte was written
pub record WritesFreshPage (does : Act) (m : Memory) (at n : ℕ) : Type 0 where
  pub goes : GoesOn does
  pub page : ℕ
  pub met : meets at n page ≡ true
  pub fresh : is_touched m page ≡ false

-- what a function may want memory for with these arguments: a block, the text of an abort, or a page. A read takes the pages of all that
-- it asks for, whatever it gets.
abbrev pub Wants : World → RuntimeFunction → List ℕ → Type 0
Wants w function.Puts args = ⊥
Wants w function.Write args = ⊥
Wants w function.Read args = WritesFreshPage (act function.Read args w) w.memory (slice_index_or args 0 0) (slice_index_or args 1 0)
Wants w function.Malloc args = Unit {0}
Wants w function.Free args = ⊥
Wants w function.Move args = WritesFreshPage (act function.Move args w) w.memory (slice_index_or args 0 0) (slice_index_or args 2 0)
Wants w function.Same args = ⊥
Wants w function.Abort args = Unit {0}
Wants w function.Exit args = ⊥
Wants w function.Nargs args = ⊥
Wants w function.Arg args = ⊥

-- memory is wanted for this: the same world is kept
pub record Waits (l : Left) (w : World) (Wanted : Type 0) : Type 0 where
  pub kept : IsKept l.memory l.heap l.arguments w
  pub wants : Wanted

-- what a call answers where memory, the heap and the arguments are those of `w`. The input is that which is told; where none is, it is
-- some.
abbrev pub Answers : Left → RuntimeFunction → List ℕ → World → Result Acted AllocError → Type 0
Answers l f args w (Ok a) = Finds l.before.left (λ input. Does l f args (record w { input = input }) a)
Answers l f args w (Err wants) = Waits l w (Wants w f args)

-- the same of a call that has to do with memory and the heap alone
abbrev pub AnswersAlone : (memory memory' : Kept) (heap heap' : Blocks) → RuntimeFunction → List ℕ → Result Acted AllocError → Type 0
AnswersAlone memory memory' heap heap' f args result = (s : Streams) (arguments : ℕ) (w : World) → IsKept memory heap arguments w → Answers
    (record { memory = memory'; heap = heap'; arguments = arguments; before = s; now = s }) f args w result

-- of one that looks at the number of arguments alone
abbrev pub AnswersCounting : ℕ → RuntimeFunction → List ℕ → Acted → Type 0
AnswersCounting arguments f args result =
    (memory : Kept) (heap : Blocks) (s : Streams) (w : World) → IsKept memory heap arguments w → Answers
    (record { memory = memory; heap = heap; arguments = arguments; before = s; now = s }) f args w (Ok result)

-- of one that puts to the output, and changes neither memory nor the heap
abbrev pub AnswersByPutting : Kept → (written written' : Option (List ℕ)) → RuntimeFunction → List ℕ → Acted → Type 0
AnswersByPutting memory written written' f args result = (left : Option (List ℕ)) (heap : Blocks) (arguments : ℕ) (w : World) →
    IsKept memory heap arguments w → Answers (record {
      memory = memory;
      heap = heap;
      arguments = arguments;
      before = record { left = left; written = written };
      now = record { left = left; written = written' };
    }) f args w (Ok result)

-- of one that takes of the input, and does not change the heap
abbrev pub AnswersByTaking : (memory memory' : Kept) → (left left' : Option (List ℕ)) → RuntimeFunction → List ℕ →
    Result Acted AllocError → Type 0
AnswersByTaking memory memory' left left' f args result = (written : Option (List ℕ)) (heap : Blocks) (arguments : ℕ) (w : World) →
    IsKept memory heap arguments w → Answers (record {
      memory = memory';
      heap = heap;
      arguments = arguments;
      before = record { left = left; written = written };
      now = record { left = left'; written = written };
    }) f args w result

-- ---- counts of faults

-- exactly the count of what failed rose
abbrev pub CountsActs : (reads reads' writes writes' : ℕ) → Result Acted AllocError → Type 0
CountsActs r r' w w' (Ok (acted.Gives value moved)) = NoneFailed r r' w w'
CountsActs r r' w w' (Ok (acted.Exits status)) = NoneFailed r r' w w'
CountsActs r r' w w' (Ok (acted.Aborts text)) = NoneFailed r r' w w'
CountsActs r r' w w' (Ok (acted.Faults x)) = NoneFailed r r' w w'
CountsActs r r' w w' (Ok acted.Full) = NoneFailed r r' w w'
CountsActs r r' w w' (Ok acted.ReadFault) = ReadFailed r r' w w'
CountsActs r r' w w' (Ok acted.WriteFault) = WriteFailed r r' w w'
CountsActs r r' w w' (Err wants) = NoneFailed r r' w w'

-- a call that calls neither the input nor the output
abbrev pub CallsNothing : Result Acted AllocError → Type 0
CallsNothing result = (r w : ℕ) → CountsActs r r w w result
