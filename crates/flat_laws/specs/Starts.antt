-- What a program begins with: where its globals and its arguments stand, what stands there, and what is mapped.
use Rattle.std.specs.Prelude.{◌≡◌, ℕ, ◌+◌, ◌*◌, ◌%◌, ◌^◌, ◌<◌, ◌≤◌, true, false, List, ◌++◌, length, take, flat_map, sum_by, slice_get, Option, None, Some}
use Rattle.hx_base.specs.Memory.{Memory, le_bytes, bytes_at, is_mapped, all_mapped}
use Rattle.hx_base.specs.Runtime.{arguments_start, record_size, argument_size, data_start, stack_start}
use Rattle.flat_code.specs.declared.program.Data.{Data}
use Rattle.flat_code.specs.declared.program.FlatProgram.{FlatProgram}
use Rattle.flat_code.specs.Addresses.{data_size, item_bytes, address_at, address_named, start_memory}
use Rattle.flat_code.specs.Run.{start_world, before_calls}
use Rattle.flat_code.specs.State.{State}
use Rattle.flat_code.specs.WellFormed.{IsWellFormed, global_size}
use Rattle.flat_laws.specs.Heaps.{IsHeap}
use Rattle.flat_laws.specs.Stacks.{IsClear}

-- ---- globals

-- where a global stands, and what stands there
pub record IsGlobal (p : FlatProgram) (m : Memory) (at : ℕ) (d : Data) : Type 0 where
  -- the bytes of its items
  pub bytes : bytes_at m at (global_size d) ≡ flat_map (item_bytes p) d.items
  -- all of it is mapped, a byte at least
  pub mapped : all_mapped m at (data_size d) ≡ true
  -- its address is that of its name, and a multiple of its alignment
  pub named : address_named p d.name ≡ at
  pub aligned : at % d.align ≡ 0
  -- it lies below the arguments
  pub from : data_start ≤ at
  pub below : at + data_size d ≤ arguments_start

abbrev pub GlobalsStand : Type 0
GlobalsStand =
    (fill : ℕ) (p : FlatProgram) (args : List (List ℕ)) (i : ℕ) (d : Data)
    → IsWellFormed p
    → slice_get p.globals i ≡ Some d
    → IsGlobal p (start_memory fill p args) (address_at p i) d

-- ---- arguments

-- where the record of an argument stands, and where its bytes do: behind all records, one argument behind the other
abbrev pub record_address : ℕ → ℕ
record_address i = arguments_start + record_size * i

abbrev pub argument_address : List (List ℕ) → ℕ → ℕ
argument_address args i = record_address (length args) + sum_by argument_size (take i args)

-- where arguments end
abbrev pub arguments_end : List (List ℕ) → ℕ
arguments_end args = record_address (length args) + sum_by argument_size args

-- what stands in memory of an argument
pub record IsArgument (args : List (List ℕ)) (m : Memory) (i : ℕ) (a : List ℕ) : Type 0 where
  -- its record has its address and, twice, its length
  pub recorded :
      bytes_at m (record_address i) record_size ≡ le_bytes 8 (argument_address args i) ++ le_bytes 8 (length a) ++ le_bytes 8 (length a)
  pub record_mapped : all_mapped m (record_address i) record_size ≡ true
  -- its bytes, of which one is mapped at least
  pub bytes : bytes_at m (argument_address args i) (length a) ≡ a
  pub mapped : all_mapped m (argument_address args i) (argument_size a) ≡ true
  pub below : argument_address args i + argument_size a ≤ arguments_end args

abbrev pub ArgumentsStand : Type 0
ArgumentsStand =
    (fill : ℕ) (p : FlatProgram) (args : List (List ℕ)) (i : ℕ) (a : List ℕ)
    → slice_get args i ≡ Some a
    → IsArgument args (start_memory fill p args) i a

-- ---- what is mapped

-- a part of memory with which a program begins: a global, the record of an argument or the bytes of one, by its place in the list
pub data Part : Type 0 where
  Global Record Text : (i : ℕ) → Part

-- what an element of a list takes; nothing where there is none
abbrev pub taken : {A : Type 0} → (A → ℕ) → Option A → ℕ
taken size None = 0
taken size (Some x) = size x

module _ (p : FlatProgram) (args : List (List ℕ)) where
  abbrev pub part_start : Part → ℕ
  part_start (Global i) = address_at p i
  part_start (Record i) = record_address i
  part_start (Text i) = argument_address args i

  abbrev pub part_size : Part → ℕ
  part_size (Global i) = taken data_size (slice_get p.globals i)
  part_size (Record i) = taken (λ (a : List ℕ). record_size) (slice_get args i)
  part_size (Text i) = taken argument_size (slice_get args i)

  -- an address is one of the part's
  pub record IsIn (part : Part) (a : ℕ) : Type 0 where
    pub from : part_start part ≤ a
    pub below : a < part_start part + part_size part

  -- an address is one of some part's
  pub record IsTaken (a : ℕ) : Type 0 where
    pub part : Part
    pub inside : IsIn part a

-- the arguments end below 2 ^ 37
abbrev pub HaveRoom : List (List ℕ) → Type 0
HaveRoom args = arguments_end args ≤ 2 ^ 37

-- how a program begins, before `main` is called
pub record IsLaidOut (p : FlatProgram) (args : List (List ℕ)) (s : State) : Type 0 where
  -- no two parts have an address in common
  pub apart : (x y : Part) (a : ℕ) → IsIn p args x a → IsIn p args y a → x ≡ y
  -- what is mapped is what they take, all of which lies between 2 ^ 33 and 2 ^ 37
  pub mapped : (a : ℕ) → IsTaken p args a → is_mapped s.world.memory a ≡ true
  pub only : (a : ℕ) → is_mapped s.world.memory a ≡ true → IsTaken p args a
  pub within : (a : ℕ) → IsTaken p args a → (data_start ≤ a) × (a < 2 ^ 37)
  -- so nothing is mapped from where the first frame begins on
  pub above : (a : ℕ) → stack_start ≤ a → is_mapped s.world.memory a ≡ false
  -- the heap is one as programs make it, and the frames begin below it in memory that is not mapped
  pub heap : IsHeap s.world.heap
  pub clear : IsClear s
  pub aligned : s.top % 16 ≡ 0
  pub cost : s.cost ≤ s.most

abbrev pub ProgramsAreLaidOut : Type 0
ProgramsAreLaidOut =
    (p : FlatProgram) (args : List (List ℕ)) (input : List ℕ) (fill : ℕ)
    → IsWellFormed p
    → HaveRoom args
    → IsLaidOut p args (before_calls (start_world p args input fill))
