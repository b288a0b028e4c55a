-- Where a program's things stand, what it acts on, and what the functions of the runtime do there. All that runs, structured code, the
-- intermediate language and Hare itself, cites this one account. Which functions there are stands in hx_runtime (specs/Functions).
use Rattle.std.specs.Prelude.{ℕ, ◌+◌, ◌*◌, ◌^◌, max, Bool, List, [], ◌∷◌, ◌++◌, length, take, drop, sum_by, Option, None, Some, nat_eq, nat_lt, bytes_eq, if◌then◌else◌}
use Rattle.hx_base.specs.Memory.{Memory, le_bytes, round_up, all_mapped, bytes_at, write, map_range, unmap_range, clear_range, move, same}

-- ---- where things stand

-- the address of the first function, and from one function to the next
abbrev pub functions_start : ℕ
functions_start = 2 ^ 32

abbrev pub function_step : ℕ
function_step = 16

-- where the first data item begins, or the next address of its alignment
abbrev pub data_start : ℕ
data_start = 2 ^ 33

-- where the table of arguments begins
abbrev pub arguments_start : ℕ
arguments_start = 2 ^ 36

-- the bytes of a record of an argument
abbrev pub record_size : ℕ
record_size = 24

-- where the stack begins
abbrev pub stack_start : ℕ
stack_start = 2 ^ 40

-- where the first block of the heap begins
abbrev pub heap_start : ℕ
heap_start = 2 ^ 48

-- above which no block of the heap ends
abbrev pub heap_end : ℕ
heap_end = 2 ^ 63

-- how many bytes live blocks have at most, each counted as the next multiple of 16
abbrev pub heap_size : ℕ
heap_size = 67108864

-- ---- what stands beside names

-- what stands beside a name in a list
abbrev pub lookup : {A : Type 0} → List ℕ → List (List ℕ × A) → Option A
lookup name [] = None
lookup name (x ∷ xs) = if bytes_eq x.0 name then Some x.1 else lookup name xs

-- a number, or 0 where there is none
abbrev pub or_zero : Option ℕ → ℕ
or_zero None = 0
or_zero (Some n) = n

-- ---- what a program acts on

-- the heap: where its next block begins, and the live blocks, each with where it begins and its bytes
pub record Heap : Type 0 where
  pub next : ℕ
  pub blocks : List (ℕ × ℕ)

-- what a program acts on: memory, the heap, the input that is left, the output so far, and the number of its arguments
pub record World : Type 0 where
  pub memory : Memory
  pub heap : Heap
  pub input : List ℕ
  pub output : List ℕ
  pub arguments : ℕ

-- what a function of the runtime finds wrong
pub data RuntimeFault : Type 0 where
  Wild : RuntimeFault
  BadFree : RuntimeFault
  BadArg : RuntimeFault

-- what a call of the runtime does: it gives a value, 0 where it has none, having moved so many bytes, or it ends the program
pub data Act : Type 0 where
  Gives : (value moved : ℕ) → World → Act
  Exits : (status : ℕ) → Act
  Aborts : (text : List ℕ) → Act
  Faults : RuntimeFault → Act
  Full : Act

-- ---- output and input

-- the `n` bytes at `p` are added to the output
abbrev pub put : World → ℕ → ℕ → Act
put w p n = if all_mapped w.memory p n then Gives 0 n (record w { output = w.output ++ bytes_at w.memory p n }) else Faults Wild

-- the next bytes of the input, `n` where there are as many, go to `p`; gives their number. All `n` are to be mapped before any input is
-- taken.
abbrev pub read : World → ℕ → ℕ → Act
read w p n =
    let taken = take n w.input in
    if all_mapped w.memory p n
    then Gives (length taken) (length taken) (record w { memory = write w.memory p taken; input = drop n w.input })
    else Faults Wild

-- ---- the heap

-- how many bytes the live blocks have, each counted as the next multiple of 16
abbrev pub live_bytes : List (ℕ × ℕ) → ℕ
live_bytes blocks = sum_by (λ b. round_up b.1 16) blocks

-- a new block of so many bytes at the next multiple of 16 above all earlier ones, whose bytes hold the fill byte
abbrev pub new_block : World → ℕ → World
new_block w size = record w {
  memory = map_range w.memory w.heap.next size;
  heap = record { next = w.heap.next + round_up size 16; blocks = (w.heap.next, size) ∷ w.heap.blocks };
}

-- a new block of `max 1 n` bytes: 0 where too many bytes would be live, which is looked at first, and full where it would end too high
abbrev pub malloc : World → ℕ → Act
malloc w n =
    let size = max 1 n in
    if nat_lt heap_size (live_bytes w.heap.blocks + round_up size 16) then Gives 0 0 w
    else if nat_lt heap_end (w.heap.next + size) then Full
    else Gives w.heap.next 0 (new_block w size)

-- the bytes of the live block that begins at an address
abbrev pub block_size : List (ℕ × ℕ) → ℕ → Option ℕ
block_size [] p = None
block_size (b ∷ bs) p = if nat_eq b.0 p then Some b.1 else block_size bs p

-- the live blocks without the one that begins at an address
abbrev pub without_block : List (ℕ × ℕ) → ℕ → List (ℕ × ℕ)
without_block [] p = []
without_block (b ∷ bs) p = if nat_eq b.0 p then bs else b ∷ without_block bs p

-- what `free` does where the block that begins at `p` has so many bytes, if there is one
abbrev pub freed : World → ℕ → Option ℕ → Act
freed w p None = Faults BadFree
freed w p (Some n) = Gives 0 0 (record w {
  memory = clear_range (unmap_range w.memory p n) p n;
  heap = record { next = w.heap.next; blocks = without_block w.heap.blocks p };
})

-- the live block that begins at `p` is unmapped, and its bytes hold the fill byte again
abbrev pub free : World → ℕ → Act
free w p = freed w p (block_size w.heap.blocks p)

-- ---- bytes

-- what a copy does, by the memory behind it, if there is one
abbrev pub moved : World → ℕ → Option Memory → Act
moved w n None = Faults Wild
moved w n (Some m) = Gives 0 n (record w { memory = m })

-- `n` bytes are copied, where the ranges may overlap
abbrev pub move_bytes : World → ℕ → ℕ → ℕ → Act
move_bytes w to from n = moved w n (move w.memory to from n)

-- what a comparison gives, if all bytes are mapped
abbrev pub compared : World → ℕ → Option Bool → Act
compared w n None = Faults Wild
compared w n (Some equal) = Gives (if equal then 1 else 0) n w

-- 1 where `n` bytes at two addresses are equal, else 0
abbrev pub same_bytes : World → ℕ → ℕ → ℕ → Act
same_bytes w a b n = compared w n (same w.memory a b n)

-- ---- ends

-- the program aborts with the `n` bytes at `p` as text
abbrev pub abort : World → ℕ → ℕ → Act
abort w p n = if all_mapped w.memory p n then Aborts (bytes_at w.memory p n) else Faults Wild

-- ---- arguments

-- the address of the record of an argument
abbrev pub arg : World → ℕ → Act
arg w i = if nat_lt i w.arguments then Gives (arguments_start + record_size * i) 0 w else Faults BadArg

-- the bytes that an argument takes
abbrev pub argument_size : List ℕ → ℕ
argument_size a = max 1 (length a)

-- the records of arguments whose bytes begin at an address: each has the argument's address and, twice, its length
abbrev pub argument_records : ℕ → List (List ℕ) → List ℕ
argument_records at [] = []
argument_records at (a ∷ more) =
    le_bytes 8 at ++ le_bytes 8 (length a) ++ le_bytes 8 (length a) ++ argument_records (at + argument_size a) more

-- the bytes of arguments are written, one argument behind the other
abbrev pub write_arguments : Memory → ℕ → List (List ℕ) → Memory
write_arguments m at [] = m
write_arguments m at (a ∷ more) = write_arguments (write m at a) (at + argument_size a) more

-- memory with the table of arguments: a record for each, and then the bytes of each
abbrev pub with_arguments : Memory → List (List ℕ) → Memory
with_arguments m args =
    let texts = arguments_start + record_size * length args in
    map_range (write_arguments (write m arguments_start (argument_records texts args)) texts args) arguments_start
    (record_size * length args + sum_by argument_size args)
