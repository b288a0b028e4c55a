-- Where the globals of a program stand, and the memory with which it begins.
use Rattle.std.specs.Prelude.{ℕ, ◌+◌, max, List, [], ◌∷◌, length, replicate, flat_map, sum_by, slice_index_or}
use Rattle.hx_base.specs.Memory.{Memory, le_bytes, round_up, empty_memory, write, map_range}
use Rattle.hx_base.specs.Runtime.{data_start, lookup, or_zero, with_arguments}
use Rattle.flat_code.specs.declared.program.Item.{Item}
use Rattle.flat_code.specs.declared.program.Item.TheVariants.{Number, Bytes, Symbol, Zero}
use Rattle.flat_code.specs.declared.program.Data.{Data}
use Rattle.flat_code.specs.declared.program.FlatProgram.{FlatProgram}

-- ---- where globals stand

-- the bytes that an item takes
abbrev pub item_size : Item → ℕ
item_size (Number width n) = width
item_size (Bytes bytes) = length bytes
item_size (Symbol name offset) = 8
item_size (Zero n) = n

-- the bytes that a global takes: at least one
abbrev pub data_size : Data → ℕ
data_size d = max 1 (sum_by item_size d.items)

-- the addresses of globals that stand from `at` on, each at its alignment
abbrev pub addresses_from : ℕ → List Data → List (List ℕ × ℕ)
addresses_from at [] = []
addresses_from at (d ∷ more) = (d.name, round_up at d.align) ∷ addresses_from (round_up at d.align + data_size d) more

-- the globals of a program with their addresses
abbrev pub addresses : FlatProgram → List (List ℕ × ℕ)
addresses p = addresses_from data_start p.globals

-- the address of a global, by its place in the list; 0 where there is none, which no well formed program leaves
abbrev pub address_at : FlatProgram → ℕ → ℕ
address_at p i = (slice_index_or (addresses p) i ([], 0)).1

-- the same by its name
abbrev pub address_named : FlatProgram → List ℕ → ℕ
address_named p name = or_zero (lookup name (addresses p))

-- ---- the bytes of globals

-- the bytes of an item, a number being cut to its width
abbrev pub item_bytes : FlatProgram → Item → List ℕ
item_bytes p (Number width n) = le_bytes width n
item_bytes p (Bytes bytes) = bytes
item_bytes p (Symbol name offset) = le_bytes 8 (address_named p name + offset)
item_bytes p (Zero n) = replicate n 0

-- memory with a global: all that it takes is mapped, and what has no value given holds the fill byte
abbrev pub with_global : FlatProgram → Memory → ℕ → Data → Memory
with_global p m at d = map_range (write m at (flat_map (item_bytes p) d.items)) at (data_size d)

-- memory with globals that stand from `at` on
abbrev pub with_globals : FlatProgram → Memory → ℕ → List Data → Memory
with_globals p m at [] = m
with_globals p m at (d ∷ more) = with_globals p (with_global p m (round_up at d.align) d) (round_up at d.align + data_size d) more

-- the memory with which a program begins: its globals and its arguments
abbrev pub start_memory : ℕ → FlatProgram → List (List ℕ) → Memory
start_memory fill p args = with_arguments (with_globals p (empty_memory fill) data_start p.globals) args
