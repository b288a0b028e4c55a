-- With what a small program begins: all addresses and bytes, and what is mapped at each end.
use Rattle.std.proofs.Common.{◌≡◌, ℕ, ◌+◌, ◌-◌, ◌^◌, Bool, true, false, List, [], ◌∷◌, length, Some, refl}
use Rattle.std.specs.Prelude.{codes}
use Rattle.hx_base.specs.Memory.{Memory, bytes_at, is_mapped}
use Rattle.flat_code.specs.declared.program.FlatProgram.{FlatProgram}
use Rattle.flat_code.specs.declared.program.Item.TheVariants as item
use Rattle.flat_code.specs.declared.value.Value.TheVariants.{Number}
use Rattle.flat_code.specs.Addresses.{addresses, address_at, address_named}
use Rattle.flat_code.specs.Code.{Ret}
use Rattle.flat_code.specs.Run.{start_world, before_calls}
use Rattle.flat_code.specs.State.{State}
use Rattle.flat_code.specs.WellFormed.{IsWellFormed, passes}
use Rattle.flat_code.proofs.Passes.{passes_is}
use Rattle.flat_code.proofs.RowPrograms.{plain, global, program}
use Rattle.flat_laws.specs.Starts.{argument_address, arguments_end, Part, Global, Record, Text, part_start, part_size}

-- globals of alignment 1 and 16, an empty one of alignment 2, and one that names another with an offset
abbrev four : FlatProgram
four = program (plain (codes "main") 0 0 (Ret (Some (Number 1)) ∷ []) ∷ []) (
    global (codes "a") 1 (item.Bytes (codes "xyz") ∷ [])
    ∷ global (codes "b") 16 (item.Number 4 66051 ∷ item.Number 2 65537 ∷ [])
    ∷ global (codes "c") 2 []
    ∷ global (codes "d") 8 (item.Symbol (codes "b") 4 ∷ item.Zero 3 ∷ [])
    ∷ [])

-- three arguments, of which one is empty
abbrev words : List (List ℕ)
words = codes "ab" ∷ [] ∷ codes "xyz" ∷ []

-- the fill byte is 9
abbrev begun : State
begun = before_calls (start_world four words (codes "in") 9)

abbrev start : Memory
start = begun.world.memory

-- the laws speak of this program
is_well_formed : IsWellFormed four
unfolding passes
is_well_formed = (passes_is four).0 refl

-- ---- addresses

all_addresses : addresses four ≡ (codes "a", 2 ^ 33) ∷ (codes "b", 2 ^ 33 + 16) ∷ (codes "c", 2 ^ 33 + 22) ∷ (codes "d", 2 ^ 33 + 24) ∷ []
all_addresses = refl

by_number : address_at four 3 ≡ 2 ^ 33 + 24
by_number = refl

by_name : address_named four (codes "d") ≡ 2 ^ 33 + 24
by_name = refl

first_text : argument_address words 0 ≡ 2 ^ 36 + 72
first_text = refl

empty_text : argument_address words 1 ≡ 2 ^ 36 + 74
empty_text = refl

-- an empty argument takes a byte
last_text : argument_address words 2 ≡ 2 ^ 36 + 75
last_text = refl

texts_end : arguments_end words ≡ 2 ^ 36 + 78
texts_end = refl

-- two globals side by side, of three bytes and of none: no byte is shared, and none is skipped
abbrev beside : FlatProgram
beside = program (plain (codes "main") 0 0 [] ∷ []) (
    global (codes "a") 1 (item.Bytes (codes "xyz") ∷ [])
    ∷ global (codes "b") 1 []
    ∷ global (codes "c") 1 (item.Zero 2 ∷ [])
    ∷ [])

side_by_side : addresses beside ≡ (codes "a", 2 ^ 33) ∷ (codes "b", 2 ^ 33 + 3) ∷ (codes "c", 2 ^ 33 + 4) ∷ []
side_by_side = refl

last_byte_kept : bytes_at (before_calls (start_world beside [] [] 9)).world.memory (2 ^ 33) 7 ≡ 120 ∷ 121 ∷ 122 ∷ 9 ∷ 0 ∷ 0 ∷ 9 ∷ []
last_byte_kept = refl

-- ---- bytes

-- the bytes from an address on
abbrev holds : ℕ → List ℕ → Type 0
holds at bs = bytes_at start at (length bs) ≡ bs

-- and the byte behind was not written
first_global : holds (2 ^ 33) (codes "xyz") × holds (2 ^ 33 + 3) (9 ∷ [])
first_global = (refl, refl)

-- numbers have their lowest byte first, and are cut to their width
second_global : holds (2 ^ 33 + 16) (3 ∷ 2 ∷ 1 ∷ 0 ∷ 1 ∷ 0 ∷ [])
second_global = refl

-- an empty global has a byte, which was not written
empty_global : holds (2 ^ 33 + 22) (9 ∷ [])
empty_global = refl

-- 2 ^ 33 + 16 and 4, and three bytes of 0
last_global : holds (2 ^ 33 + 24) (20 ∷ 0 ∷ 0 ∷ 0 ∷ 2 ∷ 0 ∷ 0 ∷ 0 ∷ 0 ∷ 0 ∷ 0 ∷ [])
last_global = refl

-- 2 ^ 36 is 16 times 2 ^ 32
first_record : holds (2 ^ 36) (72 ∷ 0 ∷ 0 ∷ 0 ∷ 16 ∷ 0 ∷ 0 ∷ 0 ∷ 2 ∷ 0 ∷ 0 ∷ 0 ∷ 0 ∷ 0 ∷ 0 ∷ 0 ∷ 2 ∷ 0 ∷ 0 ∷ 0 ∷ 0 ∷ 0 ∷ 0 ∷ 0 ∷ [])
first_record = refl

empty_record : holds (2 ^ 36 + 24) (74 ∷ 0 ∷ 0 ∷ 0 ∷ 16 ∷ 0 ∷ 0 ∷ 0 ∷ 0 ∷ 0 ∷ 0 ∷ 0 ∷ 0 ∷ 0 ∷ 0 ∷ 0 ∷ 0 ∷ 0 ∷ 0 ∷ 0 ∷ 0 ∷ 0 ∷ 0 ∷ 0 ∷ [])
empty_record = refl

last_record : holds (2 ^ 36 + 48) (75 ∷ 0 ∷ 0 ∷ 0 ∷ 16 ∷ 0 ∷ 0 ∷ 0 ∷ 3 ∷ 0 ∷ 0 ∷ 0 ∷ 0 ∷ 0 ∷ 0 ∷ 0 ∷ 3 ∷ 0 ∷ 0 ∷ 0 ∷ 0 ∷ 0 ∷ 0 ∷ 0 ∷ [])
last_record = refl

-- "ab", the byte of the empty argument, and "xyz"
texts : holds (2 ^ 36 + 72) (97 ∷ 98 ∷ 9 ∷ 120 ∷ 121 ∷ 122 ∷ [])
texts = refl

-- ---- what is mapped

-- whether both of two addresses are mapped
abbrev maps : (a b : ℕ) → Bool → Type 0
maps a b mapped = (is_mapped start a ≡ mapped) × (is_mapped start b ≡ mapped)

before : maps 0 (2 ^ 33 - 1) false
before = (refl, refl)

first_mapped : maps (2 ^ 33) (2 ^ 33 + 2) true
first_mapped = (refl, refl)

-- what an alignment skips is not
gap : maps (2 ^ 33 + 3) (2 ^ 33 + 15) false
gap = (refl, refl)

second_mapped : maps (2 ^ 33 + 16) (2 ^ 33 + 21) true
second_mapped = (refl, refl)

empty_mapped : is_mapped start (2 ^ 33 + 22) ≡ true
empty_mapped = refl

skipped : is_mapped start (2 ^ 33 + 23) ≡ false
skipped = refl

last_mapped : maps (2 ^ 33 + 24) (2 ^ 33 + 34) true
last_mapped = (refl, refl)

between : maps (2 ^ 33 + 35) (2 ^ 36 - 1) false
between = (refl, refl)

records_mapped : maps (2 ^ 36) (2 ^ 36 + 71) true
records_mapped = (refl, refl)

texts_mapped : maps (2 ^ 36 + 72) (2 ^ 36 + 77) true
texts_mapped = (refl, refl)

behind : maps (2 ^ 36 + 78) (2 ^ 37) false
behind = (refl, refl)

frames_not : maps (2 ^ 40) (2 ^ 48) false
frames_not = (refl, refl)

-- ---- parts

-- where a part begins and how many bytes it takes
abbrev takes : Part → (start size : ℕ) → Type 0
takes part start size = (part_start four words part ≡ start) × (part_size four words part ≡ size)

global_part : takes (Global 3) (2 ^ 33 + 24) 11
global_part = (refl, refl)

empty_part : takes (Global 2) (2 ^ 33 + 22) 1
empty_part = (refl, refl)

record_part : takes (Record 2) (2 ^ 36 + 48) 24
record_part = (refl, refl)

text_part : takes (Text 1) (2 ^ 36 + 74) 1
text_part = (refl, refl)

-- what is not there takes nothing
no_global : part_size four words (Global 4) ≡ 0
no_global = refl

no_record : part_size four words (Record 3) ≡ 0
no_record = refl

no_text : part_size four words (Text 3) ≡ 0
no_text = refl

-- ---- the state

frames_begin : (begun.frame ≡ 2 ^ 40) × (begun.top ≡ 2 ^ 40)
frames_begin = (refl, refl)

nothing_counted : (begun.steps ≡ 0) × (begun.cost ≡ 0) × (begun.most ≡ 0)
nothing_counted = (refl, refl, refl)

empty_heap : (begun.world.heap.next ≡ 2 ^ 48) × (begun.world.heap.blocks ≡ [])
empty_heap = (refl, refl)

the_rest : (begun.world.input ≡ codes "in") × (begun.world.output ≡ []) × (begun.world.arguments ≡ 3)
the_rest = (refl, refl, refl)
