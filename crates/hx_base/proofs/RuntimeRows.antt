-- What functions of the runtime do at their limits.
use Rattle.std.proofs.Common.{◌≡◌, ℕ, ◌+◌, ◌-◌, ◌^◌, [], ◌∷◌, Some, None, refl, codes}
use Rattle.hx_base.specs.Memory.{empty_memory, bytes_at, load}
use Rattle.hx_base.specs.Runtime.{World, Act, Gives, Faults, Full, Wild, malloc, read, with_arguments}

-- a heap with so many bytes in one live block, and the next block at an address
abbrev heap_at : ℕ → ℕ → World
heap_at live next = record {
  memory = empty_memory 7;
  heap = record { next = next; blocks = (2 ^ 48, live) ∷ [] };
  input = codes "abc";
  output = [];
  arguments = 0;
}

-- what an act gives, or how it ends the program
data Result : Type 0 where
  value : ℕ → Result
  full : Result
  other : Result

abbrev result : Act → Result
result (Gives v moved w) = value v
result Full = full
result a = other

-- a block may end at 2 ^ 63
block_fits : result (malloc (heap_at 1 (2 ^ 63 - 16)) 16) ≡ value (2 ^ 63 - 16)
block_fits = refl

block_ends_above : result (malloc (heap_at 1 (2 ^ 63 - 16)) 17) ≡ full
block_ends_above = refl

-- 67,108,864 bytes with the 16 of the new block
live_most : result (malloc (heap_at 67108848 (2 ^ 49)) 16) ≡ value (2 ^ 49)
live_most = refl

-- one byte more counts as 16
live_more : result (malloc (heap_at 67108849 (2 ^ 49)) 1) ≡ value 0
live_more = refl

-- that too many bytes would be live is looked at first
live_first : result (malloc (heap_at 67108849 (2 ^ 63)) 1) ≡ value 0
live_first = refl

-- where not all bytes are mapped no input is taken
read_wild : read (heap_at 1 (2 ^ 49)) 0 1 ≡ Faults Wild
read_wild = refl

read_none : result (read (heap_at 1 (2 ^ 49)) 0 0) ≡ value 0
read_none = refl

-- ---- the table of arguments

-- of `ab` and the empty text: two records, and three bytes
table : bytes_at (with_arguments (empty_memory 7) (codes "ab" ∷ [] ∷ [])) (2 ^ 36) 51 ≡
    48 ∷ 0 ∷ 0 ∷ 0 ∷ 16 ∷ 0 ∷ 0 ∷ 0 ∷ 2 ∷ 0 ∷ 0 ∷ 0 ∷ 0 ∷ 0 ∷ 0 ∷ 0 ∷ 2 ∷ 0 ∷ 0 ∷ 0 ∷ 0 ∷ 0 ∷ 0 ∷ 0
    ∷ 50 ∷ 0 ∷ 0 ∷ 0 ∷ 16 ∷ 0 ∷ 0 ∷ 0 ∷ 0 ∷ 0 ∷ 0 ∷ 0 ∷ 0 ∷ 0 ∷ 0 ∷ 0 ∷ 0 ∷ 0 ∷ 0 ∷ 0 ∷ 0 ∷ 0 ∷ 0 ∷ 0
    ∷ 97 ∷ 98 ∷ 7 ∷ []
table = refl

table_mapped : load (with_arguments (empty_memory 7) (codes "ab" ∷ [] ∷ [])) (2 ^ 36 + 50) 1 ≡ Some 7
table_mapped = refl

table_ends : load (with_arguments (empty_memory 7) (codes "ab" ∷ [] ∷ [])) (2 ^ 36 + 51) 1 ≡ None
table_ends = refl

no_table : load (with_arguments (empty_memory 7) []) (2 ^ 36) 1 ≡ None
no_table = refl
