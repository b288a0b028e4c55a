-- What a call asks of the input and may want memory for, in a world with one block of 5 bytes, of which three were written.
use Rattle.std.proofs.Common.{◌≡◌, ℕ, ◌+◌, true, [], ◌∷◌, refl, arith}
use Rattle.std.proofs.lemmas.Bool.Decides.{nat_tests}
use Rattle.std.specs.Prelude.{codes}
use Rattle.hx_base.specs.Memory.{empty_memory, write, map_range}
use Rattle.hx_base.specs.Runtime.{World, heap_start}
use Rattle.hx_base.specs.Runtime as runtime
use Rattle.hx_runtime.specs.declared.runtime.RuntimeFunction.TheVariants as function
use Rattle.il_mem.specs.Kept.{meets}
use Rattle.il_acts.specs.declared.acted.RuntimeFault.TheVariants as fault
use Rattle.il_acts.specs.Acts.{asked, Wants, fault_of}

abbrev world : World
world = record {
  memory = write (map_range (empty_memory 165) heap_start 5) heap_start (codes "abc");
  heap = record { next = heap_start + 16; blocks = (heap_start, 5) ∷ [] };
  input = codes "xyz";
  output = [];
  arguments = 2;
}

-- ---- input

-- a read asks for as many bytes as it is to read, however many are left
reads_the_block : asked function.Read (heap_start ∷ 5 ∷ []) world ≡ 5
reads_the_block = refl

-- but for none where one is not mapped
reads_too_far : asked function.Read (heap_start ∷ 6 ∷ []) world ≡ 0
reads_too_far = refl

-- an argument that is missing is 0
reads_nothing : asked function.Read (heap_start ∷ []) world ≡ 0
reads_nothing = refl

puts_ask_nothing : asked function.Puts (heap_start ∷ 5 ∷ []) world ≡ 0
puts_ask_nothing = refl

-- ---- memory

-- a block may be wanted
malloc_wants : Wants world function.Malloc (100 ∷ [])
malloc_wants = tt

-- but not by what is freed
free_wants_none : ¬ (Wants world function.Free (heap_start ∷ []))
free_wants_none w = w

-- a copy that is Wild wants none
wild_wants_none : ¬ (Wants world function.Move (heap_start ∷ (heap_start + 4) ∷ 2 ∷ []))
wild_wants_none w = w.goes

-- nor does one of no bytes
none_wants_none : ¬ (Wants world function.Move (heap_start ∷ heap_start ∷ 0 ∷ []))
none_wants_none w = meets_none w.page w.met
  where
    meets_none : (p : ℕ) → meets heap_start 0 p ≡ true → ⊥
    meets_none p e = absurd (grind (arith, nat_tests))

-- ---- faults

the_fault_of_free : fault_of fault.BadFree ≡ runtime.BadFree
the_fault_of_free = refl
