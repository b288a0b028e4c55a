-- How small modules use memory and the runtime.
use Rattle.std.proofs.Common.{◌≡◌, ℕ, ◌+◌, ◌^◌, false, List, [], ◌∷◌, ◌++◌, Some, None, refl, codes}
use Rattle.hx_base.specs.declared.Class.TheVariants.{W, L}
use Rattle.il_code.specs.declared.op.IlOp.TheVariants.{Add, Sub, Alloc4, Loadub, Loadsb, Loadl}
use Rattle.il_code.specs.declared.types.MachineFault.TheVariants as fault
use Rattle.il_code.specs.declared.types.IlItem.{IlItem}
use Rattle.il_code.specs.declared.types.IlItem.TheVariants.{Function}
use Rattle.il_code.specs.declared.types.Module.{Module}
use Rattle.il_code.specs.declared.types.Part.TheVariants as part
use Rattle.il_code.specs.declared.types.PartValue.TheVariants as value
use Rattle.il_code.specs.declared.types.IlValue.TheVariants.{Number, Symbol}
use Rattle.il_code.specs.declared.types.Inst.{Inst}
use Rattle.il_code.specs.declared.types.IlValue.{IlValue}
use Rattle.il_code.specs.declared.types.Inst.TheVariants.{Store, Call}
use Rattle.il_code.specs.declared.types.Jump.TheVariants.{Ret}
use Rattle.il_code.specs.Machine.{Exit, Abort, Fault, Spent}
use Rattle.il_code.specs.Addresses.{address}
use Rattle.il_code.proofs.RunModules.{only_block, arg, main, data_item, module_of, main_of, one, two, temp, runs, gives, result, ends}

-- ---- the stack

-- stored and loaded: 258 is the bytes 2 and 1, the lowest first
abbrev storing : Module
storing = main_of (one (codes "a") L Alloc4 (Number 4) ∷ Store 4 (Number 258) (temp (codes "a")) ∷ two (codes "b") L Add (temp (codes "a"))
    (Number 1) ∷ one (codes "x") W Loadub (temp (codes "b")) ∷ []) (Ret (Some (temp (codes "x"))))

stored : ends storing 9 ≡ Exit 1
stored = refl

-- what was not stored is the fill byte
new_bytes : ends (main_of (one (codes "a") L Alloc4 (Number 1) ∷ one (codes "x") W Loadub (temp (codes "a")) ∷ [])
    (Ret (Some (temp (codes "x"))))) 9 ≡ Exit 170
new_bytes = refl

-- the bytes 255 of a temporary, loaded with their sign and shown modulo 256 after 1 is added
abbrev extended : Module
extended = main_of (one (codes "a") L Alloc4 (Number 4) ∷ Store 1 (Number 511) (temp (codes "a")) ∷ one (codes "x") L Loadsb
    (temp (codes "a")) ∷ two (codes "x") L Add (temp (codes "x")) (Number 1) ∷ []) (Ret (Some (temp (codes "x"))))

sign_extended : ends extended 9 ≡ Exit 0
sign_extended = refl

-- a function whose 8 bytes are loaded first, and then set
abbrev keeping : List Inst → Module
keeping insts = module_of (
    Function false (Some L) (codes "f") [] (only_block
    (one (codes "a") L Alloc4 (Number 8) ∷ one (codes "x") L Loadl (temp (codes "a")) ∷ Store 8 (Number 7) (temp (codes "a")) ∷ [])
    (Ret (Some (temp (codes "x")))))
    ∷ main (Some W) (only_block insts (Ret (Some (temp (codes "y"))))) ∷ [])

-- bytes above a lowered stack are kept, and seen again
kept : ends (keeping (gives (codes "y") L (codes "f") [] ∷ gives (codes "y") L (codes "f") [] ∷ [])) 99 ≡ Exit 7
kept = refl

-- and are not mapped in between: 2 ^ 40
unmapped : ends (keeping (gives (codes "y") L (codes "f") [] ∷ one (codes "y") L Loadl (Number 1099511627776) ∷ [])) 99 ≡ Fault fault.Wild
unmapped = refl

-- ---- data

-- at 2 ^ 33: `b 1 "ab"`, `w 258 300`, `z 2`; at the next multiple of 8 `l $first + 2`; functions at 2 ^ 32
abbrev items : Module
items = module_of (
    data_item (codes "first") 1 (part.Values 1 (value.Number 257 ∷ value.Str (codes "ab") ∷ []) ∷ part.Values 2 (value.Number 65538 ∷ []) ∷
    part.Zero 2 ∷ [])
    ∷ Function false None (codes "f") [] (only_block [] (Ret None))
    ∷ data_item (codes "none") 1 []
    ∷ data_item (codes "second") 8 (part.Values 8 (value.Symbol (codes "first") 2 ∷ []) ∷ [])
    ∷ main None (only_block (runs (codes "rt.puts") (Symbol (codes "first") ∷ Number 7 ∷ []) ∷ one (codes "p") L Loadl
    (Symbol (codes "second")) ∷ runs (codes "rt.puts") (temp (codes "p") ∷ Number 1 ∷ []) ∷ runs (codes "rt.puts")
    (Symbol (codes "none") ∷ Number 1 ∷ []) ∷ []) (Ret None)) ∷ [])

item_bytes : result items [] [] 9 ≡ (Exit 0, 1 ∷ 97 ∷ 98 ∷ 2 ∷ 0 ∷ 0 ∷ 0 ∷ 98 ∷ 170 ∷ [])
item_bytes = refl

first_at : address items (codes "first") ≡ 2 ^ 33
first_at = refl

none_at : address items (codes "none") ≡ 2 ^ 33 + 7
none_at = refl

second_at : address items (codes "second") ≡ 2 ^ 33 + 8
second_at = refl

f_at : address items (codes "f") ≡ 2 ^ 32
f_at = refl

main_at : address items (codes "main") ≡ 2 ^ 32 + 16
main_at = refl

-- ---- the heap

abbrev malloc_then : ℕ → List Inst → IlValue → Module
malloc_then n insts v = main_of (gives (codes "p") L (codes "rt.malloc") (Number n ∷ []) ∷ insts) (Ret (Some v))

abbrev free_p : Inst
free_p = runs (codes "rt.free") (temp (codes "p") ∷ [])

-- a block is new, and holds the fill byte
block_new : ends (malloc_then 1 (one (codes "x") W Loadub (temp (codes "p")) ∷ []) (temp (codes "x"))) 9 ≡ Exit 170
block_new = refl

block_freed : ends (malloc_then 1 (free_p ∷ one (codes "x") W Loadub (temp (codes "p")) ∷ []) (temp (codes "x"))) 9 ≡ Fault fault.Wild
block_freed = refl

freed_twice : ends (malloc_then 1 (free_p ∷ free_p ∷ []) (Number 0)) 9 ≡ Fault fault.BadFree
freed_twice = refl

freed_inside : ends (malloc_then 2 (two (codes "p") L Add (temp (codes "p")) (Number 1) ∷ free_p ∷ []) (Number 0)) 9 ≡ Fault fault.BadFree
freed_inside = refl

-- the next block stands 16 bytes above, or 32 where the first has 17 bytes, also where that is freed
blocks_16 : ends (malloc_then 0 (gives (codes "q") L (codes "rt.malloc") (Number 5 ∷ []) ∷ two (codes "d") L Sub (temp (codes "q"))
    (temp (codes "p")) ∷ []) (temp (codes "d"))) 9 ≡ Exit 16
blocks_16 = refl

blocks_32 : ends (malloc_then 17 (free_p ∷ gives (codes "q") L (codes "rt.malloc") (Number 5 ∷ []) ∷ two (codes "d") L Sub
    (temp (codes "q")) (temp (codes "p")) ∷ []) (temp (codes "d"))) 9 ≡ Exit 32
blocks_32 = refl

-- 67,108,864 bytes may be live, and not one more; a block that is freed counts no more
abbrev second_block : List Inst → Module
second_block insts = malloc_then 67108864 (insts ++ gives (codes "q") L (codes "rt.malloc") (Number 0 ∷ []) ∷ []) (temp (codes "q"))

heap_full : ends (second_block []) 9 ≡ Exit 0
heap_full = refl

heap_free : ends (malloc_then 67108864 (free_p ∷ gives (codes "q") L (codes "rt.malloc") (Number 0 ∷ []) ∷ two (codes "q") L Sub
    (temp (codes "q")) (temp (codes "p")) ∷ two (codes "q") L Sub (temp (codes "q")) (Number 67108863) ∷ []) (temp (codes "q"))) 9 ≡ Exit 1
heap_free = refl

too_large : ends (malloc_then 18446744073709551615 [] (temp (codes "p"))) 9 ≡ Exit 0
too_large = refl

-- ---- the runtime

abbrev text : List ℕ → IlItem
text s = data_item (codes "t") 1 (part.Values 1 (value.Str s ∷ []) ∷ [])

abbrev with_text : List ℕ → List Inst → Module
with_text s insts = module_of (text s ∷ main None (only_block insts (Ret None)) ∷ [])

put_and_written : result (with_text (codes "hello")
    (runs (codes "rt.puts") (Symbol (codes "t") ∷ Number 4 ∷ []) ∷ runs (codes "rt.write") (Symbol (codes "t") ∷ Number 2 ∷ []) ∷ [])) [] []
    9 ≡ (Exit 0, codes "hellhe")
put_and_written = refl

-- what was put stands also where the run is spent behind it
put_and_spent : result (with_text (codes "hello") (runs (codes "rt.puts") (Symbol (codes "t") ∷ Number 5 ∷ []) ∷ [])) [] [] 1 ≡
    (Spent, codes "hello")
put_and_spent = refl

put_wild : result (with_text (codes "hello") (runs (codes "rt.puts") (Symbol (codes "t") ∷ Number 6 ∷ []) ∷ [])) [] [] 9 ≡
    (Fault fault.Wild, [])
put_wild = refl

-- no bytes touch nothing
put_none : result (with_text (codes "hello") (runs (codes "rt.puts") (Number 0 ∷ Number 0 ∷ []) ∷ [])) [] [] 9 ≡ (Exit 0, [])
put_none = refl

aborted : result (with_text (codes "hello") (runs (codes "rt.abort") (Symbol (codes "t") ∷ Number 3 ∷ []) ∷ [])) [] [] 9 ≡
    (Abort (codes "hel"), [])
aborted = refl

exited : ends (main_of (Call None (codes "rt.exit") (arg W (Number 259) ∷ []) ∷ []) (Ret None)) 1 ≡ Exit 3
exited = refl

-- three bytes are there, of which two are asked for and then two more
abbrev reading : Module
reading = with_text (codes ".....") (
    gives (codes "n") L (codes "rt.read") (Symbol (codes "t") ∷ Number 2 ∷ []) ∷ runs (codes "rt.puts") (Symbol (codes "t") ∷ Number 5 ∷ [])
    ∷ gives (codes "n") L (codes "rt.read") (Symbol (codes "t") ∷ Number 2 ∷ []) ∷ runs (codes "rt.puts")
    (Symbol (codes "t") ∷ temp (codes "n") ∷ []) ∷ [])

read_twice : result reading [] (codes "abc") 9 ≡ (Exit 0, codes "ab...c")
read_twice = refl

-- overlaps are allowed: all is read before it is written
moved : result (with_text (codes "abcd") (two (codes "q") L Add (Symbol (codes "t")) (Number 1) ∷ runs (codes "rt.move")
    (temp (codes "q") ∷ Symbol (codes "t") ∷ Number 3 ∷ []) ∷ runs (codes "rt.puts") (Symbol (codes "t") ∷ Number 4 ∷ []) ∷ [])) [] [] 9 ≡
    (Exit 0, codes "aabc")
moved = refl

abbrev comparing : ℕ → Module
comparing n = module_of (
    text (codes "abcabd")
    ∷ main (Some W) (only_block (two (codes "q") L Add (Symbol (codes "t")) (Number 3) ∷ gives (codes "e") W (codes "rt.same")
    (Symbol (codes "t") ∷ temp (codes "q") ∷ Number n ∷ []) ∷ []) (Ret (Some (temp (codes "e"))))) ∷ [])

same_2 : ends (comparing 2) 9 ≡ Exit 1
same_2 = refl

same_3 : ends (comparing 3) 9 ≡ Exit 0
same_3 = refl

same_4 : ends (comparing 4) 9 ≡ Fault fault.Wild
same_4 = refl

-- ---- arguments

-- the text of argument i, by its record
abbrev argument : ℕ → Module
argument i = main_of (
    gives (codes "r") L (codes "rt.arg") (Number i ∷ []) ∷ one (codes "p") L Loadl (temp (codes "r"))
    ∷ two (codes "r") L Add (temp (codes "r")) (Number 8) ∷ one (codes "n") L Loadl (temp (codes "r"))
    ∷ runs (codes "rt.puts") (temp (codes "p") ∷ temp (codes "n") ∷ [])
    ∷ two (codes "r") L Add (temp (codes "r")) (Number 8) ∷ one (codes "n") L Loadl (temp (codes "r")) ∷ [])
    (Ret (Some (temp (codes "n"))))

argument_0 : result (argument 0) (codes "one" ∷ [] ∷ codes "three" ∷ []) [] 9 ≡ (Exit 3, codes "one")
argument_0 = refl

-- an empty argument takes a byte too
argument_2 : result (argument 2) (codes "one" ∷ [] ∷ codes "three" ∷ []) [] 9 ≡ (Exit 5, codes "three")
argument_2 = refl

argument_3 : result (argument 3) (codes "one" ∷ [] ∷ codes "three" ∷ []) [] 9 ≡ (Fault fault.BadArg, [])
argument_3 = refl
