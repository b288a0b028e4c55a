-- Which code is well formed: loads, stores, moves, frames and calls as they should be, and each of their rules broken once.
use Rattle.std.proofs.Common.{◌≡◌, ℕ, ◌+◌, ◌-◌, ◌^◌, Bool, true, false, List, [], ◌∷◌, Option, Some, None, refl}
use Rattle.std.specs.Prelude.{codes}
use Rattle.std.specs.List.{list_all}
use Rattle.hx_base.specs.declared.Class.{Class}
use Rattle.hx_base.specs.declared.Class.TheVariants.{W, L}
use Rattle.flat_code.specs.declared.op.Op.TheVariants.{Copy}
use Rattle.flat_code.specs.declared.op.LoadKind.TheVariants as how
use Rattle.flat_code.specs.declared.program.FlatFn.{FlatFn}
use Rattle.flat_code.specs.declared.program.FlatProgram.{FlatProgram}
use Rattle.flat_code.specs.declared.program.Item.TheVariants as item
use Rattle.flat_code.specs.declared.flat.Flat.TheVariants as flat
use Rattle.flat_code.specs.declared.value.Value.TheVariants.{Temp, Number, Symbol, Frame}
use Rattle.flat_code.specs.Code.{Code, Set, Load, Store, Move, Call, Ret}
use Rattle.flat_code.specs.WellFormed.{IsWellFormed, passes, is_function_right}
use Rattle.flat_code.proofs.Passes.{passes_is}
use Rattle.flat_code.proofs.RowPrograms.{plain, global, program}

-- a function with parameters, of four temporaries and no frame
abbrev with_params : List ℕ → List Class → Option Class → List Code → FlatFn
with_params name params result cs = record { name = name; params = params; result = result; temps = 4; frame = 0; body = flat.Seq cs }

-- `main` of eight temporaries and so many bytes, of which temporary 0 is set as a word and 1 as a long, in a program with a global and
-- three more functions: of a word, of a long and a word, and of nothing
abbrev framed : ℕ → List Code → FlatProgram
framed frame cs = program (
    plain (codes "main") 8 frame (Set 0 W Copy (Number 1) (Number 0) ∷ Set 1 L Copy (Number 1) (Number 0) ∷ cs)
    ∷ with_params (codes "h.word") (W ∷ []) (Some W) (Ret (Some (Temp 0)) ∷ [])
    ∷ with_params (codes "h.long") (L ∷ W ∷ []) (Some L) (Ret (Some (Temp 0)) ∷ [])
    ∷ with_params (codes "h.none") [] None (Ret None ∷ []) ∷ [])
    (global (codes "text") 1 (item.Bytes (codes "ab") ∷ []) ∷ [])

-- whether the functions of this program keep the rules, `main` having 32 bytes
abbrev is_kept : List Code → Bool
is_kept cs = list_all (is_function_right (framed 32 cs)) (framed 32 cs).functions

-- the whole program, with each form
every_form : IsWellFormed (framed 32 (
    Load 2 how.Sb (Frame 31)
    ∷ Store 8 (Temp 1) (Symbol 0 0)
    ∷ Move (Frame 0) (Temp 1) 32
    ∷ Call (Some 3) (codes "h.long") (Temp 1 ∷ Temp 0 ∷ []) ∷ []))
unfolding passes
every_form = (passes_is _).0 refl

-- ---- frames

last_byte : is_kept (Load 2 how.Ub (Frame 31) ∷ []) ≡ true
last_byte = refl

-- a place of the frame lies below its end
behind_the_frame : is_kept (Load 2 how.Ub (Frame 32) ∷ []) ≡ false
behind_the_frame = refl

-- and is a long
frame_as_a_word : is_kept (Set 2 W Copy (Frame 0) (Number 0) ∷ []) ≡ false
frame_as_a_word = refl

greatest_frame : list_all (is_function_right (framed (2 ^ 64 - 1) (Load 2 how.L (Frame (2 ^ 64 - 2)) ∷ [])))
    (framed (2 ^ 64 - 1) (Load 2 how.L (Frame (2 ^ 64 - 2)) ∷ [])).functions ≡ true
greatest_frame = refl

-- ---- loads, stores and moves

-- a load sets a long, however few bytes it reads
loaded_is_a_long : is_kept (Load 2 how.Ub (Frame 0) ∷ Set 3 L Copy (Temp 2) (Number 0) ∷ []) ≡ true
loaded_is_a_long = refl

load_to_a_word : is_kept (Load 0 how.Uw (Frame 0) ∷ []) ≡ false
load_to_a_word = refl

load_past_the_temporaries : is_kept (Load 8 how.Ub (Frame 0) ∷ []) ≡ false
load_past_the_temporaries = refl

load_at_a_word : is_kept (Load 2 how.Ub (Temp 0) ∷ []) ≡ false
load_at_a_word = refl

-- a store of 1, 2 or 4 bytes takes a word or a long, and one of 8 a long
stores : is_kept (Store 1 (Temp 0) (Frame 0) ∷ Store 2 (Temp 1) (Frame 0) ∷ Store 4 (Temp 0) (Frame 0) ∷ Store 8 (Temp 1) (Frame 0) ∷ [])
    ≡ true
stores = refl

store_of_three_bytes : is_kept (Store 3 (Temp 0) (Frame 0) ∷ []) ≡ false
store_of_three_bytes = refl

store_of_a_word : is_kept (Store 8 (Temp 0) (Frame 0) ∷ []) ≡ false
store_of_a_word = refl

store_at_a_word : is_kept (Store 1 (Temp 0) (Temp 0) ∷ []) ≡ false
store_at_a_word = refl

most_moved : is_kept (Move (Frame 0) (Temp 1) (2 ^ 30) ∷ []) ≡ true
most_moved = refl

too_many_moved : is_kept (Move (Frame 0) (Temp 1) (2 ^ 30 + 1) ∷ []) ≡ false
too_many_moved = refl

move_to_a_word : is_kept (Move (Temp 0) (Frame 0) 1 ∷ []) ≡ false
move_to_a_word = refl

move_from_a_word : is_kept (Move (Frame 0) (Temp 0) 1 ∷ []) ≡ false
move_from_a_word = refl

-- ---- calls

-- a word parameter is given a word or a long, and a long one a long
arguments : is_kept (Call None (codes "h.word") (Temp 0 ∷ []) ∷ Call None (codes "h.word") (Temp 1 ∷ []) ∷ Call None (codes "h.long")
    (Frame 0 ∷ Number 7 ∷ []) ∷ []) ≡ true
arguments = refl

word_for_a_long : is_kept (Call None (codes "h.long") (Temp 0 ∷ Temp 0 ∷ []) ∷ []) ≡ false
word_for_a_long = refl

argument_missing : is_kept (Call None (codes "h.long") (Temp 1 ∷ []) ∷ []) ≡ false
argument_missing = refl

argument_too_many : is_kept (Call None (codes "h.word") (Temp 0 ∷ Temp 0 ∷ []) ∷ []) ≡ false
argument_too_many = refl

-- what is not set is no argument
argument_not_set : is_kept (Call None (codes "h.word") (Temp 2 ∷ []) ∷ []) ≡ false
argument_not_set = refl

-- a name calls a function of the program, itself and `main` among them, or else of the runtime
calls_of_all : is_kept (Call None (codes "h.none") [] ∷ Call (Some 0) (codes "main") [] ∷ Call (Some 2) (codes "rt.nargs") [] ∷ []) ≡ true
calls_of_all = refl

no_such_function : is_kept (Call None (codes "h.more") [] ∷ []) ≡ false
no_such_function = refl

no_such_function_of_the_runtime : is_kept (Call None (codes "rt.none") [] ∷ []) ≡ false
no_such_function_of_the_runtime = refl

-- a result sets a temporary at its class
results : is_kept (Call (Some 2) (codes "h.long") (Temp 1 ∷ Temp 0 ∷ []) ∷ Call (Some 3) (codes "h.word") (Temp 2 ∷ []) ∷ Set 4 L Copy
    (Temp 2) (Number 0) ∷ Set 5 W Copy (Temp 3) (Number 0) ∷ []) ≡ true
results = refl

result_of_a_word_as_a_long : is_kept (Call (Some 3) (codes "h.word") (Temp 1 ∷ []) ∷ Set 4 L Copy (Temp 3) (Number 0) ∷ []) ≡ false
result_of_a_word_as_a_long = refl

result_at_another_class : is_kept (Call (Some 0) (codes "h.long") (Temp 1 ∷ Temp 0 ∷ []) ∷ []) ≡ false
result_at_another_class = refl

result_past_the_temporaries : is_kept (Call (Some 8) (codes "h.word") (Temp 1 ∷ []) ∷ []) ≡ false
result_past_the_temporaries = refl

result_of_nothing : is_kept (Call (Some 2) (codes "h.none") [] ∷ []) ≡ false
result_of_nothing = refl

-- ---- names of the runtime

-- A function of the program with a name of the runtime would be called in its place: here with no argument and for a word. So no function
-- may have such a name.
abbrev taken : FlatProgram
taken = program (
    plain (codes "main") 1 0 (Call (Some 0) (codes "rt.malloc") [] ∷ Ret (Some (Temp 0)) ∷ [])
    ∷ with_params (codes "rt.malloc") [] (Some W) [] ∷ []) []

calls_the_first : is_function_right taken (plain (codes "main") 1 0 (Call (Some 0) (codes "rt.malloc") [] ∷ [])) ≡ true
calls_the_first = refl

name_taken : passes taken ≡ false
unfolding passes
name_taken = refl
